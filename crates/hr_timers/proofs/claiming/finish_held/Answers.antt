use Rattle.std.proofs.Common.{◌+◌, ap, ◌∙◌}
use Rattle.std.specs.Prelude.{unwrap_or}
use Rattle.pass_names.specs.Counts.{without_first}
use Rattle.base_row.specs.Calls.{timer_seen}
use Rattle.base_row.specs.Rules.{is_base_claim}
use Rattle.seq_timer.specs.Steps.{Timer, rearmed_at}
use Rattle.hr_timers.proofs.Making.{looks_refl, made_then}
use Rattle.hr_timers.proofs.Standing.{finish_same}
use Rattle.hr_timers.proofs.claiming.finish_held.Goals as goal

pub returns-clause-finishes : goal.returns-clause-finishes
returns-clause-finishes g c =
    let o = c.args.row.now.about in
    let v = c.args.pass.now.knows in
    let w = c.enter_once.new.pass.knows in
    let runs = c.requires.runs in
    let base = c.requires.holds.on.at ∙ c.requires.base in
    let stamp = c.stamp-stamp.ensures ∙ ap (λ (t : Timer). t.stamp) c.state_of-state.ensures in
    record {
      finishes = record {
        at = v.seen;
        made = made_then v v w c.args.claim.timer _ (looks_refl v) c.enter_once.ensures.adds;
        runs = runs;
        base = base;
        number = ap (λ n. n + 1) stamp;
        rearmed = c.at.ensures ∙ (λ i. rearmed_at (stamp i) (finish_same _ _ _ _ c.in-Finish.ensures.reply i));
        claims = c.enter_once.ensures.claims
            ∙ (ap (λ r. without_first (is_base_claim c.args.claim.timer (unwrap_or r 0) (timer_seen o v c.args.claim.timer).base) v.claims) runs
            ∙ ap (λ b. without_first (is_base_claim c.args.claim.timer c.args.claim.generation b) v.claims) base);
      };
      logged = c.enter_once.ensures.logged;
    }
