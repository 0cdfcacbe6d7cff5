use Rattle.std.proofs.Common.{◌+◌, ap, sym, ◌∙◌, arith}
use Rattle.seq_timer.specs.Steps.{Timer}
use Rattle.seq_timer.specs.declared.answer.ForwardAnswer.TheVariants as forwards
use Rattle.hr_timers.proofs.Making.{made_then, looks_refl}
use Rattle.hr_timers.proofs.Standing.{forward_same}
use Rattle.hr_timers.proofs.claiming.forward_held.Goals as goal

pub returns-clause-forwards : goal.returns-clause-forwards
returns-clause-forwards g c =
    let v = c.args.pass.now.knows in
    let w = c.enter_once.new.pass.knows in
    let same = forward_same _ _ c.in-Forward.ensures.reply in
    let stamp = c.stamp-stamp.ensures ∙ ap (λ (t : Timer). t.stamp) c.state_of-state.ensures in
    record {
      forwards = record {
        at = v.seen;
        made = made_then v v w c.args.claim.timer _ (looks_refl v) c.enter_once.ensures.adds;
        runs = c.requires.runs;
        base = c.requires.holds.on.at ∙ c.requires.base;
        fits = (
          omega (arith, stamp, c.limit.ensures ∙ ap (λ (t : Timer). t.terms.limit) c.state_of-state.ensures, c.if-stamp-limit.false),
          ap (λ (t : Timer). t.armed) (sym c.state_of-state.ensures) ∙ (sym c.armed.ensures ∙ c.in_default.is),
          (λ i. forwards.Forwarded (stamp i + 1) (same i)),
        );
        claims = c.enter_once.ensures.claims;
      };
      logged = c.enter_once.ensures.logged;
    }
