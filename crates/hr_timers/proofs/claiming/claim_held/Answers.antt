use Rattle.std.proofs.Common.{◌≡◌, ◌+◌, ◌++◌, [], ◌∷◌, sym, subst, ap, ◌∙◌, refl, false}
use Rattle.std.specs.Prelude.{Some, unwrap_or}
use Rattle.pass_names.specs.Counts.{count}
use Rattle.seq_timer.specs.declared.event.EventBy.TheVariants as events
use Rattle.seq_timer.specs.Steps.{Timer}
use Rattle.seq_timer.specs.Systems.{IsOn, next_on}
use Rattle.seq_timer.specs.Tables.{IsNextDue, in_context, runs_on}
use Rattle.base_row.specs.Rules.{is_base_claim}
use Rattle.base_row.specs.Calls.{MayAppend, base_seen, timer_seen}
use Rattle.hr_timers.proofs.Standing.{knows_in}
use Rattle.hr_timers.proofs.Claims.{claim_fresh, claim_on, may_claim}
use Rattle.hr_timers.proofs.Making.{looks_refl, made_then}
use Rattle.hr_timers.proofs.claiming.claim_held.Goals as goal

pub enter_once-requires-clause-may : goal.enter_once-requires-clause-may
enter_once-requires-clause-may g c =
    let o = c.args.row.now.about in
    let v = c.args.pass.now.knows in
    let r = c.requires in
    let first = subst (λ b. next_on c.args.context (base_seen o v b) c.args.reading ≡ Some ((timer_seen o v c.args.timer).expires, c.args.timer))
    (sym r.base) r.first in
    let may = may_claim o v (knows_in o v r.holds.row.about c.known.ensures) c.args.held c.args.context c.args.timer c.args.reading r.holds.held r.timer
    r.unmarked r.context r.idle r.next first in
    subst (λ b. MayAppend o v c.args.held c.args.timer (events.Claim b c.args.reading)) r.base may

pub returns-clause-claimed : goal.returns-clause-claimed
returns-clause-claimed g c =
    let o = c.args.row.now.about in
    let v = c.args.pass.now.knows in
    let w = c.enter_once.new.pass.knows in
    let x = c.args.context in
    let id = c.args.timer in
    let t : Timer = timer_seen o v id in
    let r = c.requires in
    let knows = knows_in o v r.holds.row.about c.known.ensures in
    let first = subst (λ b. next_on x (base_seen o v b) c.args.reading ≡ Some ((timer_seen o v id).expires, id)) (sym r.base) r.first in
    let on : IsOn c.args.held.base t = claim_on o v knows c.args.held x id c.args.reading r.holds.held r.timer r.unmarked r.context r.idle r.next first in
    let is = c.state.ensures.kept on in
    let armed : t.armed ≡ Some c.numbers-generation.result.0 = ap (λ (k : Timer). k.armed) (sym is) ∙ c.numbers-generation.ensures.armed in
    let here : t.base ≡ c.args.base = on.at ∙ r.base in record {
      claims = record {
        at = v.seen;
        made = made_then v v w id _ (looks_refl v) c.enter_once.ensures.adds;
        context = r.context;
        idle = λ k. subst (λ b. runs_on b (in_context x (timer_seen o v) k) ≡ false) r.base (r.idle k);
        next = subst (λ b. IsNextDue (in_context x (timer_seen o v)) b c.args.reading id) r.base r.next;
        first = r.first;
        within = r.timer;
        armed = armed;
        there = refl;
        number = c.numbers-generation.ensures.number ∙ ap (λ (k : Timer). k.stamp + 1) is;
        fresh = subst (λ b. count (is_base_claim id c.numbers-generation.result.0 b) v.claims ≡ 0) r.base
            (claim_fresh o v knows c.args.held x id c.args.reading r.holds.held r.timer r.unmarked r.context r.idle r.next first c.numbers-generation.result.0);
        claims = c.enter_once.ensures.claims
            ∙ (λ i. v.claims ++ record { timer = id; generation = unwrap_or (armed i) 0; base = here i } ∷ []);
      };
      logged = c.enter_once.ensures.logged;
    }
