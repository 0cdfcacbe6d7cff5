use Rattle.std.proofs.Common.{◌≡◌, ◌∙◌, ap, false, refl, sym, true}
use Rattle.std.proofs.lemmas.Bool.{true≢false}
use Rattle.std.specs.Prelude.{None, Option, Some, is_some}
use Rattle.seq_timer.specs.Steps.{Timer}
use Rattle.pass_names.proofs.Passes.{begins_trans}
use Rattle.hr_timers.proofs.Behind.{behind_none}
use Rattle.hr_timers.proofs.Making.{looks_trans}
use Rattle.hr_timers.proofs.cancelling.try_to_cancel_behind.Goals as goal

not_some : {T : Type 0} (r : Option T) → is_some r ≡ false → r ≡ None
not_some None is = refl
not_some (Some x) is = absurd (true≢false is)

pub returns-then-is_some-clause-cancels : goal.returns-then-is_some-clause-cancels
returns-then-is_some-clause-cancels g c =
    let tells = c.cancel_held.ensures.running in
    let is = c.state_of.ensures in
    let runs = c.running.ensures in
    let some = c.is_some.ensures in
    let here = c.if-is_some.ensures in
    behind_none g.S.ReceiptSink.pushed c.args.row.now.about c.args.pass.now.knows c.lock_timer-held.new.pass.knows _ c.args.timer c.args.counter c.args.from
    c.cancel_held.result c.args.sink.now c.cancel_held.new.sink c.lock_timer-held.ensures.looks (cc) c.cancel_held.ensures.cancels

pub returns-then-not-step_held-clause-cancels : goal.returns-then-not-step_held-clause-cancels
returns-then-not-step_held-clause-cancels g c =
    let first = c.lock_timer-held.ensures.looks in
    let step = c.if-not-step_held.ensures in (
      looks_trans _ _ _ (looks_trans _ _ _ first step.looks) c.leave.ensures.looks,
      record {
        at = c.step_held.new.pass.knows.seen;
        after = begins_trans first.seen step.looks.seen;
        seen = c.leave.ensures.looks.seen;
        other = step.steps;
      },
      refl,
    )

pub returns-then-not-step_held-clause-why : goal.returns-then-not-step_held-clause-why
returns-then-not-step_held-clause-why g c =
    let first = c.lock_timer-held.ensures.looks in
    let step = c.if-not-step_held.ensures in record {
      at = c.step_held.new.pass.knows.seen;
      after = begins_trans first.seen step.looks.seen;
      seen = c.leave.ensures.looks.seen;
      other = step.steps;
      still = ap (λ (t : Timer). t.running) step.same ∙ (ap (λ (t : Timer). t.running) (sym c.state_of.ensures) ∙ (sym c.running.ensures ∙ not_some _ (sym c.is_some.ensures ∙ c.if-is_some.false)));
    }
