use Rattle.std.proofs.Common.{ap, refl, ◌∙◌}
use Rattle.lane_run.proofs.Logged.{cancel_logged, only_timers}
use Rattle.lane_notes.specs.Worlds.{WorldOf}
use Rattle.lane_run.proofs.timer_calls.cancel.Goals as goal

pub returns-clause-call : goal.returns-clause-call
returns-clause-call g c =
    let p = c.args.lane.now in
    let its = cancel_logged (ap (λ (x : WorldOf). x.timers.about) c.world.view_is) p.pass.timers.known c.try_to_cancel_logged-answer.new.pass.known c.args.timer
    c.in_ok-log.log c.try_to_cancel_logged-answer.new.sink c.in_ok-log.ensures.empty c.try_to_cancel_logged-answer.result c.try_to_cancel_logged-answer.ensures.cancels in
    record {
      clock = refl;
      answer = c.try_to_cancel_logged-answer.result;
      cancels = its.0;
      objects = refl;
      signals = refl;
      notes = only_timers p.notes p.label c.note_receipts.new.notes c.in_ok-note_receipts.ensures (c.receipts.ensures ∙ its.1);
      told = c.cancel_answer.ensures;
    }
