use Rattle.std.proofs.Common.{refl}
use Rattle.timer_objects.specs.Calls.{Accepts}
use Rattle.lane_run.proofs.Objects.{calls_object}
use Rattle.lane_run.proofs.object_calls.accept.Goals as goal

pub returns-clause-call : goal.returns-clause-call
returns-clause-call g c =
    let was = c.requires.reading in
    let made = c.accept-answer in (
      made.result,
      c.accept_answer.ensures,
      calls_object (λ x old new reading. Accepts x.objects x.timers.about old new c.args.timer reading made.result) c.args.reading made.new.log.receipts
          made.new.object_log.receipts c.world.view_is c.note_logs.ensures.rest.3 (record { same = refl; shows = was.shows; count = was.count }) refl
          c.in_ok-logs.ensures.empty made.ensures.accepts c.in_ok-note_logs.ensures.notes,
    )
