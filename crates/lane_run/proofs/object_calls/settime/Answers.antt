use Rattle.std.proofs.Common.{refl}
use Rattle.timer_objects.specs.Calls.{Settimes}
use Rattle.lane_run.proofs.Objects.{calls_object}
use Rattle.lane_run.proofs.object_calls.settime.Goals as goal

pub returns-clause-call : goal.returns-clause-call
returns-clause-call g c =
    let was = c.requires.reading in
    let made = c.settime-answer in (
      made.result,
      c.settime_answer.ensures,
      calls_object (λ x old new reading. Settimes x.objects x.timers.about old new c.args.timer c.args.flags c.args.value c.args.interval reading made.result)
          c.args.reading made.new.log.receipts made.new.object_log.receipts c.world.view_is c.note_logs.ensures.rest.3
          (record { same = refl; shows = was.shows; count = was.count }) refl c.in_ok-logs.ensures.empty made.ensures.settimes c.in_ok-note_logs.ensures.notes,
    )
