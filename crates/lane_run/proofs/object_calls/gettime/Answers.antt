use Rattle.std.proofs.Common.{◌≡◌, ◌∙◌, ap, refl}
use Rattle.ktime.specs.Readings.{ClockReading}
use Rattle.timer_objects.specs.Calls.{Gettimes}
use Rattle.timer_objects.specs.Known.{decl_at}
use Rattle.lane_notes.specs.Called.{gettime_told}
use Rattle.lane_run.proofs.Objects.{calls_object}
use Rattle.lane_run.proofs.object_calls.gettime.Goals as goal

pub returns-clause-call : goal.returns-clause-call
returns-clause-call g c =
    let was = c.requires.reading in
    let made = c.gettime-answer in (
      made.result,
      calls_object
          (λ x old new reading. Gettimes x.objects x.timers.about old new c.args.timer reading (decl_at x.objects c.args.timer).kind made.result
          × (c.gettime_answer.result ≡ gettime_told (decl_at x.objects c.args.timer).kind reading.stamp made.result))
          c.args.reading made.new.log.receipts made.new.object_log.receipts c.world.view_is c.note_logs.ensures.rest.3
          (record { same = refl; shows = was.shows; count = was.count }) refl c.in_ok-logs.ensures.empty (
            made.ensures.gets,
            c.gettime_answer.ensures ∙ ap (λ (r : ClockReading). gettime_told c.kind.result r.stamp made.result) c.reading.view_is
                ∙ ap (λ k. gettime_told k c.args.reading.stamp made.result) c.kind.ensures,
          )
          c.in_ok-note_logs.ensures.notes,
    )
