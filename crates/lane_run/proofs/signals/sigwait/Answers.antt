use Rattle.std.proofs.Common.{refl}
use Rattle.lane_notes.specs.declared.lane.WorldPass.{WorldPass}
use Rattle.lane_run.proofs.Objects.{calls_sigwait}
use Rattle.lane_run.proofs.signals.sigwait.Goals as goal

pub returns-clause-call : goal.returns-clause-call
returns-clause-call g c =
    let was = c.requires.reading in
    let taken = c.next_signal-next in
    let mid : WorldPass = record c.args.lane.now.pass { timers = taken.new.pass; objects = taken.new.objects_pass; signals = taken.new.signal_pass } in
    calls_sigwait {p = mid} c.args.reading taken.new.log.receipts taken.new.object_log.receipts taken.result c.world.view_is c.note_logs.ensures.rest.3
    c.requires.pass.signals taken.ensures.known (record { same = refl; shows = was.shows; count = was.count }) c.in_ok-logs.ensures.empty taken.ensures.next
    c.in_ok-note_logs.ensures.notes c.next_answer.ensures
