use Rattle.std.proofs.Common.{ap, refl, ◌∙◌}
use Rattle.seq_timer.specs.Calls.{asked_for}
use Rattle.lane_run.proofs.Logged.{only_timers, start_logged}
use Rattle.lane_notes.specs.Worlds.{WorldOf}
use Rattle.lane_run.proofs.timer_calls.start.Goals as goal

pub returns-clause-call : goal.returns-clause-call
returns-clause-call g c =
    let p = c.args.lane.now in
    let r = c.args.request in
    let its = start_logged (ap (λ (x : WorldOf). x.timers.about) c.world.view_is) p.pass.timers.known c.start_logged-answer.new.pass.known c.args.timer
    c.in_ok-log.log c.start_logged-answer.new.sink c.in_ok-log.ensures.empty c.start_logged-answer.result (ap (λ slack. asked_for r.mode r.ns slack r.base c.args.reading) c.unwrap_or.ensures)
    c.start_logged-answer.ensures.starts in
    record {
      reading = c.args.reading;
      reads = record { same = refl; shows = c.requires.reading.shows; count = c.requires.reading.count };
      answer = c.start_logged-answer.result;
      starts = its.0;
      objects = refl;
      signals = refl;
      notes = only_timers p.notes p.label c.note_receipts.new.notes c.in_ok-note_receipts.ensures (c.receipts.ensures ∙ its.1);
      told = c.start_answer.ensures;
    }
