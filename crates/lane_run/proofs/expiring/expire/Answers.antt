use Rattle.std.proofs.Common.{◌∙◌, rules, sym, ap}
use Rattle.ktime.specs.Readings.{ClockReading}
use Rattle.lane_notes.proofs.Receipts.{with_receipts-append}
use Rattle.lane_notes.specs.Entries.{with_receipts}
use Rattle.lane_notes.specs.Notes.{NotesOf}
use Rattle.lane_notes.specs.Objects.{with_object_receipts}
use Rattle.lane_notes.specs.Called.{expire_told}
use Rattle.lane_run.proofs.Objects.{reads_still}
use Rattle.lane_run.proofs.expiring.expire.Goals as goal

pub returns-clause-call : goal.returns-clause-call
returns-clause-call g c =
    let was = c.requires.reading in
    let ran = c.in_ok-answer.field-0 in record {
      reading = c.args.reading;
      reads = reads_still was c.run_gated.ensures.clock;
      log = ran.log.receipts;
      callback_log = ran.callback_log.receipts;
      object_log = ran.object_log.receipts;
      answer = ran.answer;
      runs = search rules;
      notes = c.in_ok-note_object_receipts.ensures
          ∙ ap (λ rs. with_object_receipts c.note_receipts-2.new.notes c.args.lane.now.label rs) c.receipts-3.ensures
          ∙ ap (λ (n : NotesOf). with_object_receipts n c.args.lane.now.label ran.object_log.receipts)
          (c.in_ok-note_receipts-2.ensures
          ∙ ap (λ rs. with_receipts c.note_receipts.new.notes c.args.lane.now.label rs) c.receipts-2.ensures
          ∙ ap (λ (n : NotesOf). with_receipts n c.args.lane.now.label ran.callback_log.receipts)
          (c.in_ok-note_receipts.ensures ∙ ap (λ rs. with_receipts c.args.lane.now.notes c.args.lane.now.label rs) c.receipts.ensures)
          ∙ sym (with_receipts-append c.args.lane.now.notes c.args.lane.now.label ran.log.receipts ran.callback_log.receipts));
      told = c.answer_of.ensures ∙ ap (λ (r : ClockReading). expire_told r.stamp c.in_ok-fired.fired ran.answer) c.reading.view_is
          ∙ ap (λ fired. expire_told c.args.reading.stamp fired ran.answer) c.in_ok-fired.ensures;
    }
