-- The notes of receipts of timers.
use Rattle.std.specs.Prelude.{Option, Some, None, List, ◌++◌, map, option_map}
use Rattle.seq_timer.specs.Events.{Event, stamped}
use Rattle.seq_timer.specs.declared.event.Reply.{Reply}
use Rattle.seq_timer.specs.declared.observation.Observation.{Observation}
use Rattle.seq_timer.specs.declared.observation.Observation.TheVariants as seen
use Rattle.base_row.specs.declared.log.Noted.{Noted}
use Rattle.base_row.specs.declared.log.Noted.TheVariants as noteds
use Rattle.base_row.specs.declared.log.Receipt.{Receipt}
use Rattle.record_text.specs.declared.record.Label.{Label}
use Rattle.record_text.specs.declared.record.Entry.{Entry}
use Rattle.record_text.specs.declared.record.CallbackReply.{CallbackReply}
use Rattle.record_text.specs.declared.record.CallbackReply.TheVariants as told
use Rattle.run_history.specs.Objects.{present}
use Rattle.lane_notes.specs.declared.notes.EntryNote.{EntryNote}
use Rattle.lane_notes.specs.declared.notes.LookNote.{LookNote}
use Rattle.lane_notes.specs.Notes.{NotesOf}

-- the entry of an event and its reply; a reading is named by its stamp
abbrev pub entry_noted : Event → Reply → Entry
entry_noted event reply = record { event = stamped event; reply = reply }

-- what a callback was told by a look
abbrev pub look_noted : Observation → Option CallbackReply
look_noted (seen.Running generation) = Some (told.Running generation)
look_noted (seen.Armed generation) = Some (told.Armed generation)
look_noted seen.Spent = Some told.Spent
look_noted observation = None

-- the entry that a receipt is of, where it is one of an entry
abbrev pub receipt_entry : Event → Noted → Option Entry
receipt_entry event (noteds.Entry reply) = Some (entry_noted event reply)
receipt_entry event (noteds.Look observation) = None

-- what a callback was told, where the receipt is one of a look
abbrev pub receipt_look : Noted → Option CallbackReply
receipt_look (noteds.Entry reply) = None
receipt_look (noteds.Look observation) = look_noted observation

-- the note of a receipt, where it is one of an entry
abbrev pub entry_note : Label → Receipt → Option EntryNote
entry_note label r = option_map (λ entry. record { label = label; timer = r.timer; number = r.number; entry = entry }) (receipt_entry r.event r.reply)

-- the notes of a call's receipts, in their order
abbrev pub entry_notes : Label → List Receipt → List EntryNote
entry_notes label receipts = present (map (entry_note label) receipts)

-- the note of a receipt, where it is one of a look
abbrev pub look_note : Label → Receipt → Option LookNote
look_note label r = option_map (λ reply. record { label = label; timer = r.timer; number = r.number; reply = reply }) (receipt_look r.reply)

abbrev pub look_notes : Label → List Receipt → List LookNote
look_notes label receipts = present (map (look_note label) receipts)

-- with the notes of a call's receipts behind those that are there
abbrev pub with_receipts : NotesOf → Label → List Receipt → NotesOf
with_receipts notes label receipts =
    record notes { entries = notes.entries ++ entry_notes label receipts; looks = notes.looks ++ look_notes label receipts }
