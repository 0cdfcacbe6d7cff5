-- The notes of receipts of objects, whatever their kind.
use Rattle.std.specs.Prelude.{ℕ, true, false, Option, Some, None, List, ◌++◌, map, option_map}
use Rattle.ktime.specs.Readings.{ClockReading}
use Rattle.timer_setting.specs.declared.arming.Arm.{Arm}
use Rattle.timer_setting.specs.declared.arming.Arm.TheVariants as arms
use Rattle.timer_setting.specs.declared.object_call.ObjectCall.{ObjectCall}
use Rattle.timer_setting.specs.declared.object_call.ObjectCall.TheVariants as calls
use Rattle.timer_setting.specs.declared.object_call.ObjectReply.{ObjectReply}
use Rattle.timer_setting.specs.declared.object_call.ObjectReply.TheVariants as replies
use Rattle.timer_setting.specs.declared.settime_call.SettimeCall.{SettimeCall}
use Rattle.timer_setting.specs.declared.trigger_answer.TriggerAnswer.{TriggerAnswer}
use Rattle.timer_setting.specs.declared.trigger_answer.TriggerAnswer.TheVariants as triggers
use Rattle.timer_setting.specs.declared.answers.AcceptAnswer.{AcceptAnswer}
use Rattle.timer_setting.specs.declared.answers.AcceptAnswer.TheVariants as accept_answers
use Rattle.timer_setting.specs.declared.answers.GettimeAnswer.TheVariants as lefts
use Rattle.timer_setting.specs.declared.answers.ReadAnswer.{ReadAnswer}
use Rattle.timer_setting.specs.declared.answers.ReadAnswer.TheVariants as read_answers
use Rattle.timer_setting.specs.declared.answers.InterruptAnswer.{InterruptAnswer}
use Rattle.timer_setting.specs.declared.answers.InterruptAnswer.TheVariants as interrupt_answers
use Rattle.timer_setting.specs.declared.answers.SleepAnswer.{SleepAnswer}
use Rattle.timer_setting.specs.declared.answers.SleepAnswer.TheVariants as sleep_answers
use Rattle.timer_setting.specs.declared.sleep_call.SleepCall.{SleepCall}
use Rattle.record_text.specs.declared.record.InterruptReply.{InterruptReply}
use Rattle.record_text.specs.declared.record.InterruptReply.TheVariants as interrupts
use Rattle.record_text.specs.declared.record.SleepReply.{SleepReply}
use Rattle.record_text.specs.declared.record.SleepReply.TheVariants as sleeps
use Rattle.timer_setting.specs.declared.answers.SettimeAnswer.{SettimeAnswer}
use Rattle.timer_setting.specs.declared.answers.SettimeAnswer.TheVariants as set_answers
use Rattle.timer_objects.specs.declared.log.ObjectReceipt.{ObjectReceipt}
use Rattle.record_text.specs.declared.record.Label.{Label}
use Rattle.record_text.specs.declared.record.AcceptReply.{AcceptReply}
use Rattle.record_text.specs.declared.record.AcceptReply.TheVariants as acceptances
use Rattle.record_text.specs.declared.record.Armed.{Armed}
use Rattle.record_text.specs.declared.record.Armed.TheVariants as armings
use Rattle.record_text.specs.declared.record.ObjectEntry.{ObjectEntry}
use Rattle.record_text.specs.declared.record.ObjectEntry.TheVariants as entries
use Rattle.record_text.specs.declared.record.ReadReply.{ReadReply}
use Rattle.record_text.specs.declared.record.ReadReply.TheVariants as reads
use Rattle.record_text.specs.declared.record.SettimeReply.{SettimeReply}
use Rattle.record_text.specs.declared.record.SettimeReply.TheVariants as settings
use Rattle.run_history.specs.Objects.{present}
use Rattle.lane_notes.specs.declared.notes.ObjectNote.{ObjectNote}
use Rattle.lane_notes.specs.declared.notes.SkipNote.{SkipNote}
use Rattle.lane_notes.specs.Notes.{NotesOf}

-- ---- what an entry's answer is told as; none where the call was refused

-- what became of the start that a call wanted
abbrev pub arm_noted : Arm → Armed
arm_noted arms.NotAsked = armings.None
arm_noted (arms.Armed generation) = armings.Generation generation
arm_noted (arms.Unarmed stamp) = armings.Unarmed

abbrev pub set_noted : SettimeAnswer → Option SettimeReply
set_noted (set_answers.Old left interval) = Some (settings.Old left interval)
set_noted set_answers.Canceled = Some settings.Canceled
set_noted (set_answers.Unarmed stamp) = Some (settings.Unarmed stamp)
set_noted answer = None

abbrev pub accept_noted : AcceptAnswer → Option AcceptReply
accept_noted (accept_answers.Accepted overrun) = Some (acceptances.Accepted overrun)
accept_noted accept_answers.NoSignal = Some acceptances.NoSignal
accept_noted (accept_answers.Spent stamp) = None

abbrev pub read_noted : ReadAnswer → Option ReadReply
read_noted (read_answers.Count total) = Some (reads.Count total)
read_noted read_answers.Again = Some reads.Again
read_noted read_answers.Canceled = Some reads.Canceled
read_noted answer = None

abbrev pub sleep_noted : SleepAnswer → Option SleepReply
sleep_noted sleep_answers.Slept = Some sleeps.Slept
sleep_noted sleep_answers.Asleep = Some sleeps.Asleep
sleep_noted (sleep_answers.Unarmed stamp) = Some (sleeps.Unarmed stamp)
sleep_noted answer = None

abbrev pub interrupt_noted : InterruptAnswer → Option InterruptReply
interrupt_noted interrupt_answers.Slept = Some interrupts.Slept
interrupt_noted (interrupt_answers.Left ns) = Some (interrupts.Left ns)
interrupt_noted interrupt_answers.Interrupted = Some interrupts.Interrupted
interrupt_noted answer = None

-- ---- the entry of a call

-- the entry of a settime with this answer; a reading is named by its stamp
abbrev pub settime_entry : SettimeCall → SettimeReply → ObjectEntry
settime_entry c reply = entries.Settime c.flags c.value c.interval c.reading.stamp (arm_noted c.arm) reply

-- the entry of a sleep with this answer
abbrev pub sleep_entry : SleepCall → SleepReply → ObjectEntry
sleep_entry c reply = entries.Sleep c.flags c.time c.reading.stamp (arm_noted c.arm) reply

-- the entry of an expiry
abbrev pub trigger_noted : ℕ → ClockReading → TriggerAnswer → Option ObjectEntry
trigger_noted generation reading triggers.Counted = Some (entries.Trigger generation reading.stamp true)
trigger_noted generation reading triggers.Stale = Some (entries.Trigger generation reading.stamp false)
trigger_noted generation reading (triggers.Spent stamp) = None

-- the entry of a call and its reply, where they belong together and the call made one
abbrev pub object_entry_noted : ObjectCall → ObjectReply → Option ObjectEntry
object_entry_noted (calls.Settime c) (replies.Settime answer) = option_map (settime_entry c) (set_noted answer)
object_entry_noted (calls.Trigger generation reading) (replies.Trigger answer) = trigger_noted generation reading answer
object_entry_noted (calls.Overflow generation reading) replies.Full = Some (entries.Overflow generation reading.stamp)
object_entry_noted (calls.Accept reading arm) (replies.Accept answer) =
    option_map (λ reply. entries.Accept reading.stamp (arm_noted arm) reply) (accept_noted answer)
object_entry_noted (calls.Read reading arm) (replies.Read answer) =
    option_map (λ reply. entries.Read reading.stamp (arm_noted arm) reply) (read_noted answer)
object_entry_noted (calls.Gettime reading arm) (replies.Gettime (lefts.Left left interval)) =
    Some (entries.Gettime reading.stamp (arm_noted arm) left interval)
object_entry_noted (calls.Sleep c) (replies.Sleep answer) = option_map (sleep_entry c) (sleep_noted answer)
object_entry_noted (calls.Interrupt reading) (replies.Interrupt answer) =
    option_map (λ reply. entries.Interrupt reading.stamp reply) (interrupt_noted answer)
object_entry_noted call reply = None

-- the generation of an expiry that a full history refused
abbrev pub trigger_skip : ℕ → TriggerAnswer → Option ℕ
trigger_skip generation triggers.Counted = None
trigger_skip generation triggers.Stale = None
trigger_skip generation (triggers.Spent stamp) = Some generation

abbrev pub skip_generation : ObjectCall → ObjectReply → Option ℕ
skip_generation (calls.Trigger generation reading) (replies.Trigger answer) = trigger_skip generation answer
skip_generation call reply = None

-- ---- the notes

-- the note of a receipt, where it is one of an entry
abbrev pub object_note : Label → ObjectReceipt → Option ObjectNote
object_note label r =
    option_map (λ entry. record { label = label; object = r.object; number = r.number; entry = entry }) (object_entry_noted r.call r.reply)

-- the notes of a call's receipts, in their order
abbrev pub object_notes : Label → List ObjectReceipt → List ObjectNote
object_notes label receipts = present (map (object_note label) receipts)

-- the note of a receipt, where it is one of an expiry that was refused
abbrev pub skip_note : Label → ObjectReceipt → Option SkipNote
skip_note label r =
    option_map (λ generation. record { label = label; object = r.object; number = r.number; generation = generation }) (skip_generation r.call r.reply)

abbrev pub skip_notes : Label → List ObjectReceipt → List SkipNote
skip_notes label receipts = present (map (skip_note label) receipts)

-- with the notes of a call's receipts behind those that are there
abbrev pub with_object_receipts : NotesOf → Label → List ObjectReceipt → NotesOf
with_object_receipts notes label receipts =
    record notes { objects = notes.objects ++ object_notes label receipts; skips = notes.skips ++ skip_notes label receipts }
