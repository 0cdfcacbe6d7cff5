-- The entry of an object that a record's line shows.
use Rattle.std.specs.Prelude.{ℕ, if◌then◌else◌, List}
use Rattle.record_text.specs.declared.record.ClockLine.{ClockLine}
use Rattle.record_text.specs.declared.record.Armed.{Armed}
use Rattle.record_text.specs.declared.record.Armed.TheVariants as armings
use Rattle.record_text.specs.declared.record.SettimeReply.{SettimeReply}
use Rattle.record_text.specs.declared.record.SettimeReply.TheVariants as settings
use Rattle.record_text.specs.declared.record.AcceptReply.{AcceptReply}
use Rattle.record_text.specs.declared.record.AcceptReply.TheVariants as acceptances
use Rattle.record_text.specs.declared.record.ReadReply.{ReadReply}
use Rattle.record_text.specs.declared.record.ReadReply.TheVariants as reads
use Rattle.record_text.specs.declared.record.SleepReply.{SleepReply}
use Rattle.record_text.specs.declared.record.SleepReply.TheVariants as sleeps
use Rattle.record_text.specs.declared.record.InterruptReply.{InterruptReply}
use Rattle.record_text.specs.declared.record.InterruptReply.TheVariants as interrupts
use Rattle.record_text.specs.declared.record.ObjectEntry.{ObjectEntry}
use Rattle.record_text.specs.declared.record.ObjectEntry.TheVariants as entries
use Rattle.timer_setting.specs.declared.arming.Arm.{Arm}
use Rattle.timer_setting.specs.declared.arming.Arm.TheVariants as arms
use Rattle.timer_setting.specs.declared.object_call.ObjectCall.{ObjectCall}
use Rattle.timer_setting.specs.declared.object_call.ObjectCall.TheVariants as calls
use Rattle.timer_setting.specs.declared.object_call.ObjectReply.{ObjectReply}
use Rattle.timer_setting.specs.declared.object_call.ObjectReply.TheVariants as replies
use Rattle.timer_setting.specs.declared.answers.AcceptAnswer.{AcceptAnswer}
use Rattle.timer_setting.specs.declared.answers.AcceptAnswer.TheVariants as accept_answers
use Rattle.timer_setting.specs.declared.answers.GettimeAnswer.TheVariants as lefts
use Rattle.timer_setting.specs.declared.answers.ReadAnswer.{ReadAnswer}
use Rattle.timer_setting.specs.declared.answers.ReadAnswer.TheVariants as read_answers
use Rattle.timer_setting.specs.declared.answers.SettimeAnswer.{SettimeAnswer}
use Rattle.timer_setting.specs.declared.answers.SettimeAnswer.TheVariants as set_answers
use Rattle.timer_setting.specs.declared.answers.SleepAnswer.{SleepAnswer}
use Rattle.timer_setting.specs.declared.answers.SleepAnswer.TheVariants as sleep_answers
use Rattle.timer_setting.specs.declared.answers.InterruptAnswer.{InterruptAnswer}
use Rattle.timer_setting.specs.declared.answers.InterruptAnswer.TheVariants as interrupt_answers
use Rattle.timer_setting.specs.declared.trigger_answer.TriggerAnswer.TheVariants as triggers
use Rattle.timer_setting.specs.StepTables.{AnsweredCall}
use Rattle.run_history.specs.Histories.{reading_at}

-- what became of the start that a call wanted; a refused one has the stamp that the timer had
abbrev pub arm_shown : Armed → ℕ → Arm
arm_shown armings.None stamp = arms.NotAsked
arm_shown (armings.Generation generation) stamp = arms.Armed generation
arm_shown armings.Unarmed stamp = arms.Unarmed stamp

-- the stamp of a refused start, which a settime's answer tells; no other answer depends on it
abbrev pub refused_at : SettimeReply → ℕ
refused_at (settings.Old left interval) = 0
refused_at settings.Canceled = 0
refused_at (settings.Unarmed stamp) = stamp

-- what a settime answered
abbrev pub set_shown : SettimeReply → SettimeAnswer
set_shown (settings.Old left interval) = set_answers.Old left interval
set_shown settings.Canceled = set_answers.Canceled
set_shown (settings.Unarmed stamp) = set_answers.Unarmed stamp

-- what an acceptance answered
abbrev pub accept_shown : AcceptReply → AcceptAnswer
accept_shown (acceptances.Accepted overrun) = accept_answers.Accepted overrun
accept_shown acceptances.NoSignal = accept_answers.NoSignal

-- what a read answered
abbrev pub read_shown : ReadReply → ReadAnswer
read_shown (reads.Count total) = read_answers.Count total
read_shown reads.Again = read_answers.Again
read_shown reads.Canceled = read_answers.Canceled

-- the stamp of a refused start, which a sleep's answer tells
abbrev pub unslept_at : SleepReply → ℕ
unslept_at sleeps.Slept = 0
unslept_at sleeps.Asleep = 0
unslept_at (sleeps.Unarmed stamp) = stamp

-- what a sleep answered
abbrev pub sleep_shown : SleepReply → SleepAnswer
sleep_shown sleeps.Slept = sleep_answers.Slept
sleep_shown sleeps.Asleep = sleep_answers.Asleep
sleep_shown (sleeps.Unarmed stamp) = sleep_answers.Unarmed stamp

-- what an interrupt answered
abbrev pub interrupt_shown : InterruptReply → InterruptAnswer
interrupt_shown interrupts.Slept = interrupt_answers.Slept
interrupt_shown (interrupts.Left ns) = interrupt_answers.Left ns
interrupt_shown interrupts.Interrupted = interrupt_answers.Interrupted

-- the entry that a line shows, where its stamps name the clock's readings
abbrev pub object_entry_shown : List ClockLine → ObjectEntry → AnsweredCall ObjectCall ObjectReply
object_entry_shown clock (entries.Settime flags value interval reading arm reply) = record {
  call = calls.Settime (record {
    flags = flags;
    value = value;
    interval = interval;
    reading = reading_at clock reading;
    arm = arm_shown arm (refused_at reply);
  });
  reply = replies.Settime (set_shown reply);
}
object_entry_shown clock (entries.Trigger generation reading counted) = record {
  call = calls.Trigger generation (reading_at clock reading);
  reply = replies.Trigger (if counted then triggers.Counted else triggers.Stale);
}
object_entry_shown clock (entries.Overflow generation reading) =
    record { call = calls.Overflow generation (reading_at clock reading); reply = replies.Full }
object_entry_shown clock (entries.Accept reading arm reply) =
    record { call = calls.Accept (reading_at clock reading) (arm_shown arm 0); reply = replies.Accept (accept_shown reply) }
object_entry_shown clock (entries.Read reading arm reply) =
    record { call = calls.Read (reading_at clock reading) (arm_shown arm 0); reply = replies.Read (read_shown reply) }
object_entry_shown clock (entries.Gettime reading arm left interval) =
    record { call = calls.Gettime (reading_at clock reading) (arm_shown arm 0); reply = replies.Gettime (lefts.Left left interval) }
object_entry_shown clock (entries.Sleep flags time reading arm reply) = record {
  call = calls.Sleep (record { flags = flags; time = time; reading = reading_at clock reading; arm = arm_shown arm (unslept_at reply) });
  reply = replies.Sleep (sleep_shown reply);
}
object_entry_shown clock (entries.Interrupt reading reply) =
    record { call = calls.Interrupt (reading_at clock reading); reply = replies.Interrupt (interrupt_shown reply) }
