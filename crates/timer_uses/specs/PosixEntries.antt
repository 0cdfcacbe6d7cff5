-- A worked history of a POSIX timer (POSIX.1-2017, timer_settime).
use Rattle.std.specs.Prelude.{ℕ, List, [], ◌∷◌}
use Rattle.timer_setting.specs.declared.arming.Arm.{Arm}
use Rattle.timer_setting.specs.declared.arming.Arm.TheVariants as arms
use Rattle.timer_setting.specs.declared.trigger_answer.TriggerAnswer.{TriggerAnswer}
use Rattle.timer_setting.specs.declared.trigger_answer.TriggerAnswer.TheVariants as triggers
use Rattle.timer_setting.specs.StepTables.{AnsweredCall}
use Rattle.timer_setting.specs.declared.answers.AcceptAnswer.{AcceptAnswer}
use Rattle.timer_setting.specs.declared.answers.AcceptAnswer.TheVariants as acceptances
use Rattle.timer_setting.specs.declared.answers.SettimeAnswer.TheVariants as settings
use Rattle.timer_setting.specs.declared.object_call.ObjectCall.{ObjectCall}
use Rattle.timer_setting.specs.declared.object_call.ObjectCall.TheVariants as calls
use Rattle.timer_setting.specs.declared.object_call.ObjectReply.{ObjectReply}
use Rattle.timer_setting.specs.declared.object_call.ObjectReply.TheVariants as replies
use Rattle.timer_uses.specs.Moments.{clock_at}

-- a settime for a time of the clock, with an interval of 10, that answers so much time left and this interval
abbrev pub posix_settime_entry : ℕ → ℕ → Arm → ℕ → ℕ → AnsweredCall ObjectCall ObjectReply
posix_settime_entry value now arm left interval = record {
  call = calls.Settime (record { flags = 1; value = value; interval = 10; reading = clock_at now; arm = arm });
  reply = replies.Settime (settings.Old left interval);
}

-- the timer's function ran for this generation
abbrev pub posix_trigger_entry : ℕ → ℕ → TriggerAnswer → AnsweredCall ObjectCall ObjectReply
posix_trigger_entry generation now answer = record { call = calls.Trigger generation (clock_at now); reply = replies.Trigger answer }

-- an acceptance of the signal
abbrev pub accept : ℕ → Arm → AcceptAnswer → AnsweredCall ObjectCall ObjectReply
accept now arm answer = record { call = calls.Accept (clock_at now) arm; reply = replies.Accept answer }

-- an expiry is stale of an earlier generation and before its time, and counts of a later generation; the value 0 disarms and clears the signal; a timer
-- that can't be armed anew has no further periods
abbrev pub stale_and_cleared : List (AnsweredCall ObjectCall ObjectReply)
stale_and_cleared =
    posix_settime_entry 100 0 (arms.Armed 2) 0 0
    ∷ posix_trigger_entry 1 100 triggers.Stale
    ∷ posix_trigger_entry 2 99 triggers.Stale
    ∷ posix_trigger_entry 3 130 triggers.Counted
    ∷ posix_settime_entry 0 150 arms.NotAsked 10 10
    ∷ accept 150 arms.NotAsked acceptances.NoSignal
    ∷ posix_settime_entry 200 150 (arms.Armed 6) 0 0
    ∷ posix_trigger_entry 6 200 triggers.Counted
    ∷ accept 215 (arms.Unarmed 9) (acceptances.Accepted 1)
    ∷ posix_trigger_entry 6 230 triggers.Stale
    ∷ []
