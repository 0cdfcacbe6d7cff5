-- A worked history of a timer descriptor (timerfd_create(2)).
use Rattle.std.specs.Prelude.{ℕ, List, [], ◌∷◌}
use Rattle.timer_setting.specs.declared.arming.Arm.{Arm}
use Rattle.timer_setting.specs.declared.arming.Arm.TheVariants as arms
use Rattle.timer_setting.specs.declared.trigger_answer.TriggerAnswer.{TriggerAnswer}
use Rattle.timer_setting.specs.declared.trigger_answer.TriggerAnswer.TheVariants as triggers
use Rattle.timer_setting.specs.StepTables.{AnsweredCall}
use Rattle.timer_setting.specs.declared.answers.GettimeAnswer.TheVariants as lefts
use Rattle.timer_setting.specs.declared.answers.ReadAnswer.{ReadAnswer}
use Rattle.timer_setting.specs.declared.answers.ReadAnswer.TheVariants as reads
use Rattle.timer_setting.specs.declared.answers.SettimeAnswer.TheVariants as settings
use Rattle.timer_setting.specs.declared.object_call.ObjectCall.{ObjectCall}
use Rattle.timer_setting.specs.declared.object_call.ObjectCall.TheVariants as calls
use Rattle.timer_setting.specs.declared.object_call.ObjectReply.{ObjectReply}
use Rattle.timer_setting.specs.declared.object_call.ObjectReply.TheVariants as replies
use Rattle.timer_uses.specs.Moments.{clock_at}

-- a settime of so long, with an interval of 10, on a descriptor that was just made
abbrev pub fd_settime_entry : ℕ → ℕ → Arm → AnsweredCall ObjectCall ObjectReply
fd_settime_entry value now arm = record {
  call = calls.Settime (record { flags = 0; value = value; interval = 10; reading = clock_at now; arm = arm });
  reply = replies.Settime (settings.Old 0 0);
}

-- the timer's function ran for this generation
abbrev pub fd_trigger_entry : ℕ → ℕ → TriggerAnswer → AnsweredCall ObjectCall ObjectReply
fd_trigger_entry generation now answer = record { call = calls.Trigger generation (clock_at now); reply = replies.Trigger answer }

-- a look at the setting, which answers so much time left
abbrev pub look : ℕ → Arm → ℕ → AnsweredCall ObjectCall ObjectReply
look now arm left = record { call = calls.Gettime (clock_at now) arm; reply = replies.Gettime (lefts.Left left 10) }

-- a read
abbrev pub read : ℕ → ReadAnswer → AnsweredCall ObjectCall ObjectReply
read now answer = record { call = calls.Read (clock_at now) arms.NotAsked; reply = replies.Read answer }

-- an expiry is stale of an earlier generation and before its time; a look counts the periods that have passed, and a timer that it can't arm anew has
-- none to come, but those that were counted are read
abbrev pub stale_and_counted : List (AnsweredCall ObjectCall ObjectReply)
stale_and_counted =
    fd_settime_entry 100 20 (arms.Armed 2)
    ∷ look 70 arms.NotAsked 50
    ∷ fd_trigger_entry 1 120 triggers.Stale
    ∷ fd_trigger_entry 2 119 triggers.Stale
    ∷ fd_trigger_entry 2 120 triggers.Counted
    ∷ look 145 (arms.Unarmed 8) 0
    ∷ read 145 (reads.Count 3)
    ∷ read 145 reads.Again
    ∷ []
