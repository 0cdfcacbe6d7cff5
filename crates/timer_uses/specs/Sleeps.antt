-- A history of one sleeper (POSIX.1-2017, clock_nanosleep): sleeps that each end in another way.
use Rattle.std.specs.Prelude.{ℕ, List, [], ◌∷◌}
use Rattle.timer_setting.specs.declared.arming.Arm.{Arm}
use Rattle.timer_setting.specs.declared.arming.Arm.TheVariants as arms
use Rattle.timer_setting.specs.declared.trigger_answer.TriggerAnswer.{TriggerAnswer}
use Rattle.timer_setting.specs.declared.trigger_answer.TriggerAnswer.TheVariants as triggers
use Rattle.timer_setting.specs.declared.answers.InterruptAnswer.{InterruptAnswer}
use Rattle.timer_setting.specs.declared.answers.InterruptAnswer.TheVariants as interrupts
use Rattle.timer_setting.specs.declared.answers.SleepAnswer.{SleepAnswer}
use Rattle.timer_setting.specs.declared.answers.SleepAnswer.TheVariants as begins
use Rattle.timer_setting.specs.declared.object_call.ObjectCall.TheVariants as calls
use Rattle.timer_setting.specs.declared.object_call.ObjectReply.TheVariants as replies
use Rattle.sleeper.specs.Histories.{SleeperEntry}
use Rattle.timer_uses.specs.Moments.{clock_at}

-- a sleep of so long (flags 0) or up to this time (flags 1), begun at a moment
abbrev pub sleep : ℕ → ℕ → ℕ → Arm → SleepAnswer → SleeperEntry
sleep flags time now arm answer = record {
  call = calls.Sleep (record { flags = flags; time = time; reading = clock_at now; arm = arm });
  reply = replies.Sleep answer;
}

-- the timer's function ran for this generation at a moment
abbrev pub trigger : ℕ → ℕ → TriggerAnswer → SleeperEntry
trigger generation now answer = record { call = calls.Trigger generation (clock_at now); reply = replies.Trigger answer }

-- a signal at a moment
abbrev pub interrupt : ℕ → InterruptAnswer → SleeperEntry
interrupt now answer = record { call = calls.Interrupt (clock_at now); reply = replies.Interrupt answer }

-- a relative sleep that a signal ends is told what was left, which is nothing once its time has come; an absolute one isn't; a time that has come
-- isn't slept for; only the expiry that is armed wakes, in its time; a start that is refused leaves the sleeper free
abbrev pub sleeps : List SleeperEntry
sleeps =
    sleep 0 100 0 (arms.Armed 1) begins.Asleep
    ∷ interrupt 30 (interrupts.Left 70)
    ∷ sleep 0 100 30 (arms.Armed 3) begins.Asleep
    ∷ interrupt 131 (interrupts.Left 0)
    ∷ sleep 1 200 131 (arms.Armed 5) begins.Asleep
    ∷ interrupt 150 interrupts.Interrupted
    ∷ sleep 1 150 150 arms.NotAsked begins.Slept
    ∷ sleep 0 0 150 arms.NotAsked begins.Slept
    ∷ sleep 1 300 150 (arms.Armed 8) begins.Asleep
    ∷ trigger 8 299 triggers.Stale
    ∷ trigger 7 300 triggers.Stale
    ∷ trigger 8 300 triggers.Counted
    ∷ trigger 8 300 triggers.Stale
    ∷ interrupt 300 interrupts.Slept
    ∷ sleep 0 10 300 (arms.Unarmed 9) (begins.Unarmed 9)
    ∷ []
