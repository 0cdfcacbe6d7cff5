-- The history of one sleeper, the state after it, and the sleeps in it.
use Rattle.std.specs.Prelude.{ℕ, ◌+◌, ◌≤◌, Bool, true, false, List, [], ◌∷◌, if◌then◌else◌}
use Rattle.ktime.specs.declared.clock_id.ClockId.{ClockId}
use Rattle.ktime.specs.Readings.{ClockReading, value_of}
use Rattle.timer_setting.specs.Phases.{clock_by, expiry_by}
use Rattle.timer_setting.specs.StepTables.{AnsweredCall, AreCalls, after_calls}
use Rattle.timer_setting.specs.declared.trigger_answer.TriggerAnswer.TheVariants as triggers
use Rattle.timer_setting.specs.declared.answers.InterruptAnswer.TheVariants as interrupts
use Rattle.timer_setting.specs.declared.answers.SleepAnswer.TheVariants as begins
use Rattle.timer_setting.specs.declared.object_call.ObjectCall.{ObjectCall}
use Rattle.timer_setting.specs.declared.object_call.ObjectReply.{ObjectReply}
use Rattle.timer_setting.specs.declared.sleep_call.SleepCall.{SleepCall}
use Rattle.timer_setting.specs.declared.object_call.ObjectReply.TheVariants as replies
use Rattle.sleeper.specs.States.{Sleeper, sleeper_opening}
use Rattle.sleeper.specs.Steps.{sleeper_table}

-- an entry of a sleeper's history
abbrev pub SleeperEntry : Type 0
SleeperEntry = AnsweredCall ObjectCall ObjectReply

-- a history that one sleeper gives, made on this clock and base with this limit on entries
abbrev pub IsSleeperHistory : ClockId → ℕ → ℕ → List SleeperEntry → Type 0
IsSleeperHistory clock base limit history = AreCalls sleeper_table (sleeper_opening clock base limit) history

-- the state after it
abbrev pub sleeper_state_after : ClockId → ℕ → ℕ → List SleeperEntry → Sleeper
sleeper_state_after clock base limit history = after_calls sleeper_table (sleeper_opening clock base limit) history

-- the reply shows that a sleep has begun
abbrev pub begins_sleep : ObjectReply → Bool
begins_sleep (replies.Sleep begins.Asleep) = true
begins_sleep reply = false

-- the reply shows that a sleep has ended: its time has come, or it was interrupted before anyone was told so
abbrev pub ends_sleep : ObjectReply → Bool
ends_sleep (replies.Trigger triggers.Counted) = true
ends_sleep (replies.Interrupt (interrupts.Left ns)) = true
ends_sleep (replies.Interrupt interrupts.Interrupted) = true
ends_sleep reply = false

-- a sleep's clock shows in this reading the time that it sleeps up to, or a later one
abbrev pub HasReached : ClockId → SleepCall → ClockReading → Type 0
HasReached declared c reading = expiry_by declared c.flags c.time c.reading ≤ value_of (clock_by declared c.flags) reading

-- how many entries have a reply that passes a test
abbrev pub how_many : (ObjectReply → Bool) → List SleeperEntry → ℕ
how_many test [] = 0
how_many test (e ∷ es) = (if test e.reply then 1 else 0) + how_many test es
