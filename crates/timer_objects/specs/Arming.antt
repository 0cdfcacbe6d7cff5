-- What a call on an object does to its timer: it disarms it, starts it where it wants that, and notes a receipt of each entry.
use Rattle.std.specs.Prelude.{ℕ, ◌≡◌, List, ◌++◌, Option, Some, None}
use Rattle.ktime.specs.Readings.{ClockReading}
use Rattle.seq_timer.specs.Events.{Asked}
use Rattle.seq_timer.specs.Calls.{asked_for}
use Rattle.seq_timer.specs.declared.answer.CancelAnswer.{CancelAnswer}
use Rattle.seq_timer.specs.declared.answer.CancelAnswer.TheVariants as cancels
use Rattle.base_row.specs.declared.view.Opening.{Opening}
use Rattle.hr_timers.specs.declared.answer.StartAnswer.{StartAnswer}
use Rattle.hr_timers.specs.declared.answer.StartAnswer.TheVariants as starts
use Rattle.hr_timers.specs.Known.{KnownOfTimers, timer_then}
use Rattle.hr_timers.specs.Calls.{Cancels, StartsTimer, cancel_entries, start_entries}
use Rattle.base_row.specs.declared.log.Receipt.{Receipt}
use Rattle.base_row.specs.Logs.{receipts_of}
use Rattle.timer_setting.specs.declared.arming.Arm.{Arm}
use Rattle.timer_setting.specs.declared.arming.Arm.TheVariants as arms
use Rattle.timer_setting.specs.declared.arming.Wanted.{Wanted}
use Rattle.timer_objects.specs.Turns.{BeginsTurn}

-- what is asked for by a start that an object wants: no slack
abbrev pub asked_by : Wanted → ℕ → ClockReading → Asked
asked_by wanted base reading = asked_for wanted.mode wanted.ns 0 base reading

-- the outcome of a start, by what it answered
abbrev pub arm_of : StartAnswer → Arm
arm_of (starts.Started was_armed generation asked outs placement) = arms.Armed generation
arm_of (starts.Spent n) = arms.Unarmed n

-- a start that was wanted was made, with this outcome, and a receipt noted of each of its entries
pub record Starts (o : Opening) (v w : KnownOfTimers) (t : ℕ) (wanted : Wanted) (base : ℕ) (reading : ClockReading) (arm : Arm)
    (log log' : List Receipt) : Type 0 where
  pub answer : StartAnswer
  pub starts : StartsTimer o v w t (asked_by wanted base reading) answer
  pub outcome : arm ≡ arm_of answer
  pub receipts : log'
      ≡ log ++ receipts_of t (timer_then o starts.at t).stamp
      (start_entries (timer_then o starts.at t) (asked_by wanted base reading) starts.sent starts.last answer)

-- the start that a step wants was made, or none was wanted and nothing is other than before
abbrev pub ArmsFor : Opening → KnownOfTimers → KnownOfTimers → ℕ → Option Wanted → ℕ → ClockReading → Arm → List Receipt → List Receipt → Type 0
ArmsFor o v w t None base reading arm log log' = (arm ≡ arms.NotAsked) × (w ≡ v) × (log' ≡ log)
ArmsFor o v w t (Some wanted) base reading arm log log' = Starts o v w t wanted base reading arm log log'

-- a timer whose function wasn't running was disarmed, or seen to be idle
pub record Disarms (o : Opening) (v w : KnownOfTimers) (t : ℕ) (log log' : List Receipt) : Type 0 where
  pub answer : CancelAnswer
  pub cancelled : Cancels o v w t answer
  pub ended : (g n : ℕ) → answer ≡ cancels.Running g n → ⊥
  pub receipts : log' ≡ log ++ receipts_of t (timer_then o cancelled.at t).stamp (cancel_entries answer)

-- a turn of an object with so many entries began, and the object's timer was disarmed
pub record DisarmsInTurn (o : Opening) (v w : KnownOfTimers) (t n : ℕ) (log log' : List Receipt) : Type 0 where
  pub begun : KnownOfTimers
  pub begins : BeginsTurn t n v begun
  pub disarms : Disarms o begun w t log log'
