-- The timer that an object keeps, and the start that a settime of the object wants.
use Rattle.std.specs.Prelude.{ℕ, ◌≤◌, ◌+◌, ◌-◌, ◌^◌, ◌&&◌, nat_eq, nat_lt, Option, None, if◌then◌else◌}
use Rattle.ktime.specs.declared.clock_id.ClockId.{ClockId}
use Rattle.ktime.specs.declared.timespec.TimeSpec.{TimeSpec}
use Rattle.ktime.specs.Readings.{ClockReading}
use Rattle.ktime.specs.Times.{last_time, second}
use Rattle.timer_setting.specs.declared.arming.Wanted.{Wanted}
use Rattle.timer_setting.specs.declared.object_timer.ObjectTimer.{ObjectTimer}
use Rattle.timer_setting.specs.declared.phase.Phase.{Phase}
use Rattle.timer_setting.specs.declared.phase.Phase.TheVariants as phases
use Rattle.timer_setting.specs.declared.trigger_answer.TriggerAnswer.{TriggerAnswer}
use Rattle.timer_setting.specs.declared.trigger_answer.TriggerAnswer.TheVariants as triggers
use Rattle.timer_setting.specs.Arguments.{start_by, time_of}
use Rattle.timer_setting.specs.Phases.{expired, is_expiry_of}

-- the greatest limit on an object's entries
abbrev pub most_object_entries : ℕ
most_object_entries = 2 ^ 48 - 16

-- a timer that was just made
abbrev pub made_timer : ClockId → ℕ → ℕ → ObjectTimer
made_timer clock base limit = record { clock = clock; base = base; interval = 0; phase = phases.Idle; stamp = 0; limit = limit }

-- a timer after its function ran for this generation
abbrev pub timer_expired : ObjectTimer → ℕ → ClockReading → ObjectTimer
timer_expired t generation reading =
    if is_expiry_of t.phase generation reading then record t { phase = expired t.phase t.interval; stamp = t.stamp + 1 }
    else record t { stamp = t.stamp + 1 }

-- what the run of its function answers for this generation
abbrev pub trigger_answer : Phase → ℕ → ClockReading → TriggerAnswer
trigger_answer phase generation reading = if is_expiry_of phase generation reading then triggers.Counted else triggers.Stale

-- what holds of each object's timer at all times: the limit is one that may be set, the entries are within it, and the interval is a time
pub record IsInLimits (stamp limit interval : ℕ) : Type 0 where
  pub few : limit ≤ most_object_entries
  pub within : stamp ≤ limit
  pub timely : interval ≤ last_time

-- the start that a settime wants, of an object with so many entries and this limit: none where it is refused or disarms
abbrev pub start_wanted : ℕ → ℕ → ℕ → ℕ → TimeSpec → TimeSpec → Option Wanted
start_wanted stamp limit unknown flags value interval =
    if nat_eq unknown 0 && nat_lt value.nsec second && nat_lt interval.nsec second && nat_lt stamp limit
    then start_by flags (time_of value) else None
