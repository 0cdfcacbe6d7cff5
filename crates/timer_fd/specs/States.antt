-- What a timer descriptor keeps, the arguments that its settime takes, and what can be said of it without a change.
use Rattle.std.specs.Prelude.{ℕ, ◌-◌, ◌+◌, ◌^◌, ◌<◌, ◌≤◌, Bool, false, not, ◌&&◌, ◌||◌, nat_eq, nat_lt}
use Rattle.ktime.specs.declared.clock_id.ClockId.{ClockId}
use Rattle.ktime.specs.declared.clock_id.ClockId.TheVariants as clocks
use Rattle.ktime.specs.declared.timespec.TimeSpec.{TimeSpec}
use Rattle.ktime.specs.Readings.{ClockReading}
use Rattle.ktime.specs.Times.{last_time}
use Rattle.timer_setting.specs.declared.phase.Phase.{Phase}
use Rattle.timer_setting.specs.declared.phase.Phase.TheVariants as phases
use Rattle.timer_setting.specs.Arguments.{AreValid, abstime, bits_beyond}
use Rattle.timer_setting.specs.Phases.{left_in}
use Rattle.timer_setting.specs.Settimes.{IsInLimits}

-- a timer descriptor: the clock it was made on, the base of its high-resolution timer, the interval and the phase, how many expiries wait to
-- be read, whether a change of the real-time clock cancels the setting, how many changes of the real offset it has taken note of,
-- how many entries its history has, and the limit on them
pub record Descriptor : Type 0 where
  pub clock : ClockId
  pub base : ℕ
  pub interval : ℕ
  pub phase : Phase
  pub count : ℕ
  pub cancelable : Bool
  pub seen : ℕ
  pub stamp : ℕ
  pub limit : ℕ

-- a descriptor that was just made
abbrev pub fd_opening : ClockId → ℕ → ℕ → Descriptor
fd_opening clock base limit =
    record { clock = clock; base = base; interval = 0; phase = phases.Idle; count = 0; cancelable = false; seen = 0; stamp = 0; limit = limit }

-- the flag of a setting that a set clock cancels (TFD_TIMER_CANCEL_ON_SET)
abbrev pub cancel_on_set : ℕ
cancel_on_set = 2

-- the flags of a settime, that of an absolute time (TFD_TIMER_ABSTIME) with it
abbrev pub fd_flags : ℕ
fd_flags = abstime + cancel_on_set

-- valid arguments of a settime
abbrev pub AreFdArguments : ℕ → TimeSpec → TimeSpec → Type 0
AreFdArguments flags value interval = AreValid (bits_beyond fd_flags flags) value interval

-- a change of the real-time clock cancels a setting: one with both flags, on that clock
abbrev pub is_cancelable : ClockId → ℕ → Bool
is_cancelable clocks.Realtime flags = nat_eq flags fd_flags
is_cancelable clocks.Monotonic flags = false
is_cancelable clocks.Boottime flags = false

-- the greatest count, that of 8 bytes
abbrev pub most_count : ℕ
most_count = 2 ^ 64 - 1

-- the real offset has changed under a setting that this cancels
abbrev pub is_canceled : Descriptor → ClockReading → Bool
is_canceled t reading = t.cancelable && nat_lt t.seen reading.changes

-- a descriptor is ready to be read (poll(2)): an expiry has been counted, or the setting was canceled
abbrev pub is_readable : Descriptor → ClockReading → Bool
is_readable t reading = not (nat_eq t.count 0) || is_canceled t reading

-- how long until the next expiry: nothing where it has come
abbrev pub fd_left : Descriptor → ClockReading → ℕ
fd_left t reading = left_in 0 t.phase t.interval reading

-- what holds of a phase: only a periodic timer waits to be armed again, and then it has an expiry to be read
abbrev pub IsFdPhase : Phase → ℕ → ℕ → Type 0
IsFdPhase phases.Idle interval count = Unit
IsFdPhase (phases.Armed generation clock expires) interval count = expires ≤ last_time
IsFdPhase (phases.Expired clock expires) interval count = (expires ≤ last_time) × (0 < interval) × (0 < count)

-- what holds of a descriptor at all times
pub record FdInvariant (t : Descriptor) : Type 0 where
  pub limits : IsInLimits t.stamp t.limit t.interval
  pub few : t.count ≤ most_count
  pub phased : IsFdPhase t.phase t.interval t.count
