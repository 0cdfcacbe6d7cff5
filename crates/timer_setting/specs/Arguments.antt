-- The arguments of a settime: which are valid, and the start of the high-resolution timer that they want.
use Rattle.std.specs.Prelude.{ℕ, ◌≡◌, ◌<◌, ◌+◌, ◌*◌, ◌/◌, ◌%◌, Bool, not, ◌||◌, nat_eq, nat_le, Option, Some, None, Result, Ok, Err, if◌then◌else◌}
use Rattle.ktime.specs.declared.mode.Mode.{Mode}
use Rattle.ktime.specs.declared.mode.Mode.TheVariants as modes
use Rattle.ktime.specs.declared.timespec.TimeSpec.{TimeSpec}
use Rattle.ktime.specs.Times.{nanoseconds, second}
use Rattle.timer_setting.specs.declared.arguments.BadArgument.{BadArgument}
use Rattle.timer_setting.specs.declared.arguments.BadArgument.TheVariants as causes
use Rattle.timer_setting.specs.declared.arming.Wanted.{Wanted}

-- the bits of some flags that are none of a mask's, which has the lowest bits (flags & !mask)
abbrev pub bits_beyond : ℕ → ℕ → ℕ
bits_beyond mask flags = flags / (mask + 1) * (mask + 1)

-- the flag of an absolute time (TIMER_ABSTIME, TFD_TIMER_ABSTIME), the lowest bit
abbrev pub abstime : ℕ
abstime = 1

-- the flags have it (flags & TIMER_ABSTIME)
abbrev pub is_absolute : ℕ → Bool
is_absolute flags = not (nat_eq (flags % (abstime + 1)) 0)

-- so many seconds and nanoseconds as one time
abbrev pub time_of : TimeSpec → ℕ
time_of time = nanoseconds time.sec time.nsec

-- a time has a second or more of nanoseconds
abbrev pub is_bad : TimeSpec → Bool
is_bad time = nat_le second time.nsec

-- valid arguments of a settime: flags with no unknown bit, and two times with less than a second of nanoseconds each
pub record AreValid (unknown : ℕ) (value interval : TimeSpec) : Type 0 where
  pub known : unknown ≡ 0
  pub good_value : value.nsec < second
  pub good_interval : interval.nsec < second

-- a settime's value and interval in nanoseconds, or why its arguments are refused: first the flags, then a time
abbrev pub checked_times : ℕ → TimeSpec → TimeSpec → Result (ℕ × ℕ) BadArgument
checked_times unknown value interval =
    if not (nat_eq unknown 0) then Err causes.Flags
    else (if is_bad value || is_bad interval then Err causes.Time else Ok (time_of value, time_of interval))

-- how a settime gives its value
abbrev pub mode_by : ℕ → Mode
mode_by flags = if is_absolute flags then modes.Abs else modes.Rel

-- the start that a settime of so many nanoseconds wants: none where it disarms
abbrev pub start_by : ℕ → ℕ → Option Wanted
start_by flags ns = if nat_eq ns 0 then None else Some (record { mode = mode_by flags; ns = ns })
