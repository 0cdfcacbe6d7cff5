-- Sums of times, the clock that a timer is kept on, and the instants of a periodic timer.
use Rattle.std.specs.Prelude.{ℕ, ◌+◌, ◌-◌, ◌*◌, ◌^◌, ◌<◌, ◌≤◌, zero, suc, min, max, nat_lt, if◌then◌else◌}
use Rattle.ktime.specs.declared.clock_id.ClockId.{ClockId}
use Rattle.ktime.specs.declared.clock_id.ClockId.TheVariants as clocks
use Rattle.ktime.specs.declared.mode.Mode.{Mode}
use Rattle.ktime.specs.declared.mode.Mode.TheVariants as modes

-- the end of time in nanoseconds (the kernel's KTIME_MAX)
abbrev pub last_time : ℕ
last_time = 2 ^ 63 - 1

-- a time, stopped at the end of time
abbrev pub sat : ℕ → ℕ
sat time = min time last_time

-- the nanoseconds of a second
abbrev pub second : ℕ
second = 1000000000

-- so many seconds and nanoseconds as one time
abbrev pub nanoseconds : ℕ → ℕ → ℕ
nanoseconds sec nsec = sat (sec * second + nsec)

-- the clock that a timer is kept on: a relative time on the real-time clock is kept on the monotonic one, which nobody sets;
-- a restart keeps the clock that the timer has
abbrev pub effective_clock : ClockId → Mode → ClockId → ClockId
effective_clock clocks.Realtime modes.Rel present = clocks.Monotonic
effective_clock clocks.Monotonic modes.Rel present = clocks.Monotonic
effective_clock clocks.Boottime modes.Rel present = clocks.Boottime
effective_clock declared modes.Abs present = declared
effective_clock declared modes.Keep present = present

-- an interval, raised to the resolution of one nanosecond
abbrev pub step_of : ℕ → ℕ
step_of interval = max interval 1

-- how many of the instants at, at + step, .. lie up to now, of at most so many
abbrev pub passed_among : ℕ → ℕ → ℕ → ℕ → ℕ
passed_among zero at now step = 0
passed_among (suc most) at now step = if nat_lt now at then 0 else suc (passed_among most (at + step) now step)

-- how many instants of a periodic timer that first expires at this time lie up to now: at most one on each nanosecond
unfoldable pub passed : ℕ → ℕ → ℕ → ℕ
passed at now interval = passed_among (now + 1 - at) at now (step_of interval)

-- the first such instant after now, stopped at the end of time
abbrev pub next_after : ℕ → ℕ → ℕ → ℕ
next_after at now interval = sat (at + passed at now interval * step_of interval)

-- so many intervals are the fewest that bring the expiry past now
pub record IsFewest (at now interval count : ℕ) : Type 0 where
  pub past : now < at + count * step_of interval
  pub fewer : (n : ℕ) → n < count → at + n * step_of interval ≤ now
