-- What the clock shows at one moment.
use Rattle.std.specs.Prelude.{ℕ, ◌^◌, ◌≤◌}
use Rattle.ktime.specs.declared.clock_id.ClockId.{ClockId}
use Rattle.ktime.specs.declared.clock_id.ClockId.TheVariants as clocks

-- what the clock shows at one moment: how many writes it has taken, the three times in nanoseconds, and how often the real offset changed
pub record ClockReading : Type 0 where
  pub stamp : ℕ
  pub mono : ℕ
  pub real : ℕ
  pub boot : ℕ
  pub changes : ℕ

-- the latest time that a clock shows: the clock refuses a write past it, so an expiry at the end of time is never reached
abbrev pub latest : ℕ
latest = 2 ^ 62

-- no clock is past the latest time
pub record IsTimely (r : ClockReading) : Type 0 where
  pub mono : r.mono ≤ latest
  pub real : r.real ≤ latest
  pub boot : r.boot ≤ latest

-- the time that a clock shows in a reading
abbrev pub value_of : ClockId → ClockReading → ℕ
value_of clocks.Monotonic r = r.mono
value_of clocks.Realtime r = r.real
value_of clocks.Boottime r = r.boot
