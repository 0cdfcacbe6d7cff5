-- Readings of a clock in worked histories.
use Rattle.std.specs.Prelude.{ℕ}
use Rattle.ktime.specs.Readings.{ClockReading}

-- what a clock shows that nobody has written yet, where all three clocks stand at this time
abbrev pub clock_at : ℕ → ClockReading
clock_at time = record { stamp = 0; mono = time; real = time; boot = time; changes = 0 }
