-- What the numbers of C stand for, each in the order in which they are tested.
use Rattle.std.specs.Prelude.{ℕ, Option, Some, None, nat_eq, nat_lt, ◌||◌, if◌then◌else◌}
use Rattle.ktime.specs.declared.clock_id.ClockId.{ClockId}
use Rattle.ktime.specs.declared.clock_id.ClockId.TheVariants as clocks
use Rattle.ktime.specs.declared.mode.Mode.{Mode}
use Rattle.ktime.specs.declared.mode.Mode.TheVariants as modes
use Rattle.ktime.specs.Readings.{ClockReading, latest}
use Rattle.seq_timer.specs.declared.context.Context.{Context}
use Rattle.seq_timer.specs.declared.context.Context.TheVariants as contexts
use Rattle.hulayban_c.specs.declared.crossing.Time.{Time}
use Rattle.hulayban_c.specs.declared.crossing.Answer.{Answer}

-- the clock of a number of clock_gettime(2)
abbrev pub clock_by_number : ℕ → Option ClockId
clock_by_number n = if nat_eq n 0 then Some clocks.Realtime else if nat_eq n 1 then Some clocks.Monotonic else if nat_eq n 7 then Some clocks.Boottime else None

-- the number of a clock
abbrev pub clock_number : ClockId → ℕ
clock_number clocks.Realtime = 0
clock_number clocks.Monotonic = 1
clock_number clocks.Boottime = 7

-- the context of a number
abbrev pub context_by_number : ℕ → Option Context
context_by_number n = if nat_eq n 0 then Some contexts.Hard else if nat_eq n 1 then Some contexts.Soft else None

-- the mode of a number
abbrev pub mode_by_number : ℕ → Option Mode
mode_by_number n = if nat_eq n 0 then Some modes.Abs else if nat_eq n 1 then Some modes.Rel else if nat_eq n 2 then Some modes.Keep else None

-- the reading of three times, if none is past the latest
abbrev pub reading_by_times : Time → Option ClockReading
reading_by_times t = if nat_lt latest t.mono || (nat_lt latest t.real || nat_lt latest t.boot) then None
    else Some (record { stamp = 0; mono = t.mono; real = t.real; boot = t.boot; changes = 0 })

-- an answer that says nothing
abbrev pub nothing : Answer
nothing = record { timer = 0; base = 0; clock = 0; armed = 0; running = 0; moved = 0; generation = 0; number = 0; soft = 0; expires = 0; count = 0; wait = 0 }
