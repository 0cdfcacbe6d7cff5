-- Events and requests of starts by a reading of the clock, and by another name of it.
use Rattle.std.specs.Prelude.{ℕ}
use Rattle.ktime.specs.Readings.{ClockReading}
use Rattle.seq_timer.specs.declared.event.AskedBy.{AskedBy}
use Rattle.seq_timer.specs.declared.event.EventBy.{EventBy}
use Rattle.seq_timer.specs.declared.event.EventBy.TheVariants as events

-- what a start asks for
abbrev pub Asked : Type 0
Asked = AskedBy ClockReading

-- what happens to a timer
abbrev pub Event : Type 0
Event = EventBy ClockReading

-- an event by another name of its reading
abbrev pub map_reading : {R S : Type 0} → (R → S) → EventBy R → EventBy S
map_reading f (events.Out base) = events.Out base
map_reading f (events.Start asked) =
    events.Start (record { mode = asked.mode; ns = asked.ns; slack = asked.slack; reading = f asked.reading; base = asked.base })
map_reading f events.Cancel = events.Cancel
map_reading f (events.Claim base reading) = events.Claim base (f reading)
map_reading f (events.Forward reading interval) = events.Forward (f reading) interval
map_reading f (events.Finish restart) = events.Finish restart

-- an event by the stamp of its reading
abbrev pub stamped : Event → EventBy ℕ
stamped event = map_reading (λ (reading : ClockReading). reading.stamp) event
