-- What an evacuation does to a timer: it is sent to the heir and started there for the times that it was armed for.
use Rattle.std.specs.Prelude.{ℕ, ◌≡◌, ◌+◌, ◌-◌, false, Some, List, [], ◌∷◌}
use Rattle.ktime.specs.Readings.{ClockReading}
use Rattle.ktime.specs.declared.mode.Mode.TheVariants as modes
use Rattle.seq_timer.specs.Calls.{asked_for, step_all}
use Rattle.seq_timer.specs.Events.{Event}
use Rattle.seq_timer.specs.declared.event.EventBy.TheVariants as events
use Rattle.seq_timer.specs.Steps.{Timer}

-- the events of it
abbrev pub move_events : Timer → ℕ → ClockReading → List Event
move_events t heir reading =
    events.Out heir ∷ events.Start (asked_for modes.Keep t.soft (t.expires - t.soft) heir reading) ∷ []

-- the timer after it
abbrev pub moved : ℕ → ClockReading → Timer → Timer
moved heir reading t = step_all t (move_events t heir reading)

-- it is armed there, by a new generation, for the same times of the same clock
pub record IsMovedTo (heir : ℕ) (t now : Timer) : Type 0 where
  pub base : now.base ≡ heir
  pub clock : now.clock ≡ t.clock
  pub soft : now.soft ≡ t.soft
  pub expires : now.expires ≡ t.expires
  pub armed : now.armed ≡ Some (t.stamp + 2)
  pub still : now.moving ≡ false
  pub stamp : now.stamp ≡ t.stamp + 2
