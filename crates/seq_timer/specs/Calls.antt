-- The events of calls on one timer, and what they answer.
use Rattle.std.specs.Prelude.{ℕ, ◌+◌, Bool, not, ◌&&◌, is_some, List, [], ◌∷◌, nat_eq, if◌then◌else◌}
use Rattle.ktime.specs.declared.mode.Mode.{Mode}
use Rattle.ktime.specs.Readings.{ClockReading}
use Rattle.seq_timer.specs.Events.{Asked, Event}
use Rattle.seq_timer.specs.declared.event.EventBy.TheVariants as events
use Rattle.seq_timer.specs.declared.answer.ForwardAnswer.{ForwardAnswer}
use Rattle.seq_timer.specs.declared.answer.ForwardAnswer.TheVariants as forwards
use Rattle.seq_timer.specs.Steps.{Timer, after, moved_by, reply_to}
use Rattle.seq_timer.specs.Histories.{Entry}

-- the timer after events in turn
abbrev pub step_all : Timer → List Event → Timer
step_all t [] = t
step_all t (e ∷ es) = step_all (after t e) es

-- events as entries, each with its reply
abbrev pub entries_along : Timer → List Event → List Entry
entries_along t [] = []
entries_along t (e ∷ es) = record { event = e; reply = reply_to t e } ∷ entries_along (after t e) es

-- whether a start first moves the timer to the base that it asks for: a timer whose function is running keeps its base
abbrev pub moves_first : Timer → ℕ → Bool
moves_first t asked = not (is_some t.running) && not (nat_eq t.base asked)

-- what a start asks for
abbrev pub asked_for : Mode → ℕ → ℕ → ℕ → ClockReading → Asked
asked_for mode ns slack base reading = record { mode = mode; ns = ns; slack = slack; reading = reading; base = base }

-- the events of a start
abbrev pub start_events : Timer → Asked → List Event
start_events t asked = if moves_first t asked.base then events.Out asked.base ∷ events.Start asked ∷ [] else events.Start asked ∷ []

-- what a forward answers that isn't refused
abbrev pub forwarded_as : Timer → ClockReading → ℕ → ForwardAnswer
forwarded_as t reading interval = forwards.Forwarded (t.stamp + 1) (moved_by t reading interval)
