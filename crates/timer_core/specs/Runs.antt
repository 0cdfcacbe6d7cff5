-- Runs of calls, and the history that they give to one timer.
use Rattle.std.specs.Prelude.{ℕ, ◌≡◌, List, [], ◌∷◌, ◌++◌, nat_eq, if◌then◌else◌}
use Rattle.seq_timer.specs.Events.{Event}
use Rattle.seq_timer.specs.Steps.{Timer}
use Rattle.seq_timer.specs.Histories.{Entry}
use Rattle.seq_timer.specs.Calls.{entries_along, step_all}
use Rattle.timer_core.specs.Kept.{Kept, Makes}

-- a call by what it does: it makes these events of one timer
pub record Call : Type 0 where
  pub timer : ℕ
  pub events : List Event

-- these calls in turn lead from one to the other
abbrev pub MakeCalls : Kept → List Call → Kept → Type 0
MakeCalls old [] new = new ≡ old
MakeCalls old (c ∷ cs) new = (mid : Kept) × Makes old c.timer c.events mid × MakeCalls mid cs new

-- the entries of one timer along calls
abbrev pub history_along : ℕ → Timer → List Call → List Entry
history_along id t [] = []
history_along id t (c ∷ cs) = if nat_eq c.timer id then entries_along t c.events ++ history_along id (step_all t c.events) cs else history_along id t cs
