-- Handles that were split off a first one, and taken in again, are of one history.
use Rattle.std.specs.List.{AllByRecursion}
use Rattle.std.specs.Prelude.{ℕ, ◌≡◌, List, [], ◌∷◌, ◌++◌}
use Rattle.pass_names.specs.Passes.{Begins}
use Rattle.hulayban.specs.Systems.{HandleOf, history}

-- the places of timers' and bases' entries that handles have made
abbrev pub made_by_all : List HandleOf → List (ℕ × ℕ)
made_by_all [] = []
made_by_all (h ∷ hs) = h.timers.known.mine ++ made_by_all hs

-- The handles that were split off began with just what the first one had seen. What each had seen when it was taken in begins what the first one has seen in
-- the end: so each moment of their calls is one of that history. Each place that the first one then has it had before, or one of them has made.
pub record AreOfOneHistory (old new : HandleOf) (begun ended : List HandleOf) : Type 0 where
  pub first : AllByRecursion (λ (h : HandleOf). history h ≡ history old) begun
  pub last : AllByRecursion (λ (h : HandleOf). Begins (history h) (history new)) ended
  pub goes_on : Begins (history old) (history new)
  pub owns : new.timers.known.mine ≡ old.timers.known.mine ++ made_by_all ended
