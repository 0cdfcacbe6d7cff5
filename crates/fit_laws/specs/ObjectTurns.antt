-- Where the turns of an object stand in the one order of all moves. A turn is two moves of a call: it begins, and the call makes its entry.
use Rattle.std.specs.Prelude.{ℕ, suc, ◌≡◌, ◌+◌, Some}
use Rattle.std.specs.List.{slice_get}
use Rattle.record_text.specs.declared.record.Label.{Label}
use Rattle.run_history.specs.Witnesses.{Move, OfRise, Witness}

-- a move of the call, of an object's list, stands behind so many moves, and so many of the list stand before it
pub record HasTurnMove (w : Witness) (i : ℕ) (c : Label) (before place : ℕ) : Type 0 where
  pub move : Move
  pub there : slice_get w.moves place ≡ Some move
  pub label : move.label ≡ c
  pub is : move.shown ≡ OfRise (suc i)
  pub count : move.before ≡ before

-- the call's turn of the object, behind so many entries of it, begins behind so many moves
abbrev pub TurnBeginsAt : Witness → ℕ → Label → ℕ → ℕ → Type 0
TurnBeginsAt w i c stamp place = HasTurnMove w i c (stamp + stamp) place

-- and ends there, with the call's entry
abbrev pub TurnEndsAt : Witness → ℕ → Label → ℕ → ℕ → Type 0
TurnEndsAt w i c stamp place = HasTurnMove w i c (stamp + stamp + 1) place
