-- What one call did is what the record has under its label.
use Rattle.std.specs.Prelude.{ℕ, suc, ◌≡◌, ◌+◌, List, [], ◌∷◌}
use Rattle.std.specs.List.Sorted.{IsPermutation}
use Rattle.record_text.specs.declared.record.Label.{Label}
use Rattle.run_history.specs.Witnesses.{Witness, Move, OfBase, OfRise, OfTimer, Shown}
use Rattle.run_history.specs.Actions.{Action, Began, Entered, Looked, Made, Shifted, Signalled, Skipped, Wrote, also, looked, made, own, own_looks, own_skips, signalled, skipped, wrote}
use Rattle.run_history.specs.Histories.{lines_of_timer}
use Rattle.run_history.specs.Objects.{lines_of_object}
use Rattle.run_history.specs.Order.{is_label}

-- the entries of timers, bases and objects among these, the beginnings of turns, the writes of the clock, and the pushes and pops of signals, each with its
-- number in its list. An object's list has two moves for each of its entries: where the call's turn began, and where it made the entry.
abbrev pub all_entered : List Action → List (ℕ × Shown)
all_entered [] = []
all_entered (Wrote number write ∷ ds) = (number, OfRise 0) ∷ all_entered ds
all_entered (Entered timer number entry ∷ ds) = (number, OfTimer timer entry) ∷ all_entered ds
all_entered (Looked timer number reply ∷ ds) = all_entered ds
all_entered (Began i stamp ∷ ds) = (stamp + stamp + 1, OfRise (suc i)) ∷ all_entered ds
all_entered (Made i number entry ∷ ds) = (number + number, OfRise (suc i)) ∷ all_entered ds
all_entered (Skipped i number generation ∷ ds) = all_entered ds
all_entered (Shifted base number event ∷ ds) = (number, OfBase base event) ∷ all_entered ds
all_entered (Signalled counter number signal ∷ ds) = (number, OfRise counter) ∷ all_entered ds

-- the moves of a label
abbrev pub own_moves : Label → List Move → List (ℕ × Shown)
own_moves c [] = []
own_moves c (m ∷ ms) = also (is_label c m.label) (m.before + 1, m.shown) (own_moves c ms)

-- the record, and the queue's lists, have these things under the label, and no others; the entries of timers, bases and objects, the writes, and the pushes
-- and pops, in this very order; the refused expiries of one call under one entry have no order among themselves
pub record HasTraced (w : Witness) (c : Label) (actions : List Action) : Type 0 where
  pub clock : own (λ line. line.label) (λ line. line.write) c 1 w.run.clock ≡ wrote actions
  pub moves : own_moves c w.moves ≡ all_entered actions
  pub looks : (t : ℕ) → own_looks c 1 (lines_of_timer w.run t) ≡ looked t actions
  pub objects : (i : ℕ) → own (λ line. line.label) (λ line. line.entry) c 1 (lines_of_object w.run i) ≡ made i actions
  pub skips : (i : ℕ) → IsPermutation (own_skips c 1 (lines_of_object w.run i)) (skipped i actions)
  pub signals : (k : ℕ) → own (λ line. line.label) (λ line. line.signal) c 1 (w.signals k) ≡ signalled k actions
