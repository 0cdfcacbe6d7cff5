-- The history of a queue of signals: a list of pushes and pops.
use Rattle.std.specs.Prelude.{◌≡◌, ◌<◌, ℕ, List, [], ◌∷◌, ◌++◌, length, drop}
use Rattle.signal_queue.specs.declared.signal.Signal.{Signal}
use Rattle.signal_queue.specs.declared.signal.Turn.{Turn}
use Rattle.signal_queue.specs.declared.signal.Turn.TheVariants.{Pushed, Popped}

-- where so many may wait, and from these waiting signals on, oldest first: each push finds room, and each pop takes the oldest signal that was not yet popped
abbrev pub AreTurns : ℕ → List Signal → List Turn → Type 0
AreTurns room waiting [] = Unit
AreTurns room waiting (Pushed s ∷ turns) = (length waiting < room) × AreTurns room (waiting ++ s ∷ []) turns
AreTurns room [] (Popped s ∷ turns) = ⊥
AreTurns room (w ∷ waiting) (Popped s ∷ turns) = (s ≡ w) × AreTurns room waiting turns

-- the signals that wait after the turns, oldest first
abbrev pub waiting_after : List Signal → List Turn → List Signal
waiting_after waiting [] = waiting
waiting_after waiting (Pushed s ∷ turns) = waiting_after (waiting ++ s ∷ []) turns
waiting_after waiting (Popped s ∷ turns) = waiting_after (drop 1 waiting) turns

-- the signals that were pushed, in their order
abbrev pub pushed : List Turn → List Signal
pushed [] = []
pushed (Pushed s ∷ turns) = s ∷ pushed turns
pushed (Popped s ∷ turns) = pushed turns

-- the signals that were popped, in their order
abbrev pub popped : List Turn → List Signal
popped [] = []
popped (Pushed s ∷ turns) = popped turns
popped (Popped s ∷ turns) = s ∷ popped turns
