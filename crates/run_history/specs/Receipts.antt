-- Receipts of entries and rises: where each stands in the one order; and the lines of a record that are made of them.
use Rattle.std.specs.List.{AllByRecursion, slice_get}
use Rattle.std.specs.Prelude.{ℕ, ◌≡◌, ◌≤◌, ◌<◌, ◌+◌, ◌⊎◌, Some, List, [], ◌∷◌, ◌++◌, length, map, take, get_or}
use Rattle.seq_timer.specs.Systems.{entries_of, rises_of, shifts_of}
use Rattle.seq_timer.specs.declared.standing.BaseEvent.TheVariants as shifts
use Rattle.seq_timer.specs.declared.system.SystemEntry.{SystemEntry}
use Rattle.seq_timer.specs.declared.event.EventBy.TheVariants as events
use Rattle.seq_timer.specs.declared.event.Reply.TheVariants as replies
use Rattle.record_text.specs.declared.record.Label.{Label}
use Rattle.record_text.specs.declared.record.RunRecord.{RunRecord}
use Rattle.run_history.specs.Actions.{also, own}
use Rattle.run_history.specs.Witnesses.{BasesList, CountersList, Move, OfBase, OfRise, OfTimer, Owner, RunLists, Shown, ShownLine, TimersList, entry_of_shown, is_owner, lines_at, owner_of, owner_of_entry}

-- a receipt of an entry or a rise: how many moves stand before it, and what it shows, with its number in its list
pub record PlacedEntry : Type 0 where
  pub place : ℕ
  pub number : ℕ
  pub shown : Shown

-- what the receipt tells but for the place
abbrev pub receipt : PlacedEntry → ℕ × Shown
receipt x = (x.number, x.shown)

-- how many entries of a list are among these
abbrev pub count_owned : Owner → List SystemEntry → ℕ
count_owned (TimersList t) xs = length (entries_of t xs)
count_owned (BasesList b) xs = length (shifts_of b xs)
count_owned (CountersList k) xs = rises_of k xs

-- numbers that rise, none below this one
abbrev pub Rises : ℕ → List ℕ → Type 0
Rises k [] = Unit
Rises k (x ∷ xs) = (k ≤ x) × Rises (x + 1) xs

-- an entry stands in the order at the receipt's place, and has the receipt's number in its list
pub record IsMade (order : List SystemEntry) (x : PlacedEntry) : Type 0 where
  pub step : SystemEntry
  pub there : slice_get order x.place ≡ Some step
  pub owner : owner_of_entry step ≡ owner_of x.shown
  pub number : count_owned (owner_of x.shown) (take x.place order) + 1 ≡ x.number

-- it is the entry that the receipt shows
pub record ShowsEntry (r : RunRecord) (order : List SystemEntry) (x : PlacedEntry) : Type 0 where
  pub step : SystemEntry
  pub there : slice_get order x.place ≡ Some step
  pub entry : step ≡ entry_of_shown r.clock x.shown

-- ---- a record's lines

-- a receipt under its call's label
pub record Filed : Type 0 where
  pub label : Label
  pub note : PlacedEntry

-- the list in which a filed receipt's line stands
abbrev pub owner_filed : Filed → Owner
owner_filed f = owner_of f.note.shown

-- a list comes before another: the timers' before the bases', and both before the counters', each by its number
abbrev pub IsAhead : Owner → Owner → Type 0
IsAhead (TimersList t) (TimersList u) = t < u
IsAhead (TimersList t) b = Unit
IsAhead (BasesList b) (BasesList c) = b < c
IsAhead (BasesList b) (CountersList k) = Unit
IsAhead (CountersList j) (CountersList k) = j < k
IsAhead a b = ⊥

-- in the order of lists, and of the numbers along a list, behind a list's number
abbrev pub RiseBy : Owner → ℕ → List Filed → Type 0
RiseBy o n [] = Unit
RiseBy o n (f ∷ fs) = (IsAhead o (owner_filed f) ⊎ ((o ≡ owner_filed f) × (n < f.note.number))) × RiseBy (owner_filed f) f.note.number fs

-- the receipts of one list
abbrev pub files_on : Owner → List Filed → List Filed
files_on o [] = []
files_on o (f ∷ fs) = also (is_owner (owner_filed f) o) f (files_on o fs)

-- the line that a receipt gives
abbrev pub line_filed : Filed → ShownLine
line_filed f = record { label = f.label; shown = f.note.shown }

-- the record's lines are the receipts of all calls, sorted; there are as many as entries in the order
pub record AreFiled (l : RunLists) (order : List SystemEntry) (notes : Label → List PlacedEntry) (sorted : List Filed) : Type 0 where
  -- each call's receipts stand at rising places of the order
  pub rise : (c : Label) → Rises 0 (map (λ x. x.place) (notes c))
  pub made : (c : Label) → AllByRecursion (IsMade order) (notes c)
  -- the sorted list has the receipts of all calls, and nothing else
  pub filed : (c : Label) → AllByRecursion (λ x. (i : ℕ) × (slice_get sorted i ≡ Some (record { label = c; note = x }))) (notes c)
  pub back : (i : ℕ) (f : Filed) → slice_get sorted i ≡ Some f → (j : ℕ) × (slice_get (notes f.label) j ≡ Some f.note)
  pub sorts : RiseBy (TimersList 0) 0 sorted
  pub as_many : (o : Owner) → length (files_on o sorted) ≡ count_owned o order
  -- the record's lines are made of it
  pub lines : (o : Owner) → lines_at l o ≡ map line_filed (files_on o sorted)

-- ---- along the order

-- what stands for a line that isn't there
abbrev pub no_line : Owner → ShownLine
no_line (TimersList t) =
    record { label = record { lane = 0; call = 0 }; shown = OfTimer t (record { event = events.Cancel; reply = replies.Cancel 0 }) }
no_line (BasesList b) = record { label = record { lane = 0; call = 0 }; shown = OfBase b shifts.Online }
no_line (CountersList k) = record { label = record { lane = 0; call = 0 }; shown = OfRise k }

-- the line of this number in a list, as a move
abbrev pub move_at : RunLists → Owner → ℕ → Move
move_at l o before =
    record {
      before = before;
      label = (get_or (lines_at l o) before (no_line o)).label;
      shown = (get_or (lines_at l o) before (no_line o)).shown;
    }

-- the line of an entry that stands behind these
abbrev pub move_of : RunLists → List SystemEntry → SystemEntry → Move
move_of l before x = move_at l (owner_of_entry x) (count_owned (owner_of_entry x) before)

-- the lines along an order, behind a part of it
abbrev pub weave : RunLists → List SystemEntry → List SystemEntry → List Move
weave l done [] = []
weave l done (x ∷ xs) = move_of l done x ∷ weave l (done ++ x ∷ []) xs

-- what a move tells but for its label
abbrev pub shape : Move → ℕ × Shown
shape m = (m.before + 1, m.shown)

-- a receipt with its place
abbrev pub at_place : PlacedEntry → ℕ × (ℕ × Shown)
at_place x = (x.place, receipt x)

-- the receipts are all of the call's moves, at their places, in the order in which it made them
abbrev pub AreAll : Label → List Move → List PlacedEntry → Type 0
AreAll c ms xs = own (λ m. m.label) shape c 0 ms ≡ map at_place xs
