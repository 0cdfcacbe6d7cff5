-- The lock of an end: its word, the slot in which the end lies while it isn't lent, and who has it.
use Rattle.std.specs.Prelude.{◌≡◌, ◌⊎◌, ℕ, true, false, [], ◌∷◌, ◌==◌, MatchBool, Option, Some}
use mathlib.Core.Option.{none, some}
use lib.ListN.{get_elem?}
use Rattle.atomic_table.specs.Seated.{TableId}
use Rattle.atomic_table.specs.Table.{Me, State, Step}
use Rattle.atomic_table.specs.declared.shared.Seat.{Seat}
use Rattle.signal_queue.specs.Ends.{SeatOfQueue}
use Rattle.signal_queue.specs.declared.ends.End.{End}
use Rattle.signal_queue.specs.declared.lock.LockView.{LockView}
use Rattle.signal_queue.specs.declared.lock.Past.{Past}
use Rattle.signal_queue.specs.declared.lock.Past.TheVariants.{New, Refused, GaveBack}

-- a lock, and a seat of the queue that its end is of
pub record LockOf : Type 0 where
  pub id : TableId
  pub of : SeatOfQueue

-- a seat of a lock
abbrev pub SeatOfLock : Type 0
SeatOfLock = Seat (Option End) LockView

-- the view of a seat without an end
abbrev pub idle_lock_view : Past → SeatOfQueue → LockView
idle_lock_view past of = record { of = of; holds = false; past = past }

-- what is asked of an end, and of which queue it is
module _ (is_end : SeatOfQueue → End → Type 0) where
  -- the end lies in its slot, and nobody has it
  pub record IsFree (of : SeatOfQueue) (s : State (Option End) LockView) : Type 0 where
    pub words : s.words ≡ 0 ∷ []
    pub end : End
    pub homes : s.homes ≡ some (Some end) ∷ []
    pub fits : is_end of end
    pub views : (j : ℕ) (v : LockView) → get_elem? s.views j ≡ some v → (v.of ≡ of) × (v.holds ≡ false)

  -- one has it
  pub record HasTaker (of : SeatOfQueue) (s : State (Option End) LockView) : Type 0 where
    pub words : s.words ≡ 1 ∷ []
    pub homes : s.homes ≡ none ∷ []
    pub by : ℕ
    pub views : (j : ℕ) (v : LockView) → get_elem? s.views j ≡ some v → (v.of ≡ of) × (v.holds ≡ true → j ≡ by)

  -- the rule of a lock
  abbrev pub IsLock : SeatOfQueue → State (Option End) LockView → Type 0
  IsLock of s = IsFree of s ⊎ HasTaker of s

  -- a try: where the word was 0, the end was taken out of its slot; else the seat was refused
  abbrev pub TriesLock : Step (Option End) → Me (Option End) LockView → ℕ → Me (Option End) LockView → Type 0
  TriesLock st me found after =
      MatchBool (found == 0) ((end : End) × (after ≡ (record { of = me.0.of; holds = true; past = New }, (0, Some end) ∷ [])) × is_end me.0.of end)
      (after ≡ (idle_lock_view Refused me.0.of, []))

-- a look: where the word was not 0, the seat was refused
abbrev pub SeesLock : Step (Option End) → Me (Option End) LockView → ℕ → Me (Option End) LockView → Type 0
SeesLock st me found after = MatchBool (found == 0) (after ≡ (me.0, [])) (after ≡ (idle_lock_view Refused me.0.of, []))

-- the end is put back
abbrev pub FreesLock : Step (Option End) → Me (Option End) LockView → ℕ → Me (Option End) LockView → Type 0
FreesLock st me found after = after ≡ (idle_lock_view GaveBack me.0.of, [])

-- a new seat of a lock
abbrev pub first_lock_view : SeatOfQueue → LockView
first_lock_view = idle_lock_view New

-- the seat has the lock, with this in its slot
pub record HoldsLock (lock : LockOf) (slot : Option End) (seat : SeatOfLock) : Type 0 where
  pub same : seat.table_id ≡ lock.id
  pub me : seat.me ≡ (record { of = lock.of; holds = true; past = New }, (0, slot) ∷ [])

-- the seat came when somebody else had the end
pub record FoundLent (lock : LockOf) (seat : SeatOfLock) : Type 0 where
  pub same : seat.table_id ≡ lock.id
  pub me : seat.me ≡ (idle_lock_view Refused lock.of, [])

-- the seat that had the lock has put the end back
pub record HasGivenBack (lock : LockOf) (held seat : SeatOfLock) : Type 0 where
  pub same : seat.table_id ≡ lock.id
  pub id : seat.id ≡ held.id
  pub me : seat.me ≡ (idle_lock_view GaveBack lock.of, [])
