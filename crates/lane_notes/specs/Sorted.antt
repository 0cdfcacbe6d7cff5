-- The order of notes: by the list that they belong to, the number there, and the label.
use Rattle.std.specs.Prelude.{ℕ, ◌≡◌, Bool, false, nat_eq, nat_lt, ◌&&◌, ◌||◌, List, [], ◌∷◌}
use Rattle.std.specs.List.{AllByRecursion}
use Rattle.std.specs.List.Sorted.{IsPermutation}
use Rattle.record_text.specs.declared.record.Label.{Label}
use Rattle.run_history.specs.Order.{is_lower}
use Rattle.lane_notes.specs.declared.notes.BaseNote.{BaseNote}
use Rattle.lane_notes.specs.declared.notes.EntryNote.{EntryNote}
use Rattle.lane_notes.specs.declared.notes.LookNote.{LookNote}
use Rattle.lane_notes.specs.declared.notes.ObjectNote.{ObjectNote}
use Rattle.lane_notes.specs.declared.notes.SkipNote.{SkipNote}
use Rattle.lane_notes.specs.declared.notes.WriteNote.{WriteNote}
use Rattle.lane_notes.specs.Notes.{NotesOf}

-- where a note belongs: the list, the number there, and the label of its call
pub record Place : Type 0 where
  pub list : ℕ
  pub number : ℕ
  pub label : Label

abbrev pub place_parts : Place → ℕ × ℕ × Label
place_parts p = (p.list, p.number, p.label)

-- whether one place comes before another
abbrev pub comes_before : Place → Place → Bool
comes_before a b =
    nat_lt a.list b.list || (nat_eq a.list b.list && (nat_lt a.number b.number || (nat_eq a.number b.number && is_lower a.label b.label)))

abbrev pub place_of_entry : EntryNote → Place
place_of_entry n = record { list = n.timer; number = n.number; label = n.label }

abbrev pub place_of_look : LookNote → Place
place_of_look n = record { list = n.timer; number = n.number; label = n.label }

abbrev pub place_of_object : ObjectNote → Place
place_of_object n = record { list = n.object; number = n.number; label = n.label }

abbrev pub place_of_skip : SkipNote → Place
place_of_skip n = record { list = n.object; number = n.number; label = n.label }

abbrev pub place_of_base : BaseNote → Place
place_of_base n = record { list = n.base; number = n.number; label = n.label }

-- the clock has one list
abbrev pub place_of_write : WriteNote → Place
place_of_write n = record { list = 0; number = n.stamp; label = n.line.label }

module _ {X : Type 0} where
  -- no note comes before one that stands ahead of it
  abbrev pub StandInOrder : (X → Place) → List X → Type 0
  StandInOrder place [] = Unit
  StandInOrder place (x ∷ xs) = AllByRecursion (λ y. comes_before (place y) (place x) ≡ false) xs × StandInOrder place xs

  -- the same notes, in order
  pub record IsSortedOf (place : X → Place) (xs sorted : List X) : Type 0 where
    pub same : IsPermutation xs sorted
    pub order : StandInOrder place sorted

  -- whether a note belongs to this list
  abbrev pub is_of_list : (X → Place) → ℕ → X → Bool
  is_of_list place list x = nat_eq (place x).list list

  -- whether it has this number
  abbrev pub is_of_number : (X → Place) → ℕ → X → Bool
  is_of_number place number x = nat_eq (place x).number number

-- the notes of each kind, in order
pub record IsSortedFrom (notes sorted : NotesOf) : Type 0 where
  pub entries : IsSortedOf place_of_entry notes.entries sorted.entries
  pub looks : IsSortedOf place_of_look notes.looks sorted.looks
  pub objects : IsSortedOf place_of_object notes.objects sorted.objects
  pub skips : IsSortedOf place_of_skip notes.skips sorted.skips
  pub bases : IsSortedOf place_of_base notes.bases sorted.bases
  pub writes : IsSortedOf place_of_write notes.writes sorted.writes
