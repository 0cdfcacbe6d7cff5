-- The whole record of sorted notes: each timer's and object's lines, and what stands under them.
use Rattle.std.proofs.Common.{◌≡◌, ℕ, ◌+◌, List, [], ◌∷◌, Some, filter, map, refl, sym, ap, ◌∙◌, subst}
use Rattle.std.specs.List.{AllByRecursion, slice_get}
use Rattle.std.proofs.lemmas.Bool.{eqb-true}
use Rattle.record_text.specs.declared.record.Label.{Label}
use Rattle.record_text.specs.declared.record.Look.{Look}
use Rattle.record_text.specs.declared.record.Skip.{Skip}
use Rattle.record_text.specs.declared.record.ObjectLine.{ObjectLine}
use Rattle.record_text.specs.declared.record.TimerLine.{TimerLine}
use Rattle.run_history.specs.Order.{AreSorted}
use Rattle.script_text.proofs.Lists.{each}
use Rattle.lane_notes.specs.declared.notes.EntryNote.{EntryNote}
use Rattle.lane_notes.specs.declared.notes.LookNote.{LookNote}
use Rattle.lane_notes.specs.declared.notes.ObjectNote.{ObjectNote}
use Rattle.lane_notes.specs.declared.notes.SkipNote.{SkipNote}
use Rattle.lane_notes.specs.Sorted.{IsSortedOf, Place, place_of_entry, is_of_list, is_of_number, place_of_look, place_of_object, place_of_skip}
use Rattle.lane_notes.specs.Records.{look_of, noted_lines, noted_object_lines, noted_timer_lines, object_line, skip_of, timer_line}
use Rattle.lane_notes.proofs.Lists.{noted_lines-under}
use Rattle.lane_notes.proofs.Standing.{AtMostOne, HasPlace, filter_stands_in, map_stands_in}
use Rattle.lane_notes.proofs.UnderLines.{AreSorted-labels_at, is_of_call, labels_at}

-- ---- what stands under a line

-- the notes at a number of a list
at_number : {X : Type 0} (place : X → Place) (l n : ℕ) (xs : List X) (x : X)
    → HasPlace (filter (is_of_number place n) (filter (is_of_list place l) xs)) x → HasPlace xs x × ((place x).list ≡ l) × ((place x).number ≡ n)
at_number place l n xs x s =
    let outer = filter_stands_in (is_of_number place n) (filter (is_of_list place l) xs) x s in
    let inner = filter_stands_in (is_of_list place l) xs x outer.0 in
    (inner.0, eqb-true (place x).list l inner.1, eqb-true (place x).number n outer.1)

-- a note that stands, as it is told, under line k of a timer or of its object, which has the same number
pub record IsUnder {U S : Type 0} (place : U → Place) (told : U → S) (l k : ℕ) (notes : List U) (s : S) : Type 0 where
  pub note : U
  pub noted : HasPlace notes note
  pub timer : (place note).list ≡ l
  pub number : (place note).number ≡ k + 1
  pub is : told note ≡ s

-- what the lines of a list have under them, which is told of the notes at their numbers
module _ {N U L S : Type 0} (under : U → Place) (line : N → List U → L) (place : N → Place) (of : L → List S) (told : U → S)
    (are : (n : N) (us : List U) → of (line n us) ≡ map told us) (l : ℕ) (notes : List N) (unders : List U) (k : ℕ) (x : L)
    (at : slice_get (noted_lines under line place l notes unders) k ≡ Some x) where
  abbrev here : List U
  here = filter (is_of_number under (k + 1)) (filter (is_of_list under l) unders)

  told_here : of x ≡ map told here
  told_here = noted_lines-under under line place l notes unders of (map told) are k x at

  is_noted : (s : S) → HasPlace (of x) s → IsUnder under told l k unders s
  is_noted s stands =
      let m = map_stands_in told here s (subst (λ ss. HasPlace ss s) told_here stands) in
      let n = at_number under l (k + 1) unders m.0 m.1 in
      record { note = m.0; noted = n.0; timer = n.1; number = n.2; is = m.2 }

  labels_under : (label : S → Label) → ((u : U) → label (told u) ≡ (under u).label) → map label (of x) ≡ labels_at under l (k + 1) unders
  labels_under label same = ap (map label) told_here ∙ labels here
    where
      labels : (us : List U) → map label (map told us) ≡ map (λ u. (under u).label) us
      labels [] = refl
      labels (u ∷ us) = ap (λ c. c ∷ map label (map told us)) (same u) ∙ ap (λ cs. (under u).label ∷ cs) (labels us)

-- law: a look under a line is a note, and so is a skip
pub look_is_noted : (t : ℕ) (entries : List EntryNote) (looks : List LookNote) (k : ℕ) (line : TimerLine) (l : Look)
    → slice_get (noted_timer_lines t entries looks) k ≡ Some line → HasPlace line.looks l → IsUnder place_of_look look_of t k looks l
look_is_noted t entries looks k line l at =
    is_noted place_of_look timer_line place_of_entry (λ x. x.looks) look_of (λ n us. refl) t entries looks k line at l

pub skip_is_noted : (i : ℕ) (entries : List ObjectNote) (skips : List SkipNote) (k : ℕ) (line : ObjectLine) (x : Skip)
    → slice_get (noted_object_lines i entries skips) k ≡ Some line → HasPlace line.skips x → IsUnder place_of_skip skip_of i k skips x
skip_is_noted i entries skips k line x at =
    is_noted place_of_skip object_line place_of_object (λ y. y.skips) skip_of (λ n us. refl) i entries skips k line at x

-- law: under each line of a timer the labels stand in order, where each one looked once at most after each entry
pub looks_sorted : (t : ℕ) (entries : List EntryNote) (noted looks : List LookNote) → IsSortedOf place_of_look noted looks
    → ((n : ℕ) (label : Label) → AtMostOne (is_of_call place_of_look t n label) noted)
    → AllByRecursion (λ line. AreSorted (map (λ l. l.label) line.looks)) (noted_timer_lines t entries looks)
looks_sorted t entries noted looks is once =
    each (λ line. AreSorted (map (λ l. l.label) line.looks)) (noted_timer_lines t entries looks) (λ k line at.
    subst AreSorted
    (sym (labels_under place_of_look timer_line place_of_entry (λ x. x.looks) look_of (λ n us. refl) t entries looks k line at (λ l. l.label) (λ n. refl)))
    (AreSorted-labels_at place_of_look t (k + 1) noted looks is (once (k + 1))))

-- law: the labels under a line of an object are those of the sorted notes at its number, of which none is lower than one ahead of it
-- (`labels_never_fall`)
pub skips_labels : (i : ℕ) (entries : List ObjectNote) (skips : List SkipNote) (k : ℕ) (line : ObjectLine)
    → slice_get (noted_object_lines i entries skips) k ≡ Some line
    → map (λ l. l.label) line.skips ≡ labels_at place_of_skip i (k + 1) skips
skips_labels i entries skips k line at =
    labels_under place_of_skip object_line place_of_object (λ x. x.skips) skip_of (λ n us. refl) i entries skips k line at (λ s. s.label) (λ n. refl)
