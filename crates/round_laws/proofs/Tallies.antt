-- The places that passes have made are those of the notes: one call after another, and when passes are taken in.
use Rattle.std.proofs.Common.{◌≡◌, ℕ, ◌+◌, Bool, List, [], ◌∷◌, ◌++◌, map, ap, ◌∙◌, arith}
use Rattle.std.proofs.lemmas.List.{map-append}
use Rattle.lane_notes.specs.Notes.{both_noted, no_notes, NotesOf}
use Rattle.lane_notes.specs.declared.notes.ObjectNote.{ObjectNote}
use Rattle.lane_notes.specs.declared.notes.WriteNote.{WriteNote}
use Rattle.pass_names.specs.Counts.{count, one_if}
use Rattle.pass_names.specs.Passes.{is_place}
use Rattle.pass_names.proofs.Counts.{total-append}
use Rattle.lane_notes.specs.Rounds.{HasSplit, TakesInPass}
use Rattle.lane_notes.specs.declared.lane.WorldPass.{WorldPass}
use Rattle.std.proofs.Common.{◌<◌, zero, suc, length, get_or, refl}
use Rattle.lane_notes.proofs.Left.{sum_below}
use Rattle.pass_names.specs.Counts.{total}
use Rattle.lane_notes.proofs.Kept.{AddsPlaces, Tallies, base_note_place, note_place, places_noted}

-- ---- sums

-- law: of equal values
pub sum_same : (n : ℕ) (f g : ℕ → ℕ) → ((j : ℕ) → f j ≡ g j) → sum_below n f ≡ sum_below n g
sum_same zero f g same = refl
sum_same (suc n) f g same = let rest = sum_same n (λ j. f (suc j)) (λ j. g (suc j)) (λ j. same (suc j)) in omega (arith, same 0, rest)

-- law: of none
pub sum_none : (n : ℕ) (f : ℕ → ℕ) → ((j : ℕ) → f j ≡ 0) → sum_below n f ≡ 0
sum_none zero f none = refl
sum_none (suc n) f none = let rest = sum_none n (λ j. f (suc j)) (λ j. none (suc j)) in omega (arith, none 0, rest)

-- law: of values that are equal but for one
pub sum_at : (n a : ℕ) (f g : ℕ → ℕ) → a < n → ((j : ℕ) → (j ≡ a → ⊥) → f j ≡ g j) → sum_below n f + g a ≡ sum_below n g + f a
sum_at zero a f g less same = absurd (omega (arith, less))
sum_at (suc n) zero f g less same =
    let rest = sum_same n (λ j. f (suc j)) (λ j. g (suc j)) (λ j. same (suc j) (λ is. absurd (omega (arith, is)))) in omega (arith, rest)
sum_at (suc n) (suc a) f g less same =
    let rest = sum_at n a (λ j. f (suc j)) (λ j. g (suc j)) (omega (arith, less)) (λ j other. same (suc j) (λ is. other (omega (arith, is)))) in
    omega (arith, rest, same 0 (λ is. absurd (omega (arith, is))))

-- law: of the items of a list
pub sum_items : {X : Type 0} (f : X → ℕ) (d : X) (xs : List X) → total f xs ≡ sum_below (length xs) (λ i. f (get_or xs i d))
sum_items f d [] = refl
sum_items f d (x ∷ xs) = ap (λ n. f x + n) (sum_items f d xs)

-- ---- places

-- the places of two passes together
pub mine_both : (test : ℕ × ℕ → Bool) (xs ys : List (ℕ × ℕ)) {zs : List (ℕ × ℕ)} → zs ≡ xs ++ ys → count test zs ≡ count test xs + count test ys
mine_both test xs ys is = ap (count test) is ∙ total-append (λ x. one_if (test x)) xs ys

-- the places of notes of one kind and of others
notes_both : {X : Type 0} (test : ℕ × ℕ → Bool) (place : X → ℕ × ℕ) (xs ys : List X)
    → count test (map place (xs ++ ys)) ≡ count test (map place xs) + count test (map place ys)
notes_both test place xs ys = mine_both test (map place xs) (map place ys) (map-append place xs ys)

-- those of entries
noted_both : (many i n : ℕ) (a b : NotesOf) → places_noted many i n (both_noted a b) ≡ places_noted many i n a + places_noted many i n b
noted_both many i n a b = omega
    (arith, notes_both (is_place i n) note_place a.entries b.entries, notes_both (is_place i n) (base_note_place many) a.bases b.bases)

module _ {many : ℕ} where
  -- law: places that were added are those of the notes that were added
  pub tallies_more : {p q : WorldPass} (a b : NotesOf) → Tallies many p a → AddsPlaces many p q b → Tallies many q (both_noted a b)
  tallies_more a b so_far adds = record {
    timers = λ i n. omega (arith, so_far.timers i n, adds.timers i n, noted_both many i n a b);
    objects = λ i n. omega
        (arith, so_far.objects i n, adds.objects i n, notes_both (is_place i n) (λ (e : ObjectNote). (e.object, e.number)) a.objects b.objects);
    clock = λ n. omega (arith, so_far.clock n, adds.clock n, notes_both (is_place 0 n) (λ (e : WriteNote). (0, e.stamp)) a.writes b.writes);
  }

  -- law: a pass that has taken in another has added what that one had made
  pub adds_taken : {p other q : WorldPass} {b : NotesOf} → TakesInPass p other q → Tallies many other b → AddsPlaces many p q b
  adds_taken {p} {other} takes its = record {
    timers = λ i n. omega (arith, its.timers i n, mine_both (is_place i n) p.timers.known.mine other.timers.known.mine takes.timers.mine);
    objects = λ i n. omega (arith, its.objects i n, mine_both (is_place i n) p.objects.knows.pass.mine other.objects.knows.pass.mine takes.objects.mine);
    clock = λ n. omega (arith, its.clock n, mine_both (is_place 0 n) p.clock.knows.pass.mine other.clock.knows.pass.mine takes.clock.mine);
  }

  -- law: passes that have made nothing
  pub tallies_none : {p : WorldPass} → p.timers.known.mine ≡ [] → p.objects.knows.pass.mine ≡ [] → p.clock.knows.pass.mine ≡ []
      → Tallies many p no_notes
  tallies_none timers objects clock = record {
    timers = λ i n. omega (arith, ap (count (is_place i n)) timers);
    objects = λ i n. ap (count (is_place i n)) objects;
    clock = λ n. ap (count (is_place 0 n)) clock;
  }

  -- law: passes that others were split off have made what they had made
  pub tallies_split : {p q : WorldPass} {notes : NotesOf} → HasSplit p q → Tallies many p notes → Tallies many q notes
  tallies_split split so_far = record {
    timers = λ i n. ap (count (is_place i n)) split.timers.1 ∙ so_far.timers i n;
    objects = λ i n. ap (count (is_place i n)) split.objects.1 ∙ so_far.objects i n;
    clock = λ n. ap (count (is_place 0 n)) split.clock.1 ∙ so_far.clock n;
  }
