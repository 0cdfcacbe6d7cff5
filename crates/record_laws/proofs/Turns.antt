-- Notes of objects as the notes of their turns: two of each, one behind the other.
use Rattle.std.proofs.Common.{◌≡◌, ◌+◌, ℕ, zero, suc, Bool, true, false, nat_eq, Some, List, [], ◌∷◌, ◌++◌, filter, length, map, refl, ap, ◌∙◌, arith}
use Rattle.std.specs.List.{AllByRecursion, slice_get}
use Rattle.std.specs.List.Sorted.{IsPermutation}
use Rattle.std.proofs.lemmas.Bool.Decides.{nat_tests}
use Rattle.std.proofs.lemmas.Bool.{eqb-true}
use Rattle.std.proofs.lemmas.List.Sorted.{IsPermutation-append, IsPermutation-map, IsPermutation-sym, IsPermutation-trans}
use mathlib.Core.Bool.{cond}
use Rattle.record_text.specs.declared.record.Label.{Label}
use Rattle.run_history.specs.Witnesses.{CountersList, OfRise, Owner, ShownLine, is_owner, owner_of, twice}
use Rattle.lane_notes.specs.Sorted.{is_of_list, place_of_object}
use Rattle.lane_notes.specs.declared.notes.ObjectNote.{ObjectNote}
use Rattle.lane_notes.proofs.Standing.{HasPlace}
use Rattle.lane_notes.proofs.Kept.{ToldNote, of_object, of_turn, turn_notes}
use Rattle.lane_notes.proofs.PartLists.{turns_by_kind}

-- whether a note is of this list
abbrev pub is_on : Owner → ToldNote → Bool
is_on o n = is_owner (owner_of n.shown) o

-- the line that it gives
abbrev pub line_told : ToldNote → ShownLine
line_told n = record { label = n.label; shown = n.shown }

-- law: each item twice is twice as many
pub twice_many : {A : Type 0} (xs : List A) → length (twice xs) ≡ length xs + length xs
twice_many [] = refl
twice_many (x ∷ xs) = omega (arith, twice_many xs)

-- law: what holds of both notes of each turn
pub all_turns : (P : ToldNote → Type 0) (ns : List ObjectNote) → AllByRecursion (λ n. P (of_turn n) × P (of_object n)) ns → AllByRecursion P (turn_notes ns)
all_turns P [] all = tt
all_turns P (n ∷ ns) all = (all.0.0, (all.0.1, all_turns P ns all.1))

-- law: those of a label are those of its notes
pub filter-turns : (p : Label → Bool) (ns : List ObjectNote) → filter (λ n. p n.label) (turn_notes ns) ≡ turn_notes (filter (λ n. p n.label) ns)
filter-turns p [] = refl
filter-turns p (n ∷ ns) =
    let rest = filter (λ (m : ToldNote). p m.label) (turn_notes ns) in
    let own = filter (λ (m : ObjectNote). p m.label) ns in
    elim (p n.label) as (λ b. cond b (of_turn n ∷ cond b (of_object n ∷ rest) rest) (cond b (of_object n ∷ rest) rest) ≡ turn_notes (cond b (n ∷ own) own)) [
      | true ↦ ap (λ zs. of_turn n ∷ of_object n ∷ zs) (filter-turns p ns)
      | false ↦ filter-turns p ns
    ]

-- law: those of other lists are none
pub none_of_turns : (o : Owner) → ((i : ℕ) → is_owner (CountersList (suc i)) o ≡ false) → (ns : List ObjectNote) → filter (is_on o) (turn_notes ns) ≡ []
none_of_turns o other [] = refl
none_of_turns o other (n ∷ ns) =
    let rest = filter (is_on o) (turn_notes ns) in
    ap (λ b. cond b (of_turn n ∷ cond b (of_object n ∷ rest) rest) (cond b (of_object n ∷ rest) rest)) (other n.object) ∙ none_of_turns o other ns

next_test : (j i : ℕ) → nat_eq (suc j) (suc i) ≡ nat_eq j i
next_test j i = grind (arith, nat_tests)

-- law: those of an object's list are two of each of its notes
pub turns_of : (i : ℕ) (ns : List ObjectNote) → map line_told (filter (is_on (CountersList (suc i))) (turn_notes ns))
    ≡ twice (map {B = ShownLine} (λ n. record { label = n.label; shown = OfRise (suc i) }) (filter (is_of_list place_of_object i) ns))
turns_of i [] = refl
turns_of i (n ∷ ns) =
    let rest = filter (is_on (CountersList (suc i))) (turn_notes ns) in
    let own = filter (is_of_list place_of_object i) ns in
    let its : ObjectNote → ShownLine = λ m. record { label = m.label; shown = OfRise (suc i) } in
    ap (λ b. map line_told (cond b (of_turn n ∷ cond b (of_object n ∷ rest) rest) (cond b (of_object n ∷ rest) rest))) (next_test n.object i)
    ∙ elim (nat_eq n.object i) as (λ b. nat_eq n.object i ≡ b
    → map line_told (cond b (of_turn n ∷ cond b (of_object n ∷ rest) rest) (cond b (of_object n ∷ rest) rest)) ≡ twice (map its (cond b (n ∷ own) own))) [
      | true ↦ λ is. let here : line_told (of_object n) ≡ its n = ap (λ j. record { label = n.label; shown = OfRise (suc j) }) (eqb-true n.object i is) in
          (λ k. here k ∷ here k ∷ turns_of i ns k)
      | false ↦ λ is. turns_of i ns
    ] refl

-- law: the note of an entry stands among them
pub entry_stands_in : (ns : List ObjectNote) (n : ObjectNote) → HasPlace ns n → HasPlace (turn_notes ns) (of_object n)
entry_stands_in ns n st = go ns st.0 st.1
  where
    go : (ns : List ObjectNote) (j : ℕ) → slice_get ns j ≡ Some n → HasPlace (turn_notes ns) (of_object n)
    go [] j at = absurd (cc)
    go (m ∷ ns) zero at = (1, at_of m at)
      where
        at_of : (m : ObjectNote) → Some m ≡ Some n → Some (of_object m) ≡ Some (of_object n)
        at_of m is = let same : m ≡ n = cc in ap (λ k. Some (of_object k)) same
    go (m ∷ ns) (suc j) at = let rest = go ns j at in (suc (suc rest.0), rest.1)

-- law: the same notes in another order have the same turns
pub turns_permuted : (xs ys : List ObjectNote) → IsPermutation xs ys → IsPermutation (turn_notes xs) (turn_notes ys)
turns_permuted xs ys same =
    IsPermutation-trans (turn_notes xs) (map of_turn xs ++ map of_object xs) (turn_notes ys)
    (IsPermutation-sym (map of_turn xs ++ map of_object xs) (turn_notes xs) (turns_by_kind xs))
    (IsPermutation-trans (map of_turn xs ++ map of_object xs) (map of_turn ys ++ map of_object ys) (turn_notes ys)
    (IsPermutation-append _ _ _ _ (IsPermutation-map of_turn xs ys same) (IsPermutation-map of_object xs ys same)) (turns_by_kind ys))
