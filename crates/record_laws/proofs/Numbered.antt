-- Sorted notes of a list of which each number is noted once: the note at a place has the place's number.
use mathlib.Core.Bool.{cond}
use Rattle.std.proofs.Common.{◌≡◌, ℕ, ◌+◌, ◌<◌, ◌≤◌, zero, suc, Bool, true, false, nat_eq, nat_le, nat_lt, Some, List, [], ◌∷◌, filter, length, map, arith, refl, sym, ap, ◌∙◌, subst, get_or}
use Rattle.std.specs.List.{AllByRecursion, slice_get}
use Rattle.std.proofs.Math.Logic.{⊎_elim}
use Rattle.std.proofs.lemmas.Bool.{and_from, and_left, and_parts, and_right, both_ways, cases_lt, eq-eqb, eqb-true, le-leb, leb-true, lt-ltb, ltb-true, ne_eqb, or_left, or_right}
use Rattle.std.proofs.lemmas.List.Sorted.{length_permutation}
use Rattle.std.proofs.lemmas.Option.{same_Some, slice_get_within}
use Rattle.pass_names.specs.Counts.{count, one_if}
use Rattle.pass_names.specs.Passes.{within, is_place}
use Rattle.lane_notes.specs.Sorted.{comes_before, is_of_list, IsSortedOf, Place, StandInOrder}
use Rattle.lane_notes.proofs.Rising.{is_at, strictly}
use Rattle.lane_notes.proofs.Shelves.{add_later, add_none, each_below-past, get_or-each_below}
use Rattle.lane_notes.proofs.Standing.{AtMostOne, AtMostOne-head, filter_stands_in, HasPlace, stands_in_filter, stood_before}
use Rattle.run_history.proofs.Lists.{all_at}
use Rattle.run_history.proofs.Permuted.{filter_permuted}
use Rattle.lane_notes.specs.Records.{each_below}

-- law: what is counted among things that are made of others
pub count-map : {X Y : Type 0} (f : X → Y) (p : Y → Bool) (xs : List X) → count p (map f xs) ≡ length (filter (λ x. p (f x)) xs)
count-map f p [] = refl
count-map f p (x ∷ xs) =
    let rest = count-map f p xs in
    elim (p (f x)) as (λ b. one_if b + count p (map f xs) ≡ length (cond b (x ∷ filter (λ y. p (f y)) xs) (filter (λ y. p (f y)) xs))) [
      | true ↦ omega (arith, rest)
      | false ↦ omega (arith, rest)
    ]

-- law: a list that nothing stands in is empty
pub nobody : {X : Type 0} (xs : List X) → ((x : X) → HasPlace xs x → ⊥) → xs ≡ []
nobody [] none = refl
nobody (x ∷ xs) none = absurd (none x (0, refl))

pub none_long : {X : Type 0} (xs : List X) → length xs ≡ 0 → xs ≡ []
none_long [] none = refl
none_long (x ∷ xs) none = absurd (omega (arith, none))

-- of a list each number from 1 up to so many stands once among these notes, and no other number
pub record AreEachOnce {X : Type 0} (place : X → Place) (l many : ℕ) (xs : List X) : Type 0 where
  pub each : (n : ℕ) → length (filter (is_at place l n) xs) ≡ one_if (within n many)

-- law: so it is where they are the places of a pass that has each once
pub once_from : {X : Type 0} {place : X → Place} {l many : ℕ} {xs : List X} (mine : List (ℕ × ℕ))
    → ((n : ℕ) → count (is_place l n) mine ≡ count (is_place l n) (map (λ x. ((place x).list, (place x).number)) xs))
    → ((n : ℕ) → count (is_place l n) mine ≡ one_if (within n many)) → AreEachOnce place l many xs
once_from {place = place} {l = l} {xs = xs} mine same all = record {
  each = λ n. sym (count-map (λ x. ((place x).list, (place x).number)) (is_place l n) xs) ∙ sym (same n) ∙ all n;
}

pub within_from : (n many : ℕ) → 1 ≤ n → n < 1 + many → one_if (within n many) ≡ 1
within_from n many some most = ap one_if (and_from _ _ (lt-ltb 0 n (omega (arith, some))) (le-leb n many (omega (arith, most))))

within_parts : (n many : ℕ) (b : Bool) → within n many ≡ b → 0 < one_if b → (1 ≤ n) × (n < 1 + many)
within_parts n many false is some = absurd (omega (arith, some))
within_parts n many true is some =
    let parts = and_parts (nat_lt 0 n) (nat_le n many) is in (omega (arith, ltb-true 0 n parts.0), omega (arith, leb-true n many parts.1))

one_most : (b : Bool) → one_if b ≤ 1
one_most true = omega arith
one_most false = omega arith

-- notes with the numbers from k on
abbrev pub AreNumbered : {X : Type 0} → (X → Place) → ℕ → List X → Type 0
AreNumbered place k [] = Unit
AreNumbered place k (x ∷ xs) = ((place x).number ≡ k) × AreNumbered place (k + 1) xs

number_at : {X : Type 0} (place : X → Place) (k j : ℕ) (xs : List X) (x : X) → AreNumbered place k xs → slice_get xs j ≡ Some x → (place x).number ≡ k + j
number_at place k j [] x are at = absurd (cc)
number_at place k zero (y ∷ xs) x are at = ap (λ z. (place z).number) (sym (same_Some y x at)) ∙ are.0 ∙ add_none k
number_at place k (suc j) (y ∷ xs) x are at = number_at place (k + 1) j xs x are.1 at ∙ add_later k j

module _ {X : Type 0} (place : X → Place) (l : ℕ) where
  -- a note that stands at another place isn't counted
  others : (n : ℕ) (x : X) (xs : List X) → is_at place l n x ≡ false → length (filter (is_at place l n) xs) ≡ length (filter (is_at place l n) (x ∷ xs))
  others n x xs not = ap (λ b. length (cond b (x ∷ filter (is_at place l n) xs) (filter (is_at place l n) xs))) (sym not)

  -- in order no lower number stands behind a note
  none_lower : (n : ℕ) (x : X) (xs : List X) → AllByRecursion (λ y. comes_before (place y) (place x) ≡ false) xs → (place x).list ≡ l → n < (place x).number
      → filter (is_at place l n) xs ≡ []
  none_lower n x xs order of less = nobody (filter (is_at place l n) xs) (λ y st.
      let f = filter_stands_in (is_at place l n) xs y st in
      let at = and_parts _ _ f.1 in
      both_ways (comes_before (place y) (place x)) (all_at (λ z. comes_before (place z) (place x) ≡ false) xs f.0.0 y order f.0.1)
      (or_right _ _ (and_from _ _ (eq-eqb (place y).list (place x).list (eqb-true (place y).list l at.0 ∙ sym of))
      (or_left _ _ (lt-ltb (place y).number (place x).number (omega (arith, less, eqb-true (place y).number n at.1)))))))

  -- where each number from k on below another stands once, and no other number, the notes have the numbers from k on
  numbered : (k top : ℕ) (xs : List X) → StandInOrder place xs → ((n : ℕ) → k ≤ n → n < top → length (filter (is_at place l n) xs) ≡ 1)
      → ((x : X) → HasPlace xs x → (place x).list ≡ l → (k ≤ (place x).number) × ((place x).number < top)) → k ≤ top
      → AreNumbered place k (filter (is_of_list place l) xs) × (k + length (filter (is_of_list place l) xs) ≡ top)
  numbered k top [] order once only le =
      (tt, ⊎_elim (λ (less : k < top). absurd (omega (arith, once k (omega arith) less))) (λ (ge : top ≤ k). omega (arith, le, ge)) (cases_lt k top))
  numbered k top (x ∷ xs) order once only le =
      let n = (place x).number in
      let of_list = filter (is_of_list place l) xs in
      elim (nat_eq (place x).list l) as (λ b. nat_eq (place x).list l ≡ b → AreNumbered place k (cond b (x ∷ of_list) of_list)
      × (k + length (cond b (x ∷ of_list) of_list) ≡ top)) [
        | true ↦ λ is.
            let of : (place x).list ≡ l = eqb-true (place x).list l is in
            let bounds = only x (0, refl) of in
            let here = once k (omega arith) (omega (arith, bounds.0, bounds.1)) in
            let apart : (m : ℕ) → (n ≡ m → ⊥) → is_at place l m x ≡ false = λ m differ. and_right _ _ (ne_eqb n m differ) in
            let first : n ≡ k = ⊎_elim
            (λ (more : k < n). let none = ap length (none_lower k x xs order.0 of more) in
            absurd (omega (arith, here, none, others k x xs (apart k (λ e. omega (arith, e, more))))))
            (λ (less : n ≤ k). omega (arith, less, bounds.0)) (cases_lt k n) in
            let differ : (y : X) → HasPlace xs y → (place y).list ≡ l → k ≡ (place y).number → ⊥ = λ y s is_of e. both_ways (is_at place l k y)
            (all_at (λ z. is_at place l k z ≡ false) xs s.0 y (AtMostOne-head (is_at place l k) x xs (and_from _ _ is (eq-eqb n k first)) (omega (arith, here)))
            s.1) (and_from _ _ (eq-eqb (place y).list l is_of) (eq-eqb (place y).number k (sym e))) in
            let rest = numbered (k + 1) top xs order.1
            (λ m some less. others m x xs (apart m (λ e. omega (arith, e, first, some))) ∙ once m (omega (arith, some)) less)
            (λ y s is_of. let b = only y (suc s.0, s.1) is_of in (omega (arith, strictly b.0 (differ y s is_of)), b.1)) (omega (arith, bounds.0, bounds.1)) in
            ((first, rest.0), omega (arith, rest.1))
        | false ↦ λ not. numbered k top xs order.1 (λ m some less. others m x xs (and_left _ _ not) ∙ once m some less) (λ y s. only y (suc s.0, s.1)) le
      ] refl

-- ---- the sorted notes

module _ {X : Type 0} {place : X → Place} {l many : ℕ} {xs sorted : List X} (is : IsSortedOf place xs sorted) (once : AreEachOnce place l many xs) where
  -- a note's number is one of its list's
  pub number_within : (x : X) → HasPlace xs x → (place x).list ≡ l → (1 ≤ (place x).number) × ((place x).number < 1 + many)
  number_within x s of =
      let n = (place x).number in
      let f = stands_in_filter (is_at place l n) xs x (and_from _ _ (eq-eqb (place x).list l of) (eq-eqb n n refl)) s in
      within_parts n many (within n many) refl (subst (λ m. 0 < m) (once.each n) (omega (arith, (slice_get_within (filter (is_at place l n) xs) f.0 x f.1))))

  pub at_most_one : (n : ℕ) → AtMostOne (is_at place l n) xs
  at_most_one n = subst (λ m. m ≤ 1) (sym (once.each n)) (one_most (within n many))

  all_numbered : AreNumbered place 1 (filter (is_of_list place l) sorted) × (1 + length (filter (is_of_list place l) sorted) ≡ 1 + many)
  all_numbered = numbered place l 1 (1 + many) sorted is.order
      (λ n some less. length_permutation (filter (is_at place l n) xs) (filter (is_at place l n) sorted) (filter_permuted (is_at place l n) xs sorted is.same)
      ∙ once.each n ∙ within_from n many some less) (λ x s. number_within x (stood_before xs sorted s.0 x is.same s.1)) (omega arith)

  -- law: they have the numbers from 1 on
  pub are_numbered : AreNumbered place 1 (filter (is_of_list place l) sorted)
  are_numbered = all_numbered.0

  -- law: there are as many
  pub as_many : length (filter (is_of_list place l) sorted) ≡ many
  as_many = omega (arith, all_numbered.1)

  -- law: the note at a place was noted, with the place's number
  pub noted_at : (j : ℕ) (x : X) → slice_get (filter (is_of_list place l) sorted) j ≡ Some x → HasPlace xs x × ((place x).list ≡ l) × ((place x).number ≡ 1 + j)
  noted_at j x at =
      let f = filter_stands_in (is_of_list place l) sorted x (j, at) in
      (stood_before xs sorted f.0.0 x is.same f.0.1, eqb-true (place x).list l f.1, number_at place 1 j (filter (is_of_list place l) sorted) x are_numbered at)

-- law: the lists that are made by their number, where there is nothing in those that aren't
pub lines_are : {L : Type 0} (f : ℕ → List L) (lists l : ℕ) → (lists ≤ l → f l ≡ []) → get_or (each_below f lists) l [] ≡ f l
lines_are f lists l none = ⊎_elim (λ (less : l < lists). get_or-each_below f lists l [] less)
    (λ (past : lists ≤ l). each_below-past f lists l [] past ∙ sym (none past)) (cases_lt l lists)
