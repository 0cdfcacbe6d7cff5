-- The labels under one line stand in order, each once.
use mathlib.Core.Bool.{cond}
use Rattle.std.proofs.Common.{◌≡◌, ℕ, ◌<◌, ◌≤◌, Bool, true, false, ◌&&◌, ◌||◌, nat_eq, nat_lt, List, [], ◌∷◌, filter, map, refl, sym, ◌∙◌, subst}
use Rattle.std.specs.List.{AllByRecursion}
use Rattle.std.proofs.Math.Logic.{⊎_elim}
use Rattle.std.proofs.lemmas.Bool.{and_from, cases_lt, eq-eqb, eqb-false, eqb-true, lt-ltb, ltb-false, or_left, or_parts, or_right}
use Rattle.record_text.specs.declared.record.Label.{Label}
use Rattle.run_history.specs.Order.{AreSorted, is_label, is_lower}
use Rattle.lane_notes.specs.Sorted.{StandInOrder, IsSortedOf, Place, comes_before, is_of_list, is_of_number}
use Rattle.lane_notes.proofs.Standing.{AtMostOne, AtMostOne-head, AtMostOne-permuted, AtMostOne-tail}
use Rattle.lane_notes.proofs.Rising.{both, is_at, strictly}

-- whether a note of this label stands at this number of this list
abbrev pub is_of_call : {X : Type 0} → (X → Place) → ℕ → ℕ → Label → X → Bool
is_of_call place l n label x = is_at place l n x && is_label label (place x).label

same_label : (a : Label) → is_label a a ≡ true
same_label a = and_from _ _ (eq-eqb a.lane a.lane refl) (eq-eqb a.call a.call refl)

-- of two labels of which the second isn't lower, and that aren't one, the first is
lower : (a b : Label) → is_lower b a ≡ false → is_label a b ≡ false → is_lower a b ≡ true
lower a b not_lower other =
    let parts = or_parts _ _ not_lower in
    ⊎_elim (λ (less : a.lane < b.lane). or_left _ _ (lt-ltb a.lane b.lane less))
    (λ (le : b.lane ≤ a.lane).
    let same : a.lane ≡ b.lane = both le (ltb-false b.lane a.lane parts.0) in
    let is : nat_eq b.lane a.lane ≡ true = eq-eqb b.lane a.lane (sym same) in
    let at : nat_eq a.lane b.lane ≡ true = eq-eqb a.lane b.lane same in
    let calls : nat_lt b.call a.call ≡ false = subst (λ t. (t && nat_lt b.call a.call) ≡ false) is parts.1 in
    let differ : nat_eq a.call b.call ≡ false = subst (λ t. (t && nat_eq a.call b.call) ≡ false) at other in
    or_right _ _ (and_from _ _ at (lt-ltb a.call b.call (strictly (ltb-false b.call a.call calls) (eqb-false a.call b.call differ)))))
    (cases_lt a.lane b.lane)

-- of two notes at one number the labels are in order
labels_before : (a b : Place) → a.list ≡ b.list → a.number ≡ b.number → comes_before b a ≡ false → is_lower b.label a.label ≡ false
labels_before a b lists numbers order =
    let is_list : nat_eq b.list a.list ≡ true = eq-eqb b.list a.list (sym lists) in
    let is_number : nat_eq b.number a.number ≡ true = eq-eqb b.number a.number (sym numbers) in
    let at_list =
    subst (λ t. (t && (nat_lt b.number a.number || (nat_eq b.number a.number && is_lower b.label a.label))) ≡ false) is_list (or_parts _ _ order).1 in
    subst (λ t. (t && is_lower b.label a.label) ≡ false) is_number (or_parts _ _ at_list).1

-- the labels of the notes at a number of a list, in their order
abbrev pub labels_at : {X : Type 0} → (X → Place) → ℕ → ℕ → List X → List Label
labels_at place l n xs = map (λ x. (place x).label) (filter (is_of_number place n) (filter (is_of_list place l) xs))

module _ {X : Type 0} (place : X → Place) (l n : ℕ) where
  -- with one more note, which is at that number of that list or not
  labels_with : (x : X) (xs : List X) (P : List Label → Type 0) → ((place x).list ≡ l → (place x).number ≡ n → P ((place x).label ∷ labels_at place l n xs))
      → P (labels_at place l n xs) → P (labels_at place l n (x ∷ xs))
  labels_with x xs P here elsewhere =
      let of_list = filter (is_of_list place l) xs in
      let of_number = filter (is_of_number place n) of_list in
      elim (nat_eq (place x).list l) as
      (λ b. nat_eq (place x).list l ≡ b → P (map (λ y. (place y).label) (filter (is_of_number place n) (cond b (x ∷ of_list) of_list)))) [
        | true ↦ λ is_list. elim (nat_eq (place x).number n) as
            (λ b. nat_eq (place x).number n ≡ b → P (map (λ y. (place y).label) (cond b (x ∷ of_number) of_number))) [
              | true ↦ λ is_number. here (eqb-true (place x).list l is_list) (eqb-true (place x).number n is_number)
              | false ↦ λ not. elsewhere
            ] refl
        | false ↦ λ not. elsewhere
      ] refl

  above : (x : X) (xs : List X) → (place x).list ≡ l → (place x).number ≡ n → AllByRecursion (λ y. comes_before (place y) (place x) ≡ false) xs
      → AllByRecursion (λ y. is_of_call place l n (place x).label y ≡ false) xs
      → AllByRecursion (λ other. is_lower (place x).label other ≡ true) (labels_at place l n xs)
  above x [] lists numbers order others = tt
  above x (y ∷ ys) lists numbers order others =
      labels_with y ys (AllByRecursion (λ other. is_lower (place x).label other ≡ true))
      (λ is_list is_number. (
        lower (place x).label (place y).label (labels_before (place x) (place y) (lists ∙ sym is_list) (numbers ∙ sym is_number) order.0)
            (subst (λ t. (t && is_label (place x).label (place y).label) ≡ false)
            (and_from _ _ (eq-eqb (place y).list l is_list) (eq-eqb (place y).number n is_number)) others.0),
        above x ys lists numbers order.1 others.1,
      ))
      (above x ys lists numbers order.1 others.1)

  labels_sorted : (xs : List X) → StandInOrder place xs → ((label : Label) → AtMostOne (is_of_call place l n label) xs) → AreSorted (labels_at place l n xs)
  labels_sorted [] order once = tt
  labels_sorted (x ∷ xs) order once =
      let rest = labels_sorted xs order.1 (λ label. AtMostOne-tail (is_of_call place l n label) x xs (once label)) in
      labels_with x xs AreSorted
      (λ is_list is_number. (
        above x xs is_list is_number order.0 (AtMostOne-head (is_of_call place l n (place x).label) x xs
            (and_from _ _ (and_from _ _ (eq-eqb (place x).list l is_list) (eq-eqb (place x).number n is_number)) (same_label (place x).label))
            (once (place x).label)),
        rest,
      ))
      rest

  none_lower : (x : X) (xs : List X) → (place x).list ≡ l → (place x).number ≡ n → AllByRecursion (λ y. comes_before (place y) (place x) ≡ false) xs
      → AllByRecursion (λ other. is_lower other (place x).label ≡ false) (labels_at place l n xs)
  none_lower x [] lists numbers order = tt
  none_lower x (y ∷ ys) lists numbers order =
      labels_with y ys (AllByRecursion (λ other. is_lower other (place x).label ≡ false))
      (λ is_list is_number. (labels_before (place x) (place y) (lists ∙ sym is_list) (numbers ∙ sym is_number) order.0, none_lower x ys lists numbers order.1))
      (none_lower x ys lists numbers order.1)

  -- law: no label is lower than one ahead of it; what a list of such labels has, a head at a time, these have
  pub labels_never_fall : (P : List Label → Type 0) → P []
      → ((c : Label) (cs : List Label) → AllByRecursion (λ other. is_lower other c ≡ false) cs → P cs → P (c ∷ cs))
      → (xs : List X) → StandInOrder place xs → P (labels_at place l n xs)
  labels_never_fall P none more [] order = none
  labels_never_fall P none more (x ∷ xs) order =
      let rest = labels_never_fall P none more xs order.1 in
      labels_with x xs P (λ is_list is_number. more (place x).label (labels_at place l n xs) (none_lower x xs is_list is_number order.0) rest) rest

-- law: the labels of the sorted notes at a number of a list stand in order, each once, where each label is noted once there
pub AreSorted-labels_at : {X : Type 0} (place : X → Place) (l n : ℕ) (xs sorted : List X) → IsSortedOf place xs sorted
    → ((label : Label) → AtMostOne (is_of_call place l n label) xs) → AreSorted (labels_at place l n sorted)
AreSorted-labels_at place l n xs sorted is once =
    labels_sorted place l n sorted is.order (λ label. AtMostOne-permuted (is_of_call place l n label) xs sorted is.same (once label))
