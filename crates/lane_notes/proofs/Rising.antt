-- Notes in their order rise strictly where each number of a list stands once.
use Rattle.std.proofs.Common.{◌≡◌, ℕ, ◌<◌, ◌≤◌, ◌⊎◌, Bool, true, false, ◌&&◌, ◌||◌, nat_eq, nat_lt, List, [], ◌∷◌, arith, refl, sym, subst, inl, inr}
use Rattle.std.specs.List.{AllByRecursion}
use Rattle.std.proofs.Math.Logic.{⊎_elim}
use Rattle.std.proofs.lemmas.Bool.{and_from, cases_lt, eq-eqb, eqb-false, ltb-false, or_parts}
use Rattle.run_history.specs.Order.{is_lower}
use Rattle.lane_notes.specs.Sorted.{StandInOrder, IsSortedOf, Place, comes_before}
use Rattle.lane_notes.proofs.Standing.{AtMostOne, AtMostOne-head, AtMostOne-permuted, AtMostOne-tail, All-permuted}

-- the first one is behind a list's number
abbrev pub IsBehind : {X : Type 0} → (X → Place) → ℕ → ℕ → List X → Type 0
IsBehind place l n [] = Unit
IsBehind place l n (x ∷ xs) = (l < (place x).list) ⊎ ((l ≡ (place x).list) × (n < (place x).number))

-- in the order of lists, and of numbers along a list, behind a list's number
abbrev pub RiseBehind : {X : Type 0} → (X → Place) → ℕ → ℕ → List X → Type 0
RiseBehind place l n [] = Unit
RiseBehind place l n (x ∷ xs) = IsBehind place l n (x ∷ xs) × RiseBehind place (place x).list (place x).number xs

-- whether a note stands at this number of this list
abbrev pub is_at : {X : Type 0} → (X → Place) → ℕ → ℕ → X → Bool
is_at place l n x = nat_eq (place x).list l && nat_eq (place x).number n

pub both : {m n : ℕ} → n ≤ m → m ≤ n → m ≡ n
both le ge = omega (arith, le, ge)

pub strictly : {m n : ℕ} → m ≤ n → (m ≡ n → ⊥) → m < n
strictly {m = m} {n = n} le differ = ⊎_elim (λ (less : m < n). less) (λ (ge : n ≤ m). absurd (differ (omega (arith, le, ge)))) (cases_lt m n)

-- of two places in order, of which the second is another number's, the second is the greater
apart : (a b : Place) → comes_before b a ≡ false → (nat_eq b.list a.list && nat_eq b.number a.number) ≡ false
    → (a.list < b.list) ⊎ ((a.list ≡ b.list) × (a.number < b.number))
apart a b order other =
    let parts = or_parts _ _ order in
    ⊎_elim (λ (less : a.list < b.list). inl less)
    (λ (le : b.list ≤ a.list).
    let same : a.list ≡ b.list = both le (ltb-false b.list a.list parts.0) in
    let is : nat_eq b.list a.list ≡ true = eq-eqb b.list a.list (sym same) in
    let numbers = or_parts _ _ (subst (λ t. (t && (nat_lt b.number a.number || (nat_eq b.number a.number && is_lower b.label a.label))) ≡ false) is parts.1) in
    let apart : b.number ≡ a.number → ⊥ = eqb-false b.number a.number (subst (λ t. (t && nat_eq b.number a.number) ≡ false) is other) in
    inr (same, strictly (ltb-false b.number a.number numbers.0) (λ e. apart (sym e))))
    (cases_lt a.list b.list)

rises : {X : Type 0} (place : X → Place) (l n : ℕ) (xs : List X) → StandInOrder place xs → ((l n : ℕ) → AtMostOne (is_at place l n) xs)
    → IsBehind place l n xs → RiseBehind place l n xs
rises place l n [] order once behind = tt
rises {X = X} place l n (x ∷ xs) order once behind = (
  behind,
  rises place (place x).list (place x).number xs order.1 (λ m k. AtMostOne-tail (is_at place m k) x xs (once m k))
      (next xs order.0 (AtMostOne-head (is_at place (place x).list (place x).number) x xs
      (and_from _ _ (eq-eqb (place x).list (place x).list refl) (eq-eqb (place x).number (place x).number refl)) (once (place x).list (place x).number))),
)
  where
    next : (ys : List X) → AllByRecursion (λ y. comes_before (place y) (place x) ≡ false) ys
        → AllByRecursion (λ y. is_at place (place x).list (place x).number y ≡ false) ys → IsBehind place (place x).list (place x).number ys
    next [] order others = tt
    next (y ∷ ys) order others = apart (place x) (place y) order.0 others.0

-- law: sorted notes rise strictly, where each number of a list is noted once and is 1 or more
pub RiseBehind-sorted : {X : Type 0} (place : X → Place) (xs sorted : List X) → IsSortedOf place xs sorted → ((l n : ℕ) → AtMostOne (is_at place l n) xs)
    → AllByRecursion (λ x. 1 ≤ (place x).number) xs → RiseBehind place 0 0 sorted
RiseBehind-sorted {X = X} place xs sorted is once some =
    rises place 0 0 sorted is.order (λ l n. AtMostOne-permuted (is_at place l n) xs sorted is.same (once l n))
    (first sorted (All-permuted (λ x. 1 ≤ (place x).number) xs sorted is.same some))
  where
    first : (ys : List X) → AllByRecursion (λ x. 1 ≤ (place x).number) ys → IsBehind place 0 0 ys
    first [] some = tt
    first (y ∷ ys) some =
        ⊎_elim (λ (less : 0 < (place y).list). inl less)
        (λ (le : (place y).list ≤ 0). inr (omega (arith, le), omega (arith, some.0))) (cases_lt 0 (place y).list)
