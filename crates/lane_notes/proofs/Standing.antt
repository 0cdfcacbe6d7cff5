-- A note stands in the sorted list exactly where it was noted, and as often.
use mathlib.Core.Bool.{cond}
use Rattle.std.proofs.Common.{◌≡◌, ℕ, ◌≤◌, zero, suc, Bool, true, false, List, [], ◌∷◌, Some, option_map, length, filter, map, arith, refl, sym, ap, ◌∙◌, subst}
use Rattle.std.specs.List.{AllByRecursion, Contains, slice_get}
use Rattle.std.specs.List.Sorted.{IsPermutation}
use Rattle.std.proofs.lemmas.Option.{get_or_from_slice_get, same_Some, slice_get-get_or, slice_get-map, slice_get_within}
use Rattle.std.proofs.lemmas.List.Sorted.{Contains-permutation, IsPermutation-sym, sum_by-IsPermutation}
use Rattle.std.proofs.lemmas.List.Sums.{length-filter}

-- the place of an item in a list
abbrev pub HasPlace : {X : Type 0} → List X → X → Type 0
HasPlace xs x = (i : ℕ) × (slice_get xs i ≡ Some x)

contained : {X : Type 0} (xs : List X) (i : ℕ) (x : X) → slice_get xs i ≡ Some x → Contains xs x
contained xs i x at = (i, slice_get_within xs i x at, get_or_from_slice_get xs i x x at)

-- law: what was noted stands in the other order too; back by `IsPermutation-sym`
pub stands_permuted : {X : Type 0} (xs ys : List X) (i : ℕ) (x : X) → IsPermutation xs ys → slice_get xs i ≡ Some x → HasPlace ys x
stands_permuted xs ys i x same at =
    let c = Contains-permutation xs ys x same (contained xs i x at) in
    (c.0, slice_get-get_or ys c.0 x c.1 ∙ ap Some c.2)

pub stood_before : {X : Type 0} (xs ys : List X) (i : ℕ) (x : X) → IsPermutation xs ys → slice_get ys i ≡ Some x → HasPlace xs x
stood_before xs ys i x same at = stands_permuted ys xs i x (IsPermutation-sym xs ys same) at

-- what holds of each of them holds of each in the other order
pub All-permuted : {X : Type 0} (P : X → Type 0) (xs ys : List X) → IsPermutation xs ys → AllByRecursion P xs → AllByRecursion P ys
All-permuted {X = X} P xs ys same all = each ys (λ i y at. let s = stood_before xs ys i y same at in all_at xs s.0 y all s.1)
  where
    all_at : (zs : List X) (i : ℕ) (z : X) → AllByRecursion P zs → slice_get zs i ≡ Some z → P z
    all_at [] i z all is = absurd (cc)
    all_at (w ∷ zs) zero z all is = subst P (same_Some w z is) all.0
    all_at (w ∷ zs) (suc i) z all is = all_at zs i z all.1 is

    each : (zs : List X) → ((i : ℕ) (z : X) → slice_get zs i ≡ Some z → P z) → AllByRecursion P zs
    each [] at = tt
    each (z ∷ zs) at = (at 0 z refl, each zs (λ i. at (suc i)))

-- at most one item passes a test
abbrev pub AtMostOne : {X : Type 0} → (X → Bool) → List X → Type 0
AtMostOne p xs = length (filter p xs) ≤ 1

pub AtMostOne-permuted : {X : Type 0} (p : X → Bool) (xs ys : List X) → IsPermutation xs ys → AtMostOne p xs → AtMostOne p ys
AtMostOne-permuted p xs ys same one =
    subst (λ n. n ≤ 1) (length-filter p xs ∙ sym (sum_by-IsPermutation (λ x. cond (p x) 1 0) xs ys same) ∙ sym (length-filter p ys)) one

-- law: so it is where two places of items that pass are one place
pub AtMostOne-from_places : {X : Type 0} (p : X → Bool) (xs : List X)
    → ((i j : ℕ) (x y : X) → slice_get xs i ≡ Some x → slice_get xs j ≡ Some y → p x ≡ true → p y ≡ true → i ≡ j) → AtMostOne p xs
AtMostOne-from_places p [] same = omega arith
AtMostOne-from_places {X = X} p (x ∷ xs) same =
    elim (p x) as (λ b. p x ≡ b → length (cond b (x ∷ filter p xs) (filter p xs)) ≤ 1) [
      | true ↦ λ is. omega (arith, nobody xs (λ j y at passes. absurd (omega (arith, same 0 (suc j) x y refl at is passes))))
      | false ↦ λ not. AtMostOne-from_places p xs (λ i j y z at_i at_j one two. less_one i j (same (suc i) (suc j) y z at_i at_j one two))
    ] refl
  where
    less_one : (i j : ℕ) → suc i ≡ suc j → i ≡ j
    less_one i j e = omega (arith, e)

    nobody : (ys : List X) → ((j : ℕ) (y : X) → slice_get ys j ≡ Some y → p y ≡ true → ⊥) → length (filter p ys) ≡ 0
    nobody [] none = refl
    nobody (y ∷ ys) none = elim (p y) as (λ b. p y ≡ b → length (cond b (y ∷ filter p ys) (filter p ys)) ≡ 0) [
      | true ↦ λ is. absurd (none 0 y refl is)
      | false ↦ λ not. nobody ys (λ j. none (suc j))
    ] refl

pub AtMostOne-tail : {X : Type 0} (p : X → Bool) (x : X) (xs : List X) → AtMostOne p (x ∷ xs) → AtMostOne p xs
AtMostOne-tail p x xs one = elim (p x) as (λ b. length (cond b (x ∷ filter p xs) (filter p xs)) ≤ 1 → length (filter p xs) ≤ 1) [
  | true ↦ λ le. omega (arith, le)
  | false ↦ λ le. le
] one

-- where the first one passes, no later one does
pub AtMostOne-head : {X : Type 0} (p : X → Bool) (x : X) (xs : List X) → p x ≡ true → AtMostOne p (x ∷ xs) → AllByRecursion (λ y. p y ≡ false) xs
AtMostOne-head {X = X} p x xs is one = none xs (less (length (filter p xs)) (subst (λ b. length (cond b (x ∷ filter p xs) (filter p xs)) ≤ 1) is one))
  where
    less : (n : ℕ) → suc n ≤ 1 → n ≡ 0
    less n le = omega (arith, le)

    none : (ys : List X) → length (filter p ys) ≡ 0 → AllByRecursion (λ y. p y ≡ false) ys
    none [] zero_is = tt
    none (y ∷ ys) zero_is =
        elim (p y) as (λ b. p y ≡ b → length (cond b (y ∷ filter p ys) (filter p ys)) ≡ 0 → (p y ≡ false) × AllByRecursion (λ z. p z ≡ false) ys) [
          | true ↦ λ passes e. absurd (omega (arith, e))
          | false ↦ λ not e. (not, none ys e)
        ] refl zero_is

-- ---- what a filter and a map keep

pub stands_in_filter : {X : Type 0} (p : X → Bool) (xs : List X) (x : X) → p x ≡ true → HasPlace xs x → HasPlace (filter p xs) x
stands_in_filter {X = X} p xs x passes s = at xs s.0 s.1
  where
    next : (y : X) (ys : List X) (b : Bool) → HasPlace ys x → HasPlace (cond b (y ∷ ys) ys) x
    next y ys true s = (suc s.0, s.1)
    next y ys false s = s

    at : (ys : List X) (i : ℕ) → slice_get ys i ≡ Some x → HasPlace (filter p ys) x
    at [] i is = absurd (cc)
    at (y ∷ ys) zero is = subst (λ b. HasPlace (cond b (y ∷ filter p ys) (filter p ys)) x) (sym (ap p (same_Some y x is) ∙ passes)) (0, is)
    at (y ∷ ys) (suc i) is = next y (filter p ys) (p y) (at ys i is)

pub filter_stands_in : {X : Type 0} (p : X → Bool) (xs : List X) (x : X) → HasPlace (filter p xs) x → HasPlace xs x × (p x ≡ true)
filter_stands_in {X = X} p xs x s = at xs s.0 s.1
  where
    next : (y : X) (ys : List X) → HasPlace ys x × (p x ≡ true) → HasPlace (y ∷ ys) x × (p x ≡ true)
    next y ys r = ((suc r.0.0, r.0.1), r.1)

    first : (y : X) (ys : List X) (i : ℕ) → p y ≡ true → slice_get (y ∷ filter p ys) i ≡ Some x
        → ((j : ℕ) → slice_get (filter p ys) j ≡ Some x → HasPlace ys x × (p x ≡ true)) → HasPlace (y ∷ ys) x × (p x ≡ true)
    first y ys zero passes is rest = ((0, is), ap p (sym (same_Some y x is)) ∙ passes)
    first y ys (suc i) passes is rest = next y ys (rest i is)

    at : (ys : List X) (i : ℕ) → slice_get (filter p ys) i ≡ Some x → HasPlace ys x × (p x ≡ true)
    at [] i is = absurd (cc)
    at (y ∷ ys) i is = elim (p y) as (λ b. p y ≡ b → slice_get (cond b (y ∷ filter p ys) (filter p ys)) i ≡ Some x → HasPlace (y ∷ ys) x × (p x ≡ true)) [
      | true ↦ λ passes is. first y ys i passes is (at ys)
      | false ↦ λ not is. next y ys (at ys i is)
    ] refl is

pub stands_in_map : {X Y : Type 0} (f : X → Y) (xs : List X) (x : X) → HasPlace xs x → HasPlace (map f xs) (f x)
stands_in_map f xs x s = (s.0, slice_get-map f xs s.0 ∙ ap (option_map f) s.1)

pub map_stands_in : {X Y : Type 0} (f : X → Y) (xs : List X) (y : Y) → HasPlace (map f xs) y → (x : X) × HasPlace xs x × (f x ≡ y)
map_stands_in {X = X} f xs y s = at xs s.0 s.1
  where
    at : (zs : List X) (i : ℕ) → slice_get (map f zs) i ≡ Some y → (x : X) × HasPlace zs x × (f x ≡ y)
    at [] i is = absurd (cc)
    at (z ∷ zs) zero is = (z, (0, refl), same_Some (f z) y is)
    at (z ∷ zs) (suc i) is = let r = at zs i is in (r.0, (suc r.1.0, r.1.1), r.2)
