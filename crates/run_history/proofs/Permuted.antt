-- What goes along with a list into another order.
use mathlib.Core.Bool.{cond}
use Rattle.std.proofs.Common.{◌<◌, ℕ, zero, suc, Bool, true, false, List, [], ◌∷◌, filter, get_or, length, set, arith, refl}
use Rattle.std.specs.List.Sorted.{IsPermutation}
use Rattle.std.proofs.lemmas.List.Sorted.{IsPermutation-cons, IsPermutation-keeps, IsPermutation-refl, IsPermutation-swap, IsPermutation-trans}
use Rattle.std.specs.List.{swap}

-- A relation that holds between a list and itself, goes under a head, over an exchange of two heads, and from one to the next, holds of each order of a list.
module _ {X : Type 0} (R : List X → List X → Type 0) (itself : (xs : List X) → R xs xs) (under : (x : X) (xs ys : List X) → R xs ys → R (x ∷ xs) (x ∷ ys))
    (turn : (x y : X) (xs : List X) → R (x ∷ y ∷ xs) (y ∷ x ∷ xs)) (chain : (xs ys zs : List X) → R xs ys → R ys zs → R xs zs) where
  to_head : (xs : List X) (j : ℕ) (x d : X) → j < length xs → R (x ∷ xs) (get_or xs j d ∷ set xs j x)
  to_head [] j x d less = absurd (omega (arith, less))
  to_head (y ∷ xs) zero x d less = turn x y xs
  to_head (y ∷ xs) (suc j) x d less =
      chain _ _ _ (turn x y xs) (chain _ _ _ (under y _ _ (to_head xs j x d (omega (arith, less)))) (turn y (get_or xs j d) (set xs j x)))

  exchanged : (xs : List X) (i j : ℕ) (d : X) → i < length xs → j < length xs → R xs (set (set xs i (get_or xs j d)) j (get_or xs i d))
  exchanged [] i j d one two = absurd (omega (arith, one))
  exchanged (x ∷ xs) zero zero d one two = itself (x ∷ xs)
  exchanged (x ∷ xs) zero (suc j) d one two = to_head xs j x d (omega (arith, two))
  exchanged (x ∷ xs) (suc i) zero d one two = to_head xs i x d (omega (arith, one))
  exchanged (x ∷ xs) (suc i) (suc j) d one two = under x _ _ (exchanged xs i j d (omega (arith, one)) (omega (arith, two)))

  swapped : (xs : List X) (i j : ℕ) → i < length xs → j < length xs → R xs (swap xs i j)
  swapped [] i j one two = itself []
  swapped (x ∷ xs) i j one two = exchanged (x ∷ xs) i j x one two

  -- law: so for each order
  pub along_permutation : (xs ys : List X) → IsPermutation xs ys → R xs ys
  along_permutation xs = IsPermutation-keeps xs (R xs) (itself xs) (λ l i j one two so. chain xs l _ so (swapped l i j one two))

-- law: what passes a test does so in the other order too
pub filter_permuted : {X : Type 0} (p : X → Bool) (xs ys : List X) → IsPermutation xs ys → IsPermutation (filter p xs) (filter p ys)
filter_permuted {X = X} p = along_permutation (λ xs ys. IsPermutation (filter p xs) (filter p ys)) (λ xs. IsPermutation-refl (filter p xs)) under turn
    (λ xs ys zs. IsPermutation-trans (filter p xs) (filter p ys) (filter p zs))
  where
    under : (x : X) (xs ys : List X) → IsPermutation (filter p xs) (filter p ys) → IsPermutation (filter p (x ∷ xs)) (filter p (x ∷ ys))
    under x xs ys same = elim (p x) as (λ b. IsPermutation (cond b (x ∷ filter p xs) (filter p xs)) (cond b (x ∷ filter p ys) (filter p ys))) [
      | true ↦ IsPermutation-cons x (filter p xs) (filter p ys) same
      | false ↦ same
    ]

    turned : (x y : X) (zs : List X) (a b : Bool)
        → IsPermutation (cond a (x ∷ cond b (y ∷ zs) zs) (cond b (y ∷ zs) zs)) (cond b (y ∷ cond a (x ∷ zs) zs) (cond a (x ∷ zs) zs))
    turned x y zs true true = IsPermutation-swap (x ∷ y ∷ zs) (y ∷ x ∷ zs) 0 1 (omega arith) (omega arith) refl
    turned x y zs true false = IsPermutation-refl (x ∷ zs)
    turned x y zs false true = IsPermutation-refl (y ∷ zs)
    turned x y zs false false = IsPermutation-refl zs

    turn : (x y : X) (xs : List X) → IsPermutation (filter p (x ∷ y ∷ xs)) (filter p (y ∷ x ∷ xs))
    turn x y xs = turned x y (filter p xs) (p x) (p y)
