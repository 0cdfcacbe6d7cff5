-- Sums over a list when one element changes, and counts when one element is taken out.
use Rattle.std.proofs.Common.{◌≡◌, ℕ, zero, suc, ◌+◌, ◌<◌, ◌≤◌, ◌≢◌, Bool, true, false, List, [], ◌∷◌, ◌++◌, map, set, refl, ap, sym, ◌∙◌, ◌⊎◌, ⊎_elim, inl, inr, subst, arith}
use Rattle.std.proofs.lemmas.Bool.{cases_lt}
use mathlib.Core.Option.{some, some-injective, some-ne-none}
use lib.ListN.{get_elem?}
use Rattle.atomic_table.proofs.Lists.{at_set}
use Rattle.pass_names.specs.Counts.{one_if, total, count, drop_if, without_first}

-- a test that counts is met
pub met : (b : Bool) → 0 < one_if b → b ≡ true
met true h = refl
met false h = absurd (omega arith)

module _ {A : Type 0} where
  -- an element that was written over is the new one
  pub set_there : (l : List A) (i : ℕ) (a b : A) → get_elem? l i ≡ some a → get_elem? (set l i b) i ≡ some b
  set_there [] i a b e = absurd (some-ne-none a (sym e))
  set_there (x ∷ xs) zero a b e = refl
  set_there (x ∷ xs) (suc i) a b e = set_there xs i a b e

  pub total-append : (f : A → ℕ) (xs ys : List A) → total f (xs ++ ys) ≡ total f xs + total f ys
  total-append f [] ys = omega arith
  total-append f (x ∷ xs) ys = omega (arith, total-append f xs ys)

  pub total_set : (f : A → ℕ) (xs : List A) (i : ℕ) (x y : A) → get_elem? xs i ≡ some x → total f (set xs i y) + f x ≡ total f xs + f y
  total_set f [] i x y e = absurd (some-ne-none x (sym e))
  total_set f (z ∷ zs) zero x y e = let h = ap f (some-injective z x e) in omega arith
  total_set f (z ∷ zs) (suc i) x y e = omega (arith, total_set f zs i x y e)

  -- what holds of all elements holds after one of them was written over, where it holds of that one
  pub all_set : (P : A → Type 0) (xs : List A) (i : ℕ) (y : A) → P y → ((j : ℕ) (z : A) → j ≢ i → get_elem? xs j ≡ some z → P z)
      → (j : ℕ) (z : A) → get_elem? (set xs i y) j ≡ some z → P z
  all_set P xs i y here else j z e = ⊎_elim (λ t. subst P t.1 here) (λ t. else j z t.0 t.1) (at_set xs i j y z e)

  -- a sum, where one element was written over and one came; and where two were written over
  pub total_grown : (f : A → ℕ) (xs : List A) (i : ℕ) (x y z : A) → get_elem? xs i ≡ some x → f y + f z ≡ f x
      → total f (set xs i y ++ z ∷ []) ≡ total f xs
  total_grown f xs i x y z at same = omega (arith, same, total_set f xs i x y at, total-append f (set xs i y) (z ∷ []))

  pub total_merged : (f : A → ℕ) (xs : List A) (i j : ℕ) (x y u z : A) → get_elem? xs i ≡ some x → get_elem? (set xs i y) j ≡ some u
      → f y + f z ≡ f x + f u → total f (set (set xs i y) j z) ≡ total f xs
  total_merged f xs i j x y u z at at_u same = omega (arith, same, total_set f xs i x y at, total_set f (set xs i y) j u z at_u)

  -- no part is more than the sum
  pub total_at : (f : A → ℕ) (xs : List A) (i : ℕ) (x : A) → get_elem? xs i ≡ some x → f x ≤ total f xs
  total_at f [] i x e = absurd (some-ne-none x (sym e))
  total_at f (z ∷ zs) zero x e = let h = ap f (some-injective z x e) in omega arith
  total_at f (z ∷ zs) (suc i) x e = omega (arith, total_at f zs i x e)

  -- two parts are no more than the sum
  pub total_two : (f : A → ℕ) (xs : List A) (i j : ℕ) (x y : A) → i ≢ j → get_elem? xs i ≡ some x → get_elem? xs j ≡ some y → f x + f y ≤ total f xs
  total_two f [] i j x y n e h = absurd (some-ne-none x (sym e))
  total_two f (z ∷ zs) zero zero x y n e h = absurd (n refl)
  total_two f (z ∷ zs) zero (suc j) x y n e h = let t = ap f (some-injective z x e) in omega (arith, total_at f zs j y h)
  total_two f (z ∷ zs) (suc i) zero x y n e h = let t = ap f (some-injective z y h) in omega (arith, total_at f zs i x e)
  total_two f (z ∷ zs) (suc i) (suc j) x y n e h = omega (arith, total_two f zs i j x y (λ t. n (ap suc t)) e h)

  abbrev Found : (A → ℕ) → List A → Type 0
  Found f xs = (i : ℕ) × (x : A) × (get_elem? xs i ≡ some x) × (0 < f x)

  found_in : (f : A → ℕ) (z : A) (zs : List A) → 0 < total f (z ∷ zs) → (0 < total f zs → Found f zs) → ((0 < f z) ⊎ (f z ≤ 0)) → Found f (z ∷ zs)
  found_in f z zs h rec (inl a) = (0, z, refl, a)
  found_in f z zs h rec (inr a) = let r = rec (omega arith) in (suc r.0, r.1, r.2, r.3)

  -- where the sum is not 0, some part is not
  pub total_found : (f : A → ℕ) (xs : List A) → 0 < total f xs → (i : ℕ) × (x : A) × (get_elem? xs i ≡ some x) × (0 < f x)
  total_found f [] h = absurd (omega arith)
  total_found f (z ∷ zs) h = found_in f z zs h (λ t. total_found f zs t) (cases_lt 0 (f z))

  pub total_none : (f : A → ℕ) (xs : List A) → ((i : ℕ) (x : A) → get_elem? xs i ≡ some x → f x ≡ 0) → total f xs ≡ 0
  total_none f [] h = refl
  total_none f (z ∷ zs) h = omega (arith, h 0 z refl, total_none f zs (λ i x e. h (suc i) x e))

  -- where all other parts are 0, the sum is the one part
  pub total_only : (f : A → ℕ) (xs : List A) (i : ℕ) (x : A) → get_elem? xs i ≡ some x
      → ((j : ℕ) (y : A) → j ≢ i → get_elem? xs j ≡ some y → f y ≡ 0) → total f xs ≡ f x
  total_only f [] i x e h = absurd (some-ne-none x (sym e))
  total_only f (z ∷ zs) zero x e h = let t = ap f (some-injective z x e) in omega (arith, total_none f zs (λ j y k. h (suc j) y (λ n. omega arith) k))
  total_only f (z ∷ zs) (suc i) x e h = omega (arith, h 0 z (λ n. omega arith) refl, total_only f zs i x e (λ j y n k. h (suc j) y (λ t. n (omega arith)) k))

  pub total-map : {B : Type 0} (g : B → A) (f : A → ℕ) (xs : List B) → total f (map g xs) ≡ total (λ x. f (g x)) xs
  total-map g f [] = refl
  total-map g f (x ∷ xs) = omega (arith, total-map g f xs)

  -- a change that f does not show
  pub map_kept : {B : Type 0} (f : A → B) (xs : List A) (i : ℕ) (x y : A) → get_elem? xs i ≡ some x → f y ≡ f x → map f (set xs i y) ≡ map f xs
  map_kept f [] i x y e h = refl
  map_kept f (z ∷ zs) zero x y e h = λ k. (h ∙ sym (ap f (some-injective z x e))) k ∷ map f zs
  map_kept f (z ∷ zs) (suc i) x y e h = λ k. f z ∷ map_kept f zs i x y e h k

  abbrev Taken : (p q : A → Bool) (b : Bool) (xs : List A) → Type 0
  Taken p q b xs = count q (without_first p xs) + one_if b ≡ count q xs

  taken_in : (p q : A → Bool) (b : Bool) (x : A) (xs : List A) (t : Bool) → p x ≡ t → (p x ≡ true → q x ≡ b)
      → (0 < count p xs → Taken p q b xs) → 0 < one_if (p x) + count p xs
      → count q (drop_if t x xs (without_first p xs)) + one_if b ≡ one_if (q x) + count q xs
  taken_in p q b x xs true e same rec h = let t = ap one_if (same e) in omega arith
  taken_in p q b x xs false e same rec h = let t : one_if (p x) ≡ 0 = ap one_if e in let r = rec (omega arith) in omega arith

  -- Where q answers alike of all that p is met by, taking one out by p takes as many from the count by q.
  pub count-without_first : (p q : A → Bool) (b : Bool) → ((x : A) → p x ≡ true → q x ≡ b) → (xs : List A) → 0 < count p xs
      → count q (without_first p xs) + one_if b ≡ count q xs
  count-without_first p q b same [] h = absurd (omega arith)
  count-without_first p q b same (x ∷ xs) h = taken_in p q b x xs (p x) refl (same x) (λ t. count-without_first p q b same xs t) h

  -- a count is no more than before once one is taken out
  pub count-without_first-le : (p q : A → Bool) (xs : List A) → count q (without_first p xs) ≤ count q xs
  count-without_first-le p q [] = omega arith
  count-without_first-le p q (x ∷ xs) = less p q x xs (p x) (count-without_first-le p q xs)
    where
      less : (p q : A → Bool) (x : A) (xs : List A) (t : Bool) → count q (without_first p xs) ≤ count q xs
          → count q (drop_if t x xs (without_first p xs)) ≤ one_if (q x) + count q xs
      less p q x xs true h = omega arith
      less p q x xs false h = omega arith
