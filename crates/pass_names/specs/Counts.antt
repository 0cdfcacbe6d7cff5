-- Sums over a list, and how often something stands in it.
use Rattle.std.specs.Prelude.{ℕ, ◌+◌, Bool, true, false, List, [], ◌∷◌}

-- one for a test that is met, else nothing
abbrev pub one_if : Bool → ℕ
one_if true = 1
one_if false = 0

module _ {A : Type 0} where
  -- what f gives for each element, added up
  abbrev pub total : (A → ℕ) → List A → ℕ
  total f [] = 0
  total f (x ∷ xs) = f x + total f xs

  -- how many elements meet the test
  abbrev pub count : (A → Bool) → List A → ℕ
  count p xs = total (λ x. one_if (p x)) xs

  -- the rest where the test is met, else the element before what is left of it
  abbrev pub drop_if : Bool → A → List A → List A → List A
  drop_if true x xs rest = xs
  drop_if false x xs rest = x ∷ rest

  -- the list without the first element that meets the test
  abbrev pub without_first : (A → Bool) → List A → List A
  without_first p [] = []
  without_first p (x ∷ xs) = drop_if (p x) x xs (without_first p xs)
