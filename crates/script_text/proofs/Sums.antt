-- The step of a sum over a list.
use Rattle.std.proofs.Common.{◌≡◌, ℕ, ◌+◌, ◌<◌, List, length, drop, get_or, ap, ◌∙◌, arith}
use Rattle.std.specs.List.{sum_by}
use Rattle.std.proofs.lemmas.List.Sums.{sum_by-drop_more}

-- what one more item adds to the sum of those before it
pub sum_more : {X : Type 0} (f : X → ℕ) (xs : List X) (i : ℕ) (x y : X) (sum more now all : ℕ) → i < length xs
    → x ≡ get_or xs i x → y ≡ x → more ≡ f y
    → now ≡ sum + more → sum + sum_by f (drop i xs) ≡ all → now + sum_by f (drop (i + 1) xs) ≡ all
sum_more f xs i x y sum more now all inside item is adds gives so_far =
    omega (arith, sum_by-drop_more f xs i x inside, adds ∙ ap f (is ∙ item), gives, so_far)
