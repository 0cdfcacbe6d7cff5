-- Bytes that are cut at a byte, and parts that are joined by it.
use Rattle.std.proofs.Common.{◌≡◌, ℕ, false, List, [], ◌∷◌, ◌++◌, refl, ap, ◌∙◌, ◌==◌}
use Rattle.std.specs.List.{AllByRecursion, join_with_byte, slice_split}
use Rattle.std.proofs.lemmas.Bool.{eq-eqb}
use Rattle.std.proofs.lemmas.List.Elements.{All-from_recursion}
use Rattle.std.proofs.lemmas.List.Splits.{slice_split_none, slice_split_at}

-- ---- the byte that bytes are cut at

-- this byte is not among them
abbrev pub Without : ℕ → List ℕ → Type 0
Without c bytes = AllByRecursion (λ b. (b == c) ≡ false) bytes

pub split_last : (c : ℕ) (w : List ℕ) → Without c w → slice_split (λ b. b == c) w ≡ w ∷ []
split_last c w none = slice_split_none (λ b. b == c) w (All-from_recursion (λ b. (b == c) ≡ false) w none)

pub split_one : (c : ℕ) (w rest : List ℕ) → Without c w → slice_split (λ b. b == c) (w ++ c ∷ rest) ≡ w ∷ slice_split (λ b. b == c) rest
split_one c w rest none = slice_split_at (λ b. b == c) w c rest (All-from_recursion (λ b. (b == c) ≡ false) w none) (eq-eqb c c refl)

-- parts that were joined are cut again
pub split_joined : (c : ℕ) (w : List ℕ) (ws : List (List ℕ)) → AllByRecursion (λ v. Without c v) (w ∷ ws)
    → slice_split (λ b. b == c) (join_with_byte c (w ∷ ws)) ≡ w ∷ ws
split_joined c w [] none = split_last c w none.0
split_joined c w (v ∷ ws) none =
    split_one c w (join_with_byte c (v ∷ ws)) none.0 ∙ ap (λ (more : List (List ℕ)). w ∷ more) (split_joined c v ws none.1)
