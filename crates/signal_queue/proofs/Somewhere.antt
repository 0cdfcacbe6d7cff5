-- Some view of a list has what is asked, and the list changes.
use Rattle.std.proofs.Common.{◌≡◌, ℕ, zero, suc, List, [], ◌∷◌, ◌++◌, set, sym, ◌∙◌, subst, ◌⊎◌, inl, inr, ⊎_elim}
use mathlib.Core.Option.{some, some-injective, some-ne-none}
use lib.ListN.{get_elem?}
use Rattle.atomic_table.proofs.Lists.{set_else}
use Rattle.pass_names.proofs.Counts.{set_there}

module _ {V : Type 0} (P : V → Type 0) where
  abbrev pub Somewhere : List V → Type 0
  Somewhere views = (j : ℕ) × (v : V) × (get_elem? views j ≡ some v) × P v

  -- at this place there is another view, or the place is elsewhere
  parted : (views : List V) (i : ℕ) (v w : V) → get_elem? views i ≡ some v → Somewhere views → P v ⊎ Somewhere (set views i w)
  parted [] i v w at some_one = absurd (some-ne-none v (sym at))
  parted (x ∷ xs) zero v w at (zero, u, at_u, p) = inl (subst P (sym (some-injective x u at_u) ∙ some-injective x v at) p)
  parted (x ∷ xs) zero v w at (suc j, u, at_u, p) = inr (suc j, u, at_u, p)
  parted (x ∷ xs) (suc i) v w at (zero, u, at_u, p) = inr (zero, u, at_u, p)
  parted (x ∷ xs) (suc i) v w at (suc j, u, at_u, p) = ⊎_elim (λ t. inl t) (λ t. inr (suc t.0, t.1, t.2, t.3)) (parted xs i v w at (j, u, at_u, p))

  pub still_set : (views : List V) (i : ℕ) (v w : V) → get_elem? views i ≡ some v → (P v → P w) → Somewhere views → Somewhere (set views i w)
  still_set views i v w at keeps some_one = ⊎_elim (λ t. (i, w, set_there views i v w at, keeps t)) (λ t. t) (parted views i v w at some_one)

  pub still_grown : (views : List V) (w : V) → Somewhere views → Somewhere (views ++ w ∷ [])
  still_grown [] w (j, u, at_u, p) = absurd (some-ne-none u (sym at_u))
  still_grown (x ∷ xs) w (zero, u, at_u, p) = (zero, u, at_u, p)
  still_grown (x ∷ xs) w (suc j, u, at_u, p) = let t = still_grown xs w (j, u, at_u, p) in (suc t.0, t.1, t.2, t.3)

  pub still_merged : (views : List V) (i j : ℕ) (v v' w w' : V) → get_elem? views i ≡ some v → (j ≡ i → ⊥) → get_elem? (set views i v') j ≡ some w
      → (P v → P v') → (P w → P v') → Somewhere views → Somewhere (set (set views i v') j w')
  still_merged views i j v v' w w' at apart at_j keeps takes some_one =
      ⊎_elim (λ t. (i, v', set_else (set views i v') j i w' (λ e. apart (sym e)) ∙ set_there views i v v' at, takes t)) (λ t. t)
      (parted (set views i v') j w w' at_j (still_set views i v v' at keeps some_one))
