-- The last pass among the views of a shared structure: all others are gone, and each entry is its own.
use Rattle.std.proofs.Common.{◌≡◌, ℕ, ◌≢◌, true, false, List, map, ⊎_elim}
use Rattle.std.proofs.lemmas.Bool.{cases_Bool}
use mathlib.Core.Option.{some}
use lib.ListN.{get_elem?}
use Rattle.atomic_table.proofs.Lists.{at_map}
use Rattle.pass_names.specs.declared.PassId.{PassId}
use Rattle.pass_names.specs.Counts.{total}
use Rattle.pass_names.specs.Names.{IsLast, IsPassTree}
use Rattle.pass_names.proofs.Counts.{total_only}
use Rattle.pass_names.proofs.Names.{last_alone}

-- V is what a structure's rule keeps of each pass, the last of which is v at i
module _ {V : Type 0} (id_of : V → PassId) (views : List V) (tree : IsPassTree (map id_of views))
    (i : ℕ) (v : V) (at : get_elem? views i ≡ some v) (live : (id_of v).live ≡ true) (last : IsLast (id_of v)) where
  pub others_gone : (j : ℕ) (u : V) → j ≢ i → get_elem? views j ≡ some u → (id_of u).live ≡ false
  others_gone j u apart at_u =
      let alone = last_alone (map id_of views) tree i j (id_of v) (id_of u) (at_map id_of views i v at) live last (at_map id_of views j u at_u) in
      ⊎_elim (λ t. absurd (apart (alone t))) (λ f. f) (cases_Bool (id_of u).live)

  -- what is added up over all passes, and is nothing of those that are gone, is the last one's
  pub total_last : (f : V → ℕ) → ((j : ℕ) (u : V) → get_elem? views j ≡ some u → (id_of u).live ≡ false → f u ≡ 0) → total f views ≡ f v
  total_last f gone = total_only f views i v at (λ j u apart at_u. gone j u at_u (others_gone j u apart at_u))
