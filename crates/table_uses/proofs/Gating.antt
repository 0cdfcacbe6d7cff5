-- A claim that is open is that of the last entry.
use Rattle.std.proofs.Common.{◌≡◌, ℕ, ◌<◌, Bool, true, false, List, [], ◌∷◌, ◌++◌, refl, ap, arith}
use Rattle.pass_names.specs.Counts.{one_if}
use Rattle.pass_names.specs.Names.{same, occurrences}
use Rattle.std.proofs.lemmas.Bool.{eq-eqb}
use Rattle.pass_names.proofs.Counts.{met, total-append}
use Rattle.pass_names.proofs.Names.{same-refl, same_eq}
use Rattle.counted_row.specs.declared.view.Locked.{Locked}
use Rattle.counted_row.specs.Views.{PassOfRow, Locks, HasClaim, is_claim}
use Rattle.counted_row.proofs.Knowing.{open_now}
use Rattle.table_uses.specs.declared.rows.gate.Gate.{Gate}
use Rattle.table_uses.specs.declared.rows.gate.Turn.{Turn}
use Rattle.table_uses.specs.Gates.{gating, claims_of}

-- a claim that is open
pub open_claim : (inside : Bool) (entries n : ℕ) → 0 < occurrences (n ∷ []) (claims_of inside entries) → (inside ≡ true) × (n ≡ entries)
open_claim true entries n open_once = (refl, first n entries (same_eq (n ∷ []) (entries ∷ []) (met (same (n ∷ []) (entries ∷ [])) (omega arith))))
  where
    first : (x y : ℕ) → x ∷ [] ≡ y ∷ [] → x ≡ y
    first x y e = cc
open_claim false entries n open_once = absurd (omega arith)

-- under the lock, the pass's claim is that of who is inside
pub held_claim : (p q : PassOfRow Gate Turn ℕ) (i n : ℕ) (h : Locked Gate) → Locks gating p q i h → HasClaim i (n ∷ []) p.knows.claims
    → (h.state.inside ≡ true) × (n ≡ h.state.entries)
held_claim p q i n h locks has = open_claim h.state.inside h.state.entries n (open_now gating p q i (n ∷ []) h locks has)

-- a claim that was put last is there
pub has_last : (i : ℕ) (name : List ℕ) (claims : List (ℕ × List ℕ)) → HasClaim i name (claims ++ (i, name) ∷ [])
has_last i name claims =
    let here : is_claim i name (i, name) ≡ true = rw (eq-eqb i i refl, same-refl name) refl in
    omega (arith, total-append (λ (c : ℕ × List ℕ). one_if (is_claim i name c)) claims ((i, name) ∷ []), ap one_if here)
