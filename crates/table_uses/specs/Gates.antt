-- What a gate's calls mean.
use Rattle.std.specs.Prelude.{◌≡◌, ℕ, ◌+◌, ◌^◌, ◌<◌, Bool, true, false, List, [], ◌∷◌}
use Rattle.counted_row.specs.Meaning.{CallMeaning, Effect, opens, ends}
use Rattle.table_uses.specs.declared.rows.gate.Gate.{Gate}
use Rattle.table_uses.specs.declared.rows.gate.Turn.{Turn}
use Rattle.table_uses.specs.declared.rows.gate.Turn.TheVariants.{Enter, Leave}

-- one may enter while nobody is inside, and leave while somebody is
abbrev pub may_turn : Gate → Turn → Type 0
may_turn s Enter = (s.inside ≡ false) × (s.entries + 1 < 2 ^ 64)
may_turn s Leave = s.inside ≡ true

abbrev pub turned_gate : Gate → Turn → Gate
turned_gate s Enter = record { inside = true; entries = s.entries + 1 }
turned_gate s Leave = record { inside = false; entries = s.entries }

-- who is inside has the claim of the last entry
abbrev pub claims_of : Bool → ℕ → List (List ℕ)
claims_of true n = (n ∷ []) ∷ []
claims_of false n = []

abbrev pub effect_of : Gate → Turn → Effect
effect_of s Enter = opens ((s.entries + 1) ∷ [])
effect_of s Leave = ends (s.entries ∷ [])

abbrev pub gating : CallMeaning Gate Turn ℕ
gating = record {
  may = may_turn;
  next = turned_gate;
  reply = λ s c. (turned_gate s c).entries;
  claims = λ s. claims_of s.inside s.entries;
  effect = effect_of;
}
