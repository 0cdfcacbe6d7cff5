-- What an object's calls mean.
use Rattle.std.specs.Prelude.{◌≡◌, ℕ, ◌+◌, List, [], ◌∷◌}
use Rattle.pass_names.specs.Counts.{one_if}
use Rattle.pass_names.specs.Names.{same, occurrences}
use Rattle.counted_row.specs.declared.view.Entry.{Entry}

-- what a call does to claims, each of which is named by numbers
pub data Effect : Type 0 where
  plain : Effect
  opens : List ℕ → Effect
  uses : List ℕ → Effect
  ends : List ℕ → Effect

-- of a state and a call: whether it may be made, the state after it, its reply, and what it does to claims; and the open claims of a state
pub record CallMeaning (S C R : Type 0) : Type 1 where
  pub may : S → C → Type 0
  pub next : S → C → S
  pub reply : S → C → R
  pub claims : S → List (List ℕ)
  pub effect : S → C → Effect

-- how often the claim is opened
abbrev pub times_opened : List ℕ → Effect → ℕ
times_opened name plain = 0
times_opened name (opens claim) = one_if (same name claim)
times_opened name (uses claim) = 0
times_opened name (ends claim) = 0

-- how often the claim is ended
abbrev pub times_ended : List ℕ → Effect → ℕ
times_ended name plain = 0
times_ended name (opens claim) = 0
times_ended name (uses claim) = 0
times_ended name (ends claim) = one_if (same name claim)

module _ {S C R : Type 0} where
  -- a call opens and ends the claims that its effect says, and no others
  abbrev pub Counts : CallMeaning S C R → Type 0
  Counts m = (s : S) (c : C) (name : List ℕ) → m.may s c → occurrences name (m.claims (m.next s c)) + times_ended name (m.effect s c)
      ≡ occurrences name (m.claims s) + times_opened name (m.effect s c)

  -- from the first state the calls of the history may be made in turn, with these replies, and lead to the second
  abbrev pub Leads : CallMeaning S C R → S → List (Entry C R) → S → Type 0
  Leads m x [] y = y ≡ x
  Leads m x (e ∷ es) y = m.may x e.call × (e.reply ≡ m.reply x e.call) × Leads m (m.next x e.call) es y
