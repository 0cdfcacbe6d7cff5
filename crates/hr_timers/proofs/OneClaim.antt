-- A pass that has no claim, or one.
use Rattle.std.proofs.Common.{◌≡◌, ◌<◌, List, [], ◌∷◌, refl, ap, sym, ◌∙◌, subst, true, arith, length}
use Rattle.std.specs.Prelude.{◌==◌}
use Rattle.std.proofs.lemmas.Bool.{and_from, eq-eqb}
use Rattle.pass_names.specs.Counts.{drop_if, one_if, without_first}
use Rattle.pass_names.specs.declared.PassId.{PassId}
use Rattle.pass_names.specs.Names.{IsLast, after_retire, after_split, child_of, first_pass_id}
use Rattle.base_row.specs.declared.view.Claimed.{Claimed}
use Rattle.base_row.specs.declared.view.Opening.{Opening}
use Rattle.base_row.specs.Rules.{is_base_claim}
use Rattle.hr_timers.specs.declared.numbers.ClaimNumbers.{ClaimNumbers}
use Rattle.hr_timers.specs.Known.{KnownOfTimers, OwnsClaim, claimed_as, count_of}

-- a claim is the one that its numbers name
pub is_own : (c : ClaimNumbers) → is_base_claim c.timer c.generation c.base (claimed_as c) ≡ true
is_own c = and_from (c.timer == c.timer) _ (eq-eqb c.timer c.timer refl)
    (and_from (c.generation == c.generation) (c.base == c.base) (eq-eqb c.generation c.generation refl) (eq-eqb c.base c.base refl))

-- the only claim stands
pub has_only : (o : Opening) (k : KnownOfTimers) (c : ClaimNumbers) → c.timer < length o.timers
    → k.claims ≡ claimed_as c ∷ [] → OwnsClaim o k c
has_only o k c within only = record {
  within = within;
  stands = subst (λ (l : List Claimed). 0 < count_of c l) (sym only) (omega (arith, ap one_if (is_own c)));
}

-- without it none is left
pub none_left : (c : ClaimNumbers) (claims new : List Claimed) → new ≡ without_first (is_base_claim c.timer c.generation c.base) claims
    → claims ≡ claimed_as c ∷ [] → new ≡ []
none_left c claims new left only =
    left ∙ (ap (without_first (is_base_claim c.timer c.generation c.base)) only ∙ ap (λ b. drop_if b (claimed_as c) [] []) (is_own c))

-- the first pass is the last one again when it has taken in the pass that it split off
pub last_again : (l m n : PassId) → l ≡ after_retire m n → m ≡ after_split first_pass_id → n ≡ child_of first_pass_id → IsLast l
last_again l m n taken first child =
    subst IsLast (sym (taken ∙ (ap (λ x. after_retire x n) first ∙ ap (λ x. after_retire (after_split first_pass_id) x) child)))
    (record { first = refl; alone = refl })
