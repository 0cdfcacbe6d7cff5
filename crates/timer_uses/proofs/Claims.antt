-- A claim that answers that none is due, or that the base is busy, has claimed no timer.
use Rattle.std.proofs.Common.{◌≡◌, ◌⊎◌, sym, ◌∙◌, ℕ}
use Rattle.std.proofs.Math.Logic.{⊎_elim}
use Rattle.timer_core.specs.declared.answer.ClaimAnswer.{ClaimAnswer}
use Rattle.timer_core.specs.declared.answer.ClaimAnswer.TheVariants.{BaseBusy, Claimed, NoneDue}

pub none_apart : (timer generation number : ℕ) → NoneDue ≡ Claimed timer generation number → ⊥
none_apart timer generation number e = absurd cc

pub busy_apart : (other running timer generation number : ℕ) → BaseBusy other running ≡ Claimed timer generation number → ⊥
busy_apart other running timer generation number e = absurd cc

pub no_claim : (answer : ClaimAnswer) (timer generation number : ℕ)
    → (answer ≡ NoneDue) ⊎ ((other : ℕ) × (running : ℕ) × (answer ≡ BaseBusy other running))
    → answer ≡ Claimed timer generation number → ⊥
no_claim answer timer generation number none claimed =
    ⊎_elim (λ due. none_apart timer generation number (sym due ∙ claimed))
    (λ busy. busy_apart busy.0 busy.1 timer generation number (sym busy.2 ∙ claimed)) none
