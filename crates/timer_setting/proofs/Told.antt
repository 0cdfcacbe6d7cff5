-- A refused start may lose its stamp, as a record's line tells it: nothing that a state or an answer keeps depends on it.
use Rattle.std.proofs.Common.{◌≡◌, ℕ, Option, refl}
use Rattle.ktime.specs.Readings.{ClockReading}
use Rattle.timer_setting.specs.declared.arming.Arm.{Arm}
use Rattle.timer_setting.specs.declared.arming.Arm.TheVariants as arms
use Rattle.timer_setting.specs.declared.arming.Wanted.{Wanted}
use Rattle.timer_setting.specs.declared.phase.Phase.{Phase}
use Rattle.timer_setting.specs.declared.phase.Phase.TheVariants as phases
use Rattle.timer_setting.specs.Phases.{IsOutcomeOf, rearmed}
use Rattle.timer_setting.specs.Kinds.{arm_told}

asked : (n : ℕ) → arms.Unarmed n ≡ arms.NotAsked → ⊥
asked n e = absurd (cc)

pub outcome_told : (arm : Arm) (wanted : Option Wanted) → IsOutcomeOf arm wanted → IsOutcomeOf (arm_told arm) wanted
outcome_told arms.NotAsked wanted is = is
outcome_told (arms.Armed generation) wanted is = is
outcome_told (arms.Unarmed stamp) wanted is = (λ e. absurd (asked 0 e), λ none. absurd (asked stamp (is.1 none)))

pub rearmed_told : (phase : Phase) (interval : ℕ) (reading : ClockReading) (arm : Arm)
    → rearmed phase interval reading (arm_told arm) ≡ rearmed phase interval reading arm
rearmed_told phase interval reading arms.NotAsked = refl
rearmed_told phase interval reading (arms.Armed generation) = refl
rearmed_told phases.Idle interval reading (arms.Unarmed stamp) = refl
rearmed_told (phases.Armed generation clock expires) interval reading (arms.Unarmed stamp) = refl
rearmed_told (phases.Expired clock expires) interval reading (arms.Unarmed stamp) = refl
