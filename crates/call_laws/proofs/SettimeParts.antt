-- A settime's arguments, and how an object bears the start of a call that arms its timer anew.
use Rattle.std.proofs.Common.{◌≡◌, ℕ, ◌||◌, Bool, true, false, nat_eq, not, if◌then◌else◌, None, Some, arith, refl, sym, ap, subst}
use Rattle.std.specs.Prelude.{MatchOption}
use Rattle.std.proofs.lemmas.Bool.{eqb-true}
use Rattle.ktime.specs.declared.timespec.TimeSpec.{TimeSpec}
use Rattle.timer_setting.specs.Arguments.{AreValid, is_bad}
use Rattle.timer_setting.specs.declared.arming.Arm.{Arm}
use Rattle.timer_setting.specs.declared.answers.SettimeAnswer.TheVariants as settings
use Rattle.timer_setting.specs.declared.answers.SettimeAnswer.{SettimeAnswer}
use Rattle.hr_timers.specs.Known.{KnownOfTimers}
use Rattle.timer_objects.specs.Calls.{flags_of}
use Rattle.record_text.specs.declared.record.Answer.TheVariants as answers
use Rattle.run_history.specs.ObjectCalls.{settime_flags}
use Rattle.script_text.specs.declared.script.Kind.TheVariants as kinds
use Rattle.script_text.specs.declared.script.Kind.{Kind}
use Rattle.lane_notes.specs.Called.{settime_told}
use Rattle.call_laws.proofs.Armed.{IsLike}
use Rattle.lane_notes.proofs.Declared.{declared_over, over_of}
use Rattle.script_text.specs.declared.script.Script.{Script}
use Rattle.lane_notes.specs.Worlds.{IsWorldOf, WorldOf}
use Rattle.std.proofs.Common.{◌∙◌}
use Rattle.run_history.specs.Told.{IsArmedLike}
use Rattle.timer_objects.specs.Calls.{BearsStart}
use Rattle.timer_setting.specs.declared.arming.Arm.TheVariants as arms
use Rattle.base_row.specs.declared.view.Opening.{Opening}
use Rattle.timer_setting.specs.declared.phase.Phase.{Phase}
use Rattle.run_history.specs.Objects.{armed_in_phase}
use Rattle.script_text.specs.Declarations.{kind_of}
use Rattle.hr_timers.specs.Known.{timer_then}
use Rattle.timer_objects.specs.Known.{decl_at}
use Rattle.std.proofs.lemmas.Bool.Decides.{nat_tests}

-- arguments of a settime that are refused are no valid ones, and the answer says so
abbrev pub IsRefusal : ℕ → TimeSpec → TimeSpec → SettimeAnswer → Type 0
IsRefusal unknown value interval refusal = (settime_told refusal ≡ answers.Invalid) × (AreValid unknown value interval → ⊥)

-- law: the arguments of a settime are valid, or refused with the answer that says so
pub checked : (unknown : ℕ) (value interval : TimeSpec)
    → MatchOption (if not (nat_eq unknown 0) then Some settings.BadFlags else (if is_bad value || is_bad interval then Some settings.BadTime else None))
    (AreValid unknown value interval) (IsRefusal unknown value interval)
checked unknown value interval = by_tests (nat_eq unknown 0) (is_bad value || is_bad interval) refl refl
  where
    by_tests : (a b : Bool) → nat_eq unknown 0 ≡ a → (is_bad value || is_bad interval) ≡ b
        → MatchOption (if not a then Some settings.BadFlags else (if b then Some settings.BadTime else None)) (AreValid unknown value interval)
        (IsRefusal unknown value interval)
    by_tests false b flags bad = (refl, λ v. let known = ap (λ n. nat_eq n 0) v.known in absurd (cc))
    by_tests true true flags bad = (refl, λ v. grind (arith, nat_tests, bad, v.good_value, v.good_interval))
    by_tests true false flags bad =
        record { known = eqb-true unknown 0 flags; good_value = grind (arith, nat_tests, bad); good_interval = grind (arith, nat_tests, bad) }

-- law: the flags of a settime that an object has are those of the script's kind
pub same_flags : (s : Script) (x : WorldOf) (t : ℕ) → IsWorldOf s x → flags_of (decl_at x.objects t).kind ≡ settime_flags (kind_of s t)
same_flags s x t world = ap flags_of (declared_over s x t world) ∙ by_kind (kind_of s t)
  where
    by_kind : (k : Kind) → flags_of (over_of k) ≡ settime_flags k
    by_kind (kinds.Raw context callback) = refl
    by_kind (kinds.Posix base) = refl
    by_kind (kinds.Fd base) = refl
    by_kind (kinds.Queued base) = refl
    by_kind (kinds.Sleeper base) = refl

-- law: the object's phase after a call that armed its timer anew has its timer's start
pub like_start : (o : Opening) (k : KnownOfTimers) (t : ℕ) (arm : Arm) (phase : Phase) → BearsStart o k t arm phase
    → IsLike true arm (armed_in_phase phase) (timer_then o k.seen t)
like_start o k t (arms.Armed generation) phase bears =
    subst (λ p. IsArmedLike true (armed_in_phase p) generation (timer_then o k.seen t)) (sym bears) (refl, refl, λ yes. refl)
like_start o k t arm phase bears = tt
