-- What a pass knows is true.
use Rattle.std.proofs.Common.{◌≡◌, ℕ, ap, ◌∙◌, refl, true, false}
use Rattle.std.specs.Prelude.{Bool, None, Some}
use Rattle.pass_names.specs.Counts.{one_if}
use Rattle.pass_names.specs.Passes.{within}
use Rattle.seq_timer.specs.Systems.{BaseContent}
use Rattle.base_row.specs.declared.view.Opening.{Opening}
use Rattle.base_row.specs.declared.view.BaseView.{BaseView}
use Rattle.base_row.specs.Calls as rows
use Rattle.base_row.specs.Plays.{KnowsOwn}
use Rattle.base_row.proofs.Calling.{stamp_seen}
use Rattle.hr_timers.specs.Known.{KnowsTimers}
use Rattle.hr_timers.proofs.Ends.{ends_few, ends_small}
use Rattle.hr_timers.proofs.Shifts.{stamp_shifts}
use Rattle.hr_timers.proofs.Standing.{claim_base, claim_runs, knows_in}

pub true_of : (o : Opening) (v : BaseView BaseContent) → rows.AreFresh o.timers → v.opening ≡ o → v.carry ≡ None → KnowsOwn v → KnowsTimers o (rows.known_of v)
true_of o v fresh is free own =
    let knows = knows_in o v is own in record {
      history = knows.allowed;
      few = ends_few o fresh v.seen knows.allowed;
      small = ends_small o fresh v.seen knows.allowed;
      claims = λ t g b inside stands. (claim_runs o v fresh knows t g b inside stands, claim_base o v fresh knows t g b inside stands);
      whole = λ last. record { once = λ t n inside. knows.all_entries last t n inside ∙ ap (λ k. one_if (within n k)) (stamp_seen o fresh v t) };
      shifts = λ last b n inside. knows.all_shifts last b n inside ∙ ap (λ k. one_if (within n k)) (stamp_shifts o v b);
      still = λ last t inside. not_true (rows.timer_seen o v t).moving (λ moves. carries_none (knows.all_carried last t inside moves));
      counters = knows.counters;
      rings = knows.rings;
    }
  where
    carries_none : {t : ℕ} → v.carry ≡ Some t → ⊥
    carries_none is = cc

    not_true : (b : Bool) → (b ≡ true → ⊥) → b ≡ false
    not_true true never = absurd (never refl)
    not_true false never = refl
