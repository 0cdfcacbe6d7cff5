-- Why a call that wants the lock of its timer's base has to try again.
use Rattle.std.proofs.Common.{◌≡◌, ℕ, ◌+◌, ◌^◌, ◌-◌, ◌<◌, ◌≤◌, ◌⊎◌, ◌∙◌, inl, inr, ap, refl, subst, sym, true, false, Bool}
use Rattle.std.specs.Prelude.{IfNone, None, Option, Some, slice_index}
use Rattle.pass_names.specs.Counts.{count}
use Rattle.pass_names.specs.Passes.{is_place}
use Rattle.pass_names.proofs.Passes.{begins_refl, begins_trans}
use Rattle.seq_timer.specs.Systems.{BaseContent, IsOn}
use Rattle.base_row.specs.declared.view.BaseView.{BaseView}
use Rattle.base_row.specs.declared.view.Opening.{Opening}
use Rattle.base_row.specs.Calls as rows
use Rattle.base_row.specs.Plays.{Missed}
use Rattle.hr_timers.specs.Known.{HasMissed, OnlySeesMore, pass_of, timer_then}
use Rattle.hr_timers.specs.Tries.{HasMissedIts}
use Rattle.hr_timers.specs.Calls.{SawMove}
use Rattle.hr_timers.proofs.Making.{looks_missed, looks_on, looks_seen, looks_trans}

-- law: a look found the timer on the move
pub hindered_moving : (o : Opening) (u v : BaseView BaseContent) (t : ℕ) → OnlySeesMore u v → (timer_then o v.seen t).moving ≡ true
    → SawMove o (rows.known_of u) (rows.known_of v) t
hindered_moving o u v t looks moving = inl (
  (timer_then o v.seen t).base,
  record {
    at = v.seen;
    looks = record { looks = looks_on u v looks; from = looks.seen; seen = begins_refl v.seen };
    moving = moving;
    base = refl;
  },
)

-- law: a look found the timer on a base, and when its lock was got the timer wasn't there
pub hindered_apart : (o : Opening) (u l m q : BaseView BaseContent) (t base : ℕ) → OnlySeesMore u l → OnlySeesMore l m → OnlySeesMore m q
    → (timer_then o l.seen t).base ≡ base → (IsOn base (timer_then o m.seen t) → ⊥) → SawMove o (rows.known_of u) (rows.known_of q) t
hindered_apart o u l m q t base first second third on gone = by_move (timer_then o m.seen t).moving refl
  where
    all : OnlySeesMore u q
    all = looks_trans u l q first (looks_trans l m q second third)

    by_move : (b : Bool) → (timer_then o m.seen t).moving ≡ b → SawMove o (rows.known_of u) (rows.known_of q) t
    by_move true moving = inl (
      (timer_then o m.seen t).base,
      record {
        at = m.seen;
        looks = record { looks = looks_on u q all; from = begins_trans first.seen second.seen; seen = third.seen };
        moving = moving;
        base = refl;
      },
    )
    by_move false still = inr (
      base,
      (timer_then o m.seen t).base,
      record {
        at = l.seen;
        looks = record { looks = looks_on u q all; from = first.seen; seen = begins_trans second.seen third.seen };
        base = on;
        later = m.seen;
        goes_on = second.seen;
        seen = third.seen;
        base_later = refl;
        apart = λ same. gone (record { at = sym same; still = still });
      },
    )

-- law: a look found the timer on a base, whose lock another pass took in between
pub hindered_lock : (o : Opening) (u l m : rows.BasePassOf) (t base : ℕ) → rows.SeesFurther u.knows l.knows → rows.MissesBase base l.knows m.knows
    → (timer_then o l.knows.seen t).base ≡ base → HasMissedIts o (pass_of u) (pass_of m) t
hindered_lock o u l m t base sees misses on = inr (
  base,
  by_cause misses.missed,
  record {
    at = l.knows.seen;
    looks = record {
      looks = looks_on u.knows m.knows (looks_trans u.knows l.knows m.knows (looks_seen u.knows l.knows sees) (looks_missed base l.knows m.knows misses));
      from = sees.seen;
      seen = misses.waits.seen;
    };
    base = on;
  },
)
  where
    takes : l.knows.takes ≡ u.knows.takes
    takes = ap (λ (y : BaseView BaseContent). y.takes) sees.rest

    met : l.knows.met ≡ u.knows.met
    met = ap (λ (y : BaseView BaseContent). y.met) sees.rest

    by_cause : Missed l.knows base (slice_index l.knows.met base) (slice_index m.knows.met base) ⊎ (2 ^ 64 - 2 ≤ slice_index m.knows.met base)
        → HasMissed (pass_of u) (pass_of m) base
    by_cause (inl x) = inl (
      x.0,
      ap (count (is_place base x.0)) (sym takes) ∙ x.1,
      subst (λ ws. slice_index ws base < x.0 + x.0) met x.2,
      x.3,
    )
    by_cause (inr spent) = inr spent

-- what holds in any case holds where there is nothing
pub if_none : {T : Type 0} {P : Type 0} (r : Option T) → P → IfNone r P
if_none None p = p
if_none (Some x) p = tt
