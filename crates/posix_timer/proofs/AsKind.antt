-- POSIX timers are a kind of object.
use Rattle.std.proofs.Common.{arith, refl, ap, ◌≡◌, ◌∙◌, ◌+◌, ℕ, Bool, true, false, Option, Some, None, if◌then◌else◌}
use Rattle.ktime.specs.Readings.{ClockReading}
use Rattle.timer_setting.specs.declared.arming.Arm.{Arm}
use Rattle.timer_setting.specs.declared.arming.Arm.TheVariants as arms
use Rattle.timer_setting.specs.declared.object_call.ObjectCall.{ObjectCall}
use Rattle.timer_setting.specs.declared.object_call.ObjectCall.TheVariants as calls
use Rattle.timer_setting.specs.declared.phase.Phase.{Phase}
use Rattle.timer_setting.specs.Kinds.{IsKind, IsSameMade, IsSameStep, arm_in, arm_told, as_told}
use Rattle.timer_setting.specs.Phases.{IsOutcomeOf, expired, is_expiry_of, periods_in, rearmed}
use Rattle.timer_setting.specs.Settimes.{timer_expired}
use Rattle.timer_setting.proofs.Told.{outcome_told, rearmed_told}
use Rattle.posix_timer.specs.States.{PosixTimer}
use Rattle.posix_timer.specs.Steps.{PosixAllows, accept_wanted, kept_in, overrun_of, posix_kind, posix_object_timer, posix_step, posix_table, posix_triggered, posix_wanted}
use Rattle.posix_timer.proofs.Histories.{PosixAllows-room, posix_step-stamp}

made : (t : PosixTimer) (c : ObjectCall) → PosixAllows t c → IsSameMade (posix_object_timer t) (posix_object_timer (posix_step t c))
made t (calls.Settime c) allows = record { clock = refl; base = refl; limit = refl }
made t (calls.Trigger generation reading) allows = record { clock = grind arith; base = grind arith; limit = grind arith }
made t (calls.Accept reading arm) allows = record { clock = grind arith; base = grind arith; limit = grind arith }
made t c allows = absurd allows

outcome : (t : PosixTimer) (c : ObjectCall) → PosixAllows t c → IsOutcomeOf (arm_in c) (posix_wanted t c)
outcome t (calls.Settime c) allows = allows.4
outcome t (calls.Trigger generation reading) allows = (λ e. refl, λ none. refl)
outcome t (calls.Accept reading arm) allows = allows.1
outcome t c allows = absurd allows

expires : (t : PosixTimer) (generation : ℕ) (reading : ClockReading)
    → posix_object_timer (posix_triggered t generation reading) ≡ timer_expired (posix_object_timer t) generation reading
expires t generation reading = at (is_expiry_of t.phase generation reading)
  where
    at : (b : Bool)
        → posix_object_timer (if b then record t { phase = expired t.phase t.interval; pending = true; stamp = t.stamp + 1 } else record t { stamp = t.stamp + 1 })
        ≡ (if b then record (posix_object_timer t) { phase = expired t.phase t.interval; stamp = t.stamp + 1 } else record (posix_object_timer t) { stamp = t.stamp + 1 })
    at true = refl
    at false = refl

-- ---- a call as a line tells it

kept_told : (periods : Option ℕ) (interval : ℕ) (arm : Arm) → kept_in periods interval (arm_told arm) ≡ kept_in periods interval arm
kept_told periods interval arms.NotAsked = refl
kept_told periods interval (arms.Armed generation) = refl
kept_told None interval (arms.Unarmed stamp) = refl
kept_told (Some periods) interval (arms.Unarmed stamp) = refl

-- the timer after an acceptance, with this interval and phase where a signal was pending
abbrev accepted_to : PosixTimer → ClockReading → ℕ → Phase → PosixTimer
accepted_to t reading interval phase =
    if t.pending then record t {
      interval = interval;
      phase = phase;
      pending = false;
      overrun = overrun_of (periods_in t.phase t.interval reading);
      stamp = t.stamp + 1;
    } else record t { stamp = t.stamp + 1 }

told : (t : PosixTimer) (c : ObjectCall) → PosixAllows t c → IsSameStep posix_table t c (as_told c)
told t (calls.Settime c) allows = record { allows = allows; next = refl; answer = refl }
told t (calls.Trigger generation reading) allows = record { allows = allows; next = refl; answer = refl }
told t (calls.Accept reading arm) allows = record {
  allows = (allows.0, outcome_told arm (accept_wanted t reading) allows.1);
  next = ap (accepted_to t reading (kept_in (periods_in t.phase t.interval reading) t.interval (arm_told arm))) (rearmed_told t.phase t.interval reading arm)
      ∙ ap (λ k. accepted_to t reading k (rearmed t.phase t.interval reading arm)) (kept_told (periods_in t.phase t.interval reading) t.interval arm);
  answer = refl;
}
told t c allows = absurd allows

pub posix_is_a_kind : IsKind posix_kind
posix_is_a_kind = record {
  room = PosixAllows-room;
  counted = posix_step-stamp;
  made = made;
  outcome = outcome;
  expires = λ t generation reading allows. expires t generation reading;
  triggered = λ t generation reading allows. refl;
  told = told;
}
