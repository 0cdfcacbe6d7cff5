-- Sleepers are a kind of object.
use Rattle.std.proofs.Common.{arith, refl, sym, ap, ◌≡◌, ◌+◌, ℕ, Bool, true, false, if◌then◌else◌}
use Rattle.ktime.specs.Readings.{ClockReading}
use Rattle.timer_setting.specs.declared.object_call.ObjectCall.{ObjectCall}
use Rattle.timer_setting.specs.declared.object_call.ObjectCall.TheVariants as calls
use Rattle.timer_setting.specs.declared.phase.Phase.{Phase}
use Rattle.timer_setting.specs.declared.phase.Phase.TheVariants as phases
use Rattle.timer_setting.specs.Kinds.{IsKind, IsSameMade, IsSameStep, arm_in, as_told}
use Rattle.timer_setting.specs.Phases.{IsOutcomeOf, expired, is_expiry_of}
use Rattle.timer_setting.specs.Settimes.{timer_expired}
use Rattle.sleeper.specs.declared.sleep.Sleep.TheVariants as sleeps
use Rattle.sleeper.specs.States.{Sleeper, timer_of}
use Rattle.sleeper.specs.Steps.{SleeperAllows, sleeper_kind, sleeper_step, sleeper_table, sleeper_triggered, sleeper_wanted}
use Rattle.sleeper.proofs.Histories.{counted, room}

made : (s : Sleeper) (c : ObjectCall) → SleeperAllows s c → IsSameMade (timer_of s) (timer_of (sleeper_step s c))
made s (calls.Sleep c) allows = record { clock = refl; base = refl; limit = refl }
made s (calls.Trigger generation reading) allows = record { clock = grind arith; base = grind arith; limit = grind arith }
made s (calls.Interrupt reading) allows = record { clock = refl; base = refl; limit = refl }
made s c allows = absurd allows

outcome : (s : Sleeper) (c : ObjectCall) → SleeperAllows s c → IsOutcomeOf (arm_in c) (sleeper_wanted s c)
outcome s (calls.Sleep c) allows = allows.4
outcome s (calls.Trigger generation reading) allows = (λ e. refl, λ none. refl)
outcome s (calls.Interrupt reading) allows = (λ e. refl, λ none. refl)
outcome s c allows = absurd allows

-- an expiry of a timer without periods leaves it disarmed
expired_once : (phase : Phase) (generation : ℕ) (reading : ClockReading) → is_expiry_of phase generation reading ≡ true → expired phase 0 ≡ phases.Idle
expired_once phases.Idle generation reading is = refl
expired_once (phases.Armed armed clock expires) generation reading is = refl
expired_once (phases.Expired clock expires) generation reading is = cc

expires : (s : Sleeper) (generation : ℕ) (reading : ClockReading)
    → timer_of (sleeper_triggered s generation reading) ≡ timer_expired (timer_of s) generation reading
expires s generation reading = at (is_expiry_of s.phase generation reading) refl
  where
    at : (b : Bool) → is_expiry_of s.phase generation reading ≡ b
        → timer_of (if b then record s { phase = phases.Idle; sleep = sleeps.Woken; stamp = s.stamp + 1 } else record s { stamp = s.stamp + 1 })
        ≡ (if b then record (timer_of s) { phase = expired s.phase 0; stamp = s.stamp + 1 } else record (timer_of s) { stamp = s.stamp + 1 })
    at true is = ap (λ p. record (timer_of s) { phase = p; stamp = s.stamp + 1 }) (sym (expired_once s.phase generation reading is))
    at false is = refl

told : (s : Sleeper) (c : ObjectCall) → SleeperAllows s c → IsSameStep sleeper_table s c (as_told c)
told s (calls.Sleep c) allows = record { allows = allows; next = refl; answer = refl }
told s (calls.Trigger generation reading) allows = record { allows = allows; next = refl; answer = refl }
told s (calls.Interrupt reading) allows = record { allows = allows; next = refl; answer = refl }
told s c allows = absurd allows

pub sleeper_is_a_kind : IsKind sleeper_kind
sleeper_is_a_kind = record {
  room = room;
  counted = counted;
  made = made;
  outcome = outcome;
  expires = λ s generation reading allows. expires s generation reading;
  triggered = λ s generation reading allows. refl;
  told = told;
}
