-- Descriptors are a kind of object.
use Rattle.std.proofs.Common.{arith, refl, ap, ◌≡◌, ◌+◌, ℕ, Bool, true, false, nat_eq, min, if◌then◌else◌}
use Rattle.ktime.specs.Readings.{ClockReading}
use Rattle.timer_setting.specs.declared.answers.GettimeAnswer.TheVariants as lefts
use Rattle.timer_setting.specs.declared.arming.Arm.{Arm}
use Rattle.timer_setting.specs.declared.arming.Arm.TheVariants as arms
use Rattle.timer_setting.specs.declared.object_call.ObjectCall.{ObjectCall}
use Rattle.timer_setting.specs.declared.object_call.ObjectCall.TheVariants as calls
use Rattle.timer_setting.specs.declared.object_call.ObjectReply.TheVariants as replies
use Rattle.timer_setting.specs.Kinds.{IsKind, IsSameMade, IsSameStep, arm_in, arm_told, as_told}
use Rattle.timer_setting.specs.Phases.{IsOutcomeOf, expired, is_expiry_of, next_start}
use Rattle.timer_setting.specs.Settimes.{timer_expired}
use Rattle.timer_setting.proofs.Told.{outcome_told, rearmed_told}
use Rattle.timer_fd.specs.States.{Descriptor, is_canceled, most_count}
use Rattle.timer_fd.specs.Steps.{FdAllows, canceled, fd_kind, fd_object_timer, fd_step, fd_table, fd_triggered, fd_wanted, left_by, next_to_read, total_in}
use Rattle.timer_fd.proofs.Histories.{FdAllows-room, fd_step-stamp}

made : (t : Descriptor) (c : ObjectCall) → FdAllows t c → IsSameMade (fd_object_timer t) (fd_object_timer (fd_step t c))
made t (calls.Settime c) allows = record { clock = refl; base = refl; limit = refl }
made t (calls.Trigger generation reading) allows = record { clock = grind arith; base = grind arith; limit = grind arith }
made t (calls.Read reading arm) allows = record { clock = grind arith; base = grind arith; limit = grind arith }
made t (calls.Gettime reading arm) allows = record { clock = refl; base = refl; limit = refl }
made t c allows = absurd allows

outcome : (t : Descriptor) (c : ObjectCall) → FdAllows t c → IsOutcomeOf (arm_in c) (fd_wanted t c)
outcome t (calls.Settime c) allows = allows.4
outcome t (calls.Trigger generation reading) allows = (λ e. refl, λ none. refl)
outcome t (calls.Read reading arm) allows = allows.1
outcome t (calls.Gettime reading arm) allows = allows.1
outcome t c allows = absurd allows

expires : (t : Descriptor) (generation : ℕ) (reading : ClockReading)
    → fd_object_timer (fd_triggered t generation reading) ≡ timer_expired (fd_object_timer t) generation reading
expires t generation reading = at (is_expiry_of t.phase generation reading)
  where
    at : (b : Bool)
        → fd_object_timer (if b then record t { phase = expired t.phase t.interval; count = min (t.count + 1) most_count; stamp = t.stamp + 1 }
        else record t { stamp = t.stamp + 1 })
        ≡ (if b then record (fd_object_timer t) { phase = expired t.phase t.interval; stamp = t.stamp + 1 } else record (fd_object_timer t) { stamp = t.stamp + 1 })
    at true = refl
    at false = refl

-- ---- a call as a line tells it

left_told : (arm : Arm) (t : Descriptor) (reading : ClockReading) → left_by (arm_told arm) t reading ≡ left_by arm t reading
left_told arms.NotAsked t reading = refl
left_told (arms.Armed generation) t reading = refl
left_told (arms.Unarmed stamp) t reading = refl

told : (t : Descriptor) (c : ObjectCall) → FdAllows t c → IsSameStep fd_table t c (as_told c)
told t (calls.Settime c) allows = record { allows = allows; next = refl; answer = refl }
told t (calls.Trigger generation reading) allows = record { allows = allows; next = refl; answer = refl }
told t (calls.Read reading arm) allows = record {
  allows = (allows.0, outcome_told arm (next_to_read t reading) allows.1);
  next = ap (λ p. if is_canceled t reading then record t { phase = canceled t.phase; count = 0; seen = reading.changes; stamp = t.stamp + 1 }
      else (if nat_eq t.count 0 then record t { stamp = t.stamp + 1 } else record t { phase = p; count = 0; stamp = t.stamp + 1 }))
      (rearmed_told t.phase t.interval reading arm);
  answer = refl;
}
told t (calls.Gettime reading arm) allows = record {
  allows = (allows.0, outcome_told arm (next_start t.phase t.interval reading) allows.1);
  next = ap (λ p. record t { phase = p; count = total_in t reading; stamp = t.stamp + 1 }) (rearmed_told t.phase t.interval reading arm);
  answer = ap (λ left. replies.Gettime (lefts.Left left t.interval)) (left_told arm t reading);
}
told t c allows = absurd allows

pub fd_is_a_kind : IsKind fd_kind
fd_is_a_kind = record {
  room = FdAllows-room;
  counted = fd_step-stamp;
  made = made;
  outcome = outcome;
  expires = λ t generation reading allows. expires t generation reading;
  triggered = λ t generation reading allows. refl;
  told = told;
}
