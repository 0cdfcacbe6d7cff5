-- Objects of whatever kind are a kind of object.
use Rattle.std.proofs.Common.{refl, ap, ◌≡◌, ◌≢◌, ◌+◌, ◌<◌, ℕ}
use Rattle.ktime.specs.declared.clock_id.ClockId.{ClockId}
use Rattle.ktime.specs.Readings.{ClockReading}
use Rattle.timer_setting.specs.declared.object_call.ObjectCall.{ObjectCall}
use Rattle.timer_setting.specs.declared.object_call.ObjectCall.TheVariants as calls
use Rattle.timer_setting.specs.declared.object_call.ObjectReply.TheVariants as replies
use Rattle.timer_setting.specs.Kinds.{IsKind, IsSameMade, IsSameStep, arm_in, as_told}
use Rattle.timer_setting.specs.Phases.{IsOutcomeOf}
use Rattle.timer_setting.specs.Settimes.{timer_expired, trigger_answer}
use Rattle.posix_timer.proofs.AsKind.{posix_is_a_kind}
use Rattle.posix_timer.proofs.QueuedAsKind.{queued_is_a_kind}
use Rattle.timer_fd.proofs.AsKind.{fd_is_a_kind}
use Rattle.sleeper.proofs.AsKind.{sleeper_is_a_kind}
use Rattle.timer_objects.specs.declared.object.Kind.{Kind}
use Rattle.timer_objects.specs.declared.object.Kind.TheVariants as kinds
use Rattle.timer_objects.specs.declared.object.Object.{Object}
use Rattle.timer_objects.specs.declared.object.Object.TheVariants as objects
use Rattle.timer_objects.specs.Steps.{ObjectAllows, kind_over, object_answer, object_kind, object_step, object_timer, object_wanted, opened_as}

room : (x : Object) (c : ObjectCall) → ObjectAllows x c → (object_timer x).stamp < (object_timer x).limit
room objects.Raw c allows = absurd allows
room (objects.Posix t) c allows = posix_is_a_kind.room t c allows
room (objects.Fd t) c allows = fd_is_a_kind.room t c allows
room (objects.Sleeper s) c allows = sleeper_is_a_kind.room s c allows
room (objects.Queued t) c allows = queued_is_a_kind.room t c allows

counted : (x : Object) (c : ObjectCall) → ObjectAllows x c → (object_timer (object_step x c)).stamp ≡ (object_timer x).stamp + 1
counted objects.Raw c allows = absurd allows
counted (objects.Posix t) c allows = posix_is_a_kind.counted t c allows
counted (objects.Fd t) c allows = fd_is_a_kind.counted t c allows
counted (objects.Sleeper s) c allows = sleeper_is_a_kind.counted s c allows
counted (objects.Queued t) c allows = queued_is_a_kind.counted t c allows

made : (x : Object) (c : ObjectCall) → ObjectAllows x c → IsSameMade (object_timer x) (object_timer (object_step x c))
made objects.Raw c allows = absurd allows
made (objects.Posix t) c allows = posix_is_a_kind.made t c allows
made (objects.Fd t) c allows = fd_is_a_kind.made t c allows
made (objects.Sleeper s) c allows = sleeper_is_a_kind.made s c allows
made (objects.Queued t) c allows = queued_is_a_kind.made t c allows

outcome : (x : Object) (c : ObjectCall) → ObjectAllows x c → IsOutcomeOf (arm_in c) (object_wanted x c)
outcome objects.Raw c allows = absurd allows
outcome (objects.Posix t) c allows = posix_is_a_kind.outcome t c allows
outcome (objects.Fd t) c allows = fd_is_a_kind.outcome t c allows
outcome (objects.Sleeper s) c allows = sleeper_is_a_kind.outcome s c allows
outcome (objects.Queued t) c allows = queued_is_a_kind.outcome t c allows

module _ (generation : ℕ) (reading : ClockReading) where
  abbrev call : ObjectCall
  call = calls.Trigger generation reading

  expires : (x : Object) → ObjectAllows x call → object_timer (object_step x call) ≡ timer_expired (object_timer x) generation reading
  expires objects.Raw allows = absurd allows
  expires (objects.Posix t) allows = posix_is_a_kind.expires t generation reading allows
  expires (objects.Fd t) allows = fd_is_a_kind.expires t generation reading allows
  expires (objects.Sleeper s) allows = sleeper_is_a_kind.expires s generation reading allows
  expires (objects.Queued t) allows = queued_is_a_kind.expires t generation reading allows

  triggered : (x : Object) → ObjectAllows x call → object_answer x call ≡ replies.Trigger (trigger_answer (object_timer x).phase generation reading)
  triggered objects.Raw allows = absurd allows
  triggered (objects.Posix t) allows = refl
  triggered (objects.Fd t) allows = refl
  triggered (objects.Sleeper s) allows = refl
  triggered (objects.Queued t) allows = refl

told : (x : Object) (c : ObjectCall) → ObjectAllows x c → IsSameStep object_kind.table x c (as_told c)
told objects.Raw c allows = absurd allows
told (objects.Posix t) c allows =
    let same = posix_is_a_kind.told t c allows in
    record { allows = same.allows; next = ap objects.Posix same.next; answer = same.answer }
told (objects.Fd t) c allows =
    let same = fd_is_a_kind.told t c allows in
    record { allows = same.allows; next = ap objects.Fd same.next; answer = same.answer }
told (objects.Sleeper s) c allows =
    let same = sleeper_is_a_kind.told s c allows in
    record { allows = same.allows; next = ap objects.Sleeper same.next; answer = same.answer }
told (objects.Queued t) c allows =
    let same = queued_is_a_kind.told t c allows in
    record { allows = same.allows; next = ap objects.Queued same.next; answer = same.answer }

-- law: so they are a kind
pub objects_are_a_kind : IsKind object_kind
objects_are_a_kind = record {
  room = room;
  counted = counted;
  made = made;
  outcome = outcome;
  expires = λ x generation reading allows. expires generation reading x allows;
  triggered = λ x generation reading allows. triggered generation reading x allows;
  told = told;
}

-- a call leaves the kind
pub kind_over-step : (x : Object) (c : ObjectCall) → kind_over (object_step x c) ≡ kind_over x
kind_over-step objects.Raw c = refl
kind_over-step (objects.Posix t) c = refl
kind_over-step (objects.Fd t) c = refl
kind_over-step (objects.Sleeper s) c = refl
kind_over-step (objects.Queued t) c = refl

-- so is an object that was just made of its kind
pub kind_over-opened : (kind : Kind) (clock : ClockId) (base limit : ℕ) → kind_over (opened_as kind clock base limit) ≡ kind
kind_over-opened kinds.Raw clock base limit = refl
kind_over-opened kinds.Posix clock base limit = refl
kind_over-opened kinds.Fd clock base limit = refl
kind_over-opened kinds.Sleeper clock base limit = refl
kind_over-opened kinds.Queued clock base limit = refl

-- a timer by itself has no calls
pub has_calls : (x : Object) (c : ObjectCall) → ObjectAllows x c → kind_over x ≢ kinds.Raw
has_calls objects.Raw c allows = absurd allows
has_calls (objects.Posix t) c allows = λ e. cc
has_calls (objects.Fd t) c allows = λ e. cc
has_calls (objects.Sleeper s) c allows = λ e. cc
has_calls (objects.Queued t) c allows = λ e. cc

pub is_raw : (x : Object) → kind_over x ≡ kinds.Raw → x ≡ objects.Raw
is_raw objects.Raw e = refl
is_raw (objects.Posix t) e = cc
is_raw (objects.Fd t) e = cc
is_raw (objects.Sleeper s) e = cc
is_raw (objects.Queued t) e = cc
