-- POSIX timers whose signals go to a queue are a kind of object: what holds of a POSIX timer's calls, and of an overflow.
use Rattle.std.proofs.Common.{refl, ap, ◌≡◌, ◌<◌, ◌+◌}
use Rattle.timer_setting.specs.declared.object_call.ObjectCall.{ObjectCall}
use Rattle.timer_setting.specs.declared.object_call.ObjectCall.TheVariants as calls
use Rattle.timer_setting.specs.Kinds.{IsKind, IsSameMade, IsSameStep, arm_in, as_told}
use Rattle.timer_setting.specs.Phases.{IsOutcomeOf}
use Rattle.posix_timer.specs.declared.queued_state.QueuedState.{QueuedState}
use Rattle.posix_timer.specs.Queued.{QueuedAllows, queued_kind, queued_object_timer, queued_step, queued_table, queued_wanted}
use Rattle.posix_timer.specs.States.{PosixTimer}
use Rattle.posix_timer.proofs.AsKind.{posix_is_a_kind}

room : (t : QueuedState) (c : ObjectCall) → QueuedAllows t c → t.timer.stamp < t.timer.limit
room t (calls.Overflow generation reading) allows = allows.0
room t c allows = posix_is_a_kind.room t.timer c allows

counted : (t : QueuedState) (c : ObjectCall) → QueuedAllows t c → (queued_step t c).timer.stamp ≡ t.timer.stamp + 1
counted t (calls.Overflow generation reading) allows = refl
counted t c allows = posix_is_a_kind.counted t.timer c allows

made : (t : QueuedState) (c : ObjectCall) → QueuedAllows t c → IsSameMade (queued_object_timer t) (queued_object_timer (queued_step t c))
made t (calls.Overflow generation reading) allows = record { clock = refl; base = refl; limit = refl }
made t c allows = posix_is_a_kind.made t.timer c allows

outcome : (t : QueuedState) (c : ObjectCall) → QueuedAllows t c → IsOutcomeOf (arm_in c) (queued_wanted t c)
outcome t (calls.Overflow generation reading) allows = (λ e. refl, λ none. refl)
outcome t c allows = posix_is_a_kind.outcome t.timer c allows

told : (t : QueuedState) (c : ObjectCall) → QueuedAllows t c → IsSameStep queued_table t c (as_told c)
told t (calls.Overflow generation reading) allows = record { allows = allows; next = refl; answer = refl }
told t (calls.Accept reading arm) allows =
    let same = posix_is_a_kind.told t.timer (calls.Accept reading arm) allows in
    record {
      allows = same.allows;
      next = ap (λ (p : PosixTimer). record { timer = p; signalled = t.signalled }) same.next;
      answer = same.answer;
    }
told t (calls.Settime c) allows = record { allows = allows; next = refl; answer = refl }
told t (calls.Trigger generation reading) allows = record { allows = allows; next = refl; answer = refl }
told t c allows = absurd allows

pub queued_is_a_kind : IsKind queued_kind
queued_is_a_kind = record {
  room = room;
  counted = counted;
  made = made;
  outcome = outcome;
  expires = λ t generation reading allows. posix_is_a_kind.expires t.timer generation reading allows;
  triggered = λ t generation reading allows. refl;
  told = told;
}
