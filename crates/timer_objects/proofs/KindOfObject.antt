-- A kind whose states are objects, and the history of an object of that kind.
use Rattle.std.proofs.Common.{◌≡◌, ◌∙◌, ℕ, List, [], ◌∷◌, refl, subst}
use Rattle.counted_row.specs.declared.view.Entry.{Entry}
use Rattle.counted_row.specs.Meaning.{Leads}
use Rattle.ktime.specs.declared.clock_id.ClockId.{ClockId}
use Rattle.timer_setting.specs.Kinds.{IsKind, ObjectKind}
use Rattle.timer_setting.specs.StepTables.{AreCalls, after_calls}
use Rattle.timer_setting.specs.declared.object_call.ObjectCall.{ObjectCall}
use Rattle.timer_setting.specs.declared.object_call.ObjectReply.{ObjectReply}
use Rattle.posix_timer.specs.States.{PosixTimer, posix_opening}
use Rattle.posix_timer.specs.Steps.{posix_kind}
use Rattle.posix_timer.proofs.AsKind.{posix_is_a_kind}
use Rattle.posix_timer.proofs.QueuedAsKind.{queued_is_a_kind}
use Rattle.posix_timer.specs.Queued.{queued_kind, queued_opening}
use Rattle.posix_timer.specs.declared.queued_state.QueuedState.{QueuedState}
use Rattle.timer_fd.specs.States.{Descriptor, fd_opening}
use Rattle.timer_fd.specs.Steps.{fd_kind}
use Rattle.timer_fd.proofs.AsKind.{fd_is_a_kind}
use Rattle.sleeper.specs.States.{Sleeper, sleeper_opening}
use Rattle.sleeper.specs.Steps.{sleeper_kind}
use Rattle.sleeper.proofs.AsKind.{sleeper_is_a_kind}
use Rattle.timer_objects.specs.declared.object.Kind.{Kind}
use Rattle.timer_objects.specs.declared.object.Kind.TheVariants as kinds
use Rattle.timer_objects.specs.declared.object.Object.{Object}
use Rattle.timer_objects.specs.declared.object.Object.TheVariants as objects
use Rattle.timer_objects.specs.Histories.{IsHistoryOfKind, answered_calls}
use Rattle.timer_objects.specs.Meaning.{object_meaning}
use Rattle.timer_objects.specs.Steps.{ObjectAllows, object_answer, object_step, opened_as}

-- a kind whose states are objects, with the object's steps and answers
pub record KindOfObject (S : Type 0) : Type 1 where
  pub kind : ObjectKind S
  pub law : IsKind kind
  pub object : S → Object
  pub allows : (t : S) (c : ObjectCall) → ObjectAllows (object t) c → kind.table.allows t c
  pub step : (t : S) (c : ObjectCall) → object_step (object t) c ≡ object (kind.table.next t c)
  pub answer : (t : S) (c : ObjectCall) → object_answer (object t) c ≡ kind.table.answer t c

-- law: POSIX timers are one
abbrev pub posix_objects : KindOfObject PosixTimer
posix_objects = record {
  kind = posix_kind;
  law = posix_is_a_kind;
  object = objects.Posix;
  allows = λ t c may. may;
  step = λ t c. refl;
  answer = λ t c. refl;
}

-- law: so are descriptors
abbrev pub fd_objects : KindOfObject Descriptor
fd_objects = record {
  kind = fd_kind;
  law = fd_is_a_kind;
  object = objects.Fd;
  allows = λ t c may. may;
  step = λ t c. refl;
  answer = λ t c. refl;
}

-- law: and sleepers
abbrev pub sleeper_objects : KindOfObject Sleeper
sleeper_objects = record {
  kind = sleeper_kind;
  law = sleeper_is_a_kind;
  object = objects.Sleeper;
  allows = λ t c may. may;
  step = λ t c. refl;
  answer = λ t c. refl;
}

-- law: and POSIX timers with queued signals
abbrev pub queued_objects : KindOfObject QueuedState
queued_objects = record {
  kind = queued_kind;
  law = queued_is_a_kind;
  object = objects.Queued;
  allows = λ t c may. may;
  step = λ t c. refl;
  answer = λ t c. refl;
}

-- law: a timer by itself stays one
pub raw_leads : (log : List (Entry ObjectCall ObjectReply)) (now : Object) → Leads object_meaning objects.Raw log now → now ≡ objects.Raw
raw_leads [] now leads = leads
raw_leads (e ∷ es) now leads = absurd leads.0

-- it has no entries
raw_none : (log : List (Entry ObjectCall ObjectReply)) (now : Object) → Leads object_meaning objects.Raw log now → answered_calls log ≡ []
raw_none [] now leads = refl
raw_none (e ∷ es) now leads = absurd leads.0

module _ {S : Type 0} (k : KindOfObject S) where
  -- law: the calls of an object's history are as the step table of its kind has them, and the object is in the state after them
  pub calls_of_kind : (t : S) (log : List (Entry ObjectCall ObjectReply)) (now : Object) → Leads object_meaning (k.object t) log now
      → AreCalls k.kind.table t (answered_calls log) × (now ≡ k.object (after_calls k.kind.table t (answered_calls log)))
  calls_of_kind t [] now leads = (tt, leads)
  calls_of_kind t (e ∷ es) now leads =
      let rest = calls_of_kind (k.kind.table.next t e.call) es now (subst (λ o. Leads object_meaning o es now) (k.step t e.call) leads.2) in
      ((k.allows t e.call leads.0, leads.1 ∙ k.answer t e.call, rest.0), rest.1)

-- law: what leads from an object that was just made is a history that one object of its kind gives
pub history_of_kind : (kind : Kind) (clock : ClockId) (base limit : ℕ) (log : List (Entry ObjectCall ObjectReply)) (now : Object)
    → Leads object_meaning (opened_as kind clock base limit) log now → IsHistoryOfKind kind clock base limit (answered_calls log) now
history_of_kind kinds.Raw clock base limit log now leads = (raw_none log now leads, raw_leads log now leads)
history_of_kind kinds.Posix clock base limit log now leads = calls_of_kind posix_objects (posix_opening clock base limit) log now leads
history_of_kind kinds.Fd clock base limit log now leads = calls_of_kind fd_objects (fd_opening clock base limit) log now leads
history_of_kind kinds.Sleeper clock base limit log now leads = calls_of_kind sleeper_objects (sleeper_opening clock base limit) log now leads
history_of_kind kinds.Queued clock base limit log now leads = calls_of_kind queued_objects (queued_opening clock base limit) log now leads
