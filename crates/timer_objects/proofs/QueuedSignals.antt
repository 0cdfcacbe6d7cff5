-- The signals of queued timers: an expiry that was entered with what became of its signal, and a signal that was accepted.
use Rattle.std.specs.Prelude.{Some}
use Rattle.std.proofs.Common.{◌≡◌, ◌+◌, ◌∙◌, ℕ, Bool, true, false, nat_eq, refl, sym, ap, subst, inl, inr, length, List, if◌then◌else◌, []}
use Rattle.std.proofs.lemmas.Bool.{and_parts, true≢false}
use Rattle.ktime.specs.Readings.{ClockReading}
use Rattle.base_row.specs.declared.view.Opening.{Opening}
use Rattle.hr_timers.specs.Known.{KnownOfTimers}
use Rattle.signal_queue.specs.declared.view.QueueView.{QueueView}
use Rattle.signal_queue.specs.declared.signal.Signal.{Signal}
use Rattle.signal_queue.specs.declared.signal.Turn.TheVariants.{Popped}
use Rattle.signal_queue.specs.Calls.{TakesTurn}
use Rattle.signal_queue.specs.Turns.{AreTurns}
use Rattle.signal_queue.specs.Views.{KnowsQueue, QueueOf}
use Rattle.signal_queue.proofs.Turns.{oldest}
use Rattle.timer_setting.specs.declared.arming.Arm.{Arm}
use Rattle.timer_setting.specs.declared.answers.AcceptAnswer.TheVariants as acceptances
use Rattle.timer_setting.specs.declared.object_call.ObjectCall.{ObjectCall}
use Rattle.timer_setting.specs.declared.object_call.ObjectCall.TheVariants as calls
use Rattle.timer_setting.specs.declared.object_call.ObjectReply.{ObjectReply}
use Rattle.timer_setting.specs.declared.object_call.ObjectReply.TheVariants as replies
use Rattle.posix_timer.specs.declared.queued_state.QueuedState.{QueuedState}
use Rattle.timer_objects.specs.declared.log.ObjectReceipt.{ObjectReceipt}
use Rattle.timer_objects.specs.declared.object.Kind.TheVariants as kinds
use Rattle.timer_objects.specs.declared.object.Object.{Object}
use Rattle.timer_objects.specs.declared.object.Object.TheVariants as objects
use Rattle.timer_objects.specs.declared.wanting.Ended.TheVariants as endings
use Rattle.timer_objects.specs.declared.wanting.Rearming.TheVariants as rearmings
use Rattle.timer_objects.specs.Calls.{Caller, HasWaited}
use Rattle.timer_objects.specs.Known.{ObjectsOf, ObjectsPass}
use Rattle.timer_objects.specs.Rearming.{EndsAt}
use Rattle.timer_objects.specs.declared.signals.NextSignal.{NextSignal}
use Rattle.timer_objects.specs.declared.signals.NextSignal.TheVariants as nexts
use Rattle.timer_objects.specs.Signals.{AcceptsSignal, FiresQueued, HasNoRoom, IsQueued, IsPushedBy, Overflows, PushesFor, Sends, TakesNext, TakesOldest, TakesSignal, TriesQueue, object_fresh, object_sends}
use Rattle.timer_objects.specs.Steps.{kind_over, object_answer}
use Rattle.timer_objects.specs.Triggers.{EntersTrigger}
use Rattle.timer_objects.proofs.Asking.{rearming_after}
use Rattle.timer_objects.proofs.Retrying.{full_after, looked_after}

-- ---- an expiry

module _ (o : Opening) (x : ObjectsOf) (p q : ObjectsPass) (log log' : List ObjectReceipt) (v begun worked w : KnownOfTimers) (s t : QueueView)
    (id generation : ℕ) (reading : ClockReading) (object : Object) (stamp : ℕ) where
  -- the call was entered of the object as it was, with so many entries before, and in this turn
  pub record Enters (call : ObjectCall) : Type 0 where
    pub made : EntersTrigger x p q log log' v w id call
    pub state : made.commits.state ≡ object
    pub before : length made.commits.adds.before ≡ stamp
    pub begins : made.begun ≡ begun
    pub works : made.worked ≡ worked

  sends_by : Enters (calls.Trigger generation reading)
      → IsPushedBy o begun worked (object_sends object generation reading) s t (record { timer = id; number = stamp + 1 })
      → Sends o x p q log log' v w s t id generation reading
  sends_by e sent =
      let signal : ℕ → Signal = λ n. record { timer = id; number = n + 1 } in
      let many = length e.made.commits.adds.before in
      record {
        enters = e.made;
        sent = subst (λ b. IsPushedBy o b e.made.worked (object_sends e.made.commits.state generation reading) s t (signal many)) (sym e.begins)
            (subst (λ k. IsPushedBy o begun k (object_sends e.made.commits.state generation reading) s t (signal many)) (sym e.works)
            (subst (λ y. IsPushedBy o begun worked (object_sends y generation reading) s t (signal many)) (sym e.state)
            (subst (λ n. IsPushedBy o begun worked (object_sends object generation reading) s t (signal n)) (sym e.before) sent)));
      }

  overflows_by : Enters (calls.Overflow generation reading) → HasNoRoom o begun worked s t → Overflows o x p q log log' v w s t id generation reading
  overflows_by e full = record {
    enters = e.made;
    full = subst (λ b. HasNoRoom o b e.made.worked s t) (sym e.begins) (subst (λ k. HasNoRoom o begun k s t) (sym e.works) full);
  }

  -- law: an expiry whose call was entered after its signal was put into the queue, if it counts
  pub fires_by : (call : ObjectCall) → PushesFor o begun worked s t object (record { timer = id; number = stamp + 1 }) generation reading call → Enters call
      → FiresQueued o x p q log log' v w s t id generation reading
  fires_by call (inl sent) e = inl (sends_by (subst Enters sent.0 e) sent.1)
  fires_by call (inr lost) e = inr (inl (overflows_by (subst Enters lost.0 e) lost.2))

-- ---- a signal

-- an object of that kind is a queued timer
pub queued_state : (x : Object) → kind_over x ≡ kinds.Queued → (t : QueuedState) × (x ≡ objects.Queued t)
queued_state (objects.Queued t) e = (t, refl)
queued_state x e = absurd cc

pending_accepted : (b : Bool) (overrun : ℕ) → b ≡ true
    → replies.Accept (if b then acceptances.Accepted overrun else acceptances.NoSignal) ≡ replies.Accept (acceptances.Accepted overrun)
pending_accepted true overrun e = refl
pending_accepted false overrun e = absurd cc

-- a signal that is pending is accepted
pub fresh_accepted : (x : Object) (number : ℕ) (reading : ClockReading) (arm : Arm) → object_fresh x number ≡ true
    → (overrun : ℕ) × (object_answer x (calls.Accept reading arm) ≡ replies.Accept (acceptances.Accepted overrun))
fresh_accepted (objects.Queued t) number reading arm fresh =
    let parts = and_parts t.timer.pending (nat_eq t.signalled number) fresh in (_, pending_accepted t.timer.pending _ parts.0)
fresh_accepted x number reading arm fresh = absurd (true≢false (sym fresh))

module _ (x : ObjectsOf) (o : Opening) (old new : Caller) (id number : ℕ) (reading : ClockReading) (object : Object) where
  -- law: the accept of a signal that is pending is answered so
  pub replies_accepted : (n : ℕ) (reply : ObjectReply) → object_fresh object number ≡ true
      → EndsAt x o old new id rearmings.Accepting reading (endings.Made n reply) object
      → (overrun : ℕ) × (reply ≡ replies.Accept (acceptances.Accepted overrun))
  replies_accepted n reply fresh made =
      let m = made.0.0 in
      let accepted = fresh_accepted object number reading m.arm fresh in
      (accepted.0, m.enters.reply ∙ ap (λ y. object_answer y (calls.Accept reading m.arm)) made.1 ∙ accepted.1)

  -- law: so it was accepted
  pub accepts_signal : (n overrun : ℕ) → kind_over object ≡ kinds.Queued → object_fresh object number ≡ true
      → EndsAt x o old new id rearmings.Accepting reading (endings.Made n (replies.Accept (acceptances.Accepted overrun))) object
      → AcceptsSignal x o old new id number overrun reading
  accepts_signal n overrun kind fresh made =
      let its = queued_state object kind in
      record {
        made = made.0.0;
        state = its.0;
        found = made.1 ∙ its.1;
        fresh = subst (λ y. object_fresh y number ≡ true) its.1 fresh;
      }

-- ---- the queue

-- one queue has one room
pub queue_room : (q r : QueueOf) → Some q ≡ Some r → q.room ≡ r.room
queue_room q r e = let same : q ≡ r = cc in ap (λ (u : QueueOf). u.room) same

-- ---- the oldest signal

-- law: the signal that a pop has taken was the oldest of those that waited
pub takes_oldest : (s t : QueueView) (signal : Signal) → TakesTurn s t (Popped signal) → KnowsQueue t → TakesOldest s t signal.timer signal.number
takes_oldest s t signal taken known = record {
  pops = taken;
  oldest = oldest t.room [] taken.before [] signal (subst (AreTurns t.room []) taken.last known.legal);
  known = known;
}

-- law: what a signal of a queued timer comes to once it was taken off the queue is what the next signal is
module _ (x : ObjectsOf) (o : Opening) (old tried new : Caller) (s t : QueueView) (reading : ClockReading) (timer number : ℕ)
    (takes : TakesOldest s t timer number) (tries : TriesQueue o old tried s t (Some (record { timer = timer; number = number })))
    (queued : IsQueued x timer) where
  pub next_of : (next : NextSignal) → TakesSignal x o tried new timer number reading next → TakesNext x o old new s t reading next
  next_of nexts.NoneQueued its = absurd its
  next_of (nexts.Spent i k stamp) its = (timer, number, takes, tried, tries, inr (queued, its))
  next_of (nexts.Stale i k) its = (timer, number, takes, tried, tries, inr (queued, its))
  next_of (nexts.Accepted i k overrun) its = (timer, number, takes, tried, tries, inr (queued, its))

-- law: it is what it comes to of a caller that only looked before
pub signal_after : (x : ObjectsOf) (o : Opening) (a b c : Caller) (timer number : ℕ) (reading : ClockReading) (next : NextSignal) → HasWaited a b
    → TakesSignal x o b c timer number reading next → TakesSignal x o a c timer number reading next
signal_after x o a b c timer number reading nexts.NoneQueued waits its = absurd its
signal_after x o a b c timer number reading (nexts.Spent i k stamp) waits its = (its.0, its.1, full_after waits its.2, its.3)
signal_after x o a b c timer number reading (nexts.Stale i k) waits its =
    let stale = its.2 in (
      its.0,
      its.1,
      record {
        state = stale.state;
        stamp = stale.stamp;
        looks = looked_after waits stale.looks;
        sent = stale.sent;
        room = stale.room;
        stale = stale.stale;
      },
    )
signal_after x o a b c timer number reading (nexts.Accepted i k overrun) waits its =
    let accepts = its.2 in (
      its.0,
      its.1,
      record {
        made = rearming_after x o a b c timer rearmings.Accepting reading (replies.Accept (acceptances.Accepted overrun)) waits accepts.made;
        state = accepts.state;
        found = accepts.found;
        fresh = accepts.fresh;
      },
    )
