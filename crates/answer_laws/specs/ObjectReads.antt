-- The moments of reads that wait, of the next signal, of triggers, and of callbacks.
use Rattle.std.specs.Prelude.{ℕ, ◌⊎◌, Bool, true, false, List, []}
use mathlib.Core.Logic.{inl, inr}
use Rattle.ktime.specs.Readings.{ClockReading}
use Rattle.timer_setting.specs.declared.object_call.ObjectCall.{ObjectCall}
use Rattle.timer_setting.specs.declared.object_call.ObjectReply.{ObjectReply}
use Rattle.base_row.specs.declared.log.Receipt.{Receipt}
use Rattle.base_row.specs.declared.view.Opening.{Opening}
use Rattle.counted_row.specs.declared.view.Entry.{Entry}
use Rattle.hr_timers.specs.declared.numbers.ClaimNumbers.{ClaimNumbers}
use Rattle.hr_timers.specs.Known.{KnownOfTimers}
use Rattle.hr_timers.specs.declared.handler.Restart.{Restart}
use Rattle.signal_queue.specs.Rules.{turns}
use Rattle.signal_queue.specs.declared.signal.Signal.{Signal}
use Rattle.signal_queue.specs.declared.signal.Turn.{Turn}
use Rattle.signal_queue.specs.declared.view.QueueView.{QueueView}
use Rattle.timer_objects.specs.declared.answers.BlockingRead.{BlockingRead}
use Rattle.timer_objects.specs.declared.answers.BlockingRead.TheVariants as blocking
use Rattle.timer_objects.specs.declared.callback.Callback.{Callback}
use Rattle.timer_objects.specs.declared.callback.Callback.TheVariants as callbacks
use Rattle.timer_objects.specs.declared.log.ObjectReceipt.{ObjectReceipt}
use Rattle.timer_objects.specs.declared.signals.NextSignal.{NextSignal}
use Rattle.timer_objects.specs.declared.signals.NextSignal.TheVariants as nexts
use Rattle.timer_objects.specs.BlockingReads.{ReadsBlocking}
use Rattle.timer_objects.specs.Callbacks.{RunsCallback}
use Rattle.timer_objects.specs.Calls.{Caller}
use Rattle.timer_objects.specs.Known.{ObjectsOf, ObjectsPass, seen_of}
use Rattle.timer_objects.specs.Signals.{FiresQueued, IsForeign, IsQueued, IsPushedBy, TakesNext, TakesSignal, object_sends}
use Rattle.timer_objects.specs.Triggers.{Triggers}
use Rattle.answer_laws.specs.Objects.{ObjectMoment, NoMoment, looked_at, rearming_at}
use Rattle.answer_laws.specs.Outcomes.{StartMoment, start_moment}

-- the turns of a queue, and the moment of an object
pub record NextMoment : Type 0 where
  pub popped : List Turn
  pub object : ObjectMoment

-- the history of an object, and the turns of a queue
pub record ExpiryMoment : Type 0 where
  pub seen : List (Entry ObjectCall ObjectReply)
  pub pushed : List Turn

module _ (x : ObjectsOf) (o : Opening) (old new : Caller) where
  -- of a read that waits
  abbrev pub blocking_at : (id len : ℕ) (reading : ClockReading) (a : BlockingRead) → ReadsBlocking x o old new id len reading a → ObjectMoment
  blocking_at id len reading blocking.ShortBuffer s = NoMoment
  blocking_at id len reading (blocking.Spent n) s = looked_at x o old new id
  blocking_at id len reading (blocking.Count total) s = rearming_at x o old new id _ reading _ s.2.made
  blocking_at id len reading blocking.Zero s = rearming_at x o old new id _ reading _ s.1.made
  blocking_at id len reading blocking.Canceled s = rearming_at x o old new id _ reading _ s.1.made

  -- of what becomes of a signal that was taken off the queue
  abbrev pub signal_at : (timer number : ℕ) (reading : ClockReading) (a : NextSignal) → TakesSignal x o old new timer number reading a → ObjectMoment
  signal_at timer number reading nexts.NoneQueued s = NoMoment
  signal_at timer number reading (nexts.Spent i k stamp) s = looked_at x o old new timer
  signal_at timer number reading (nexts.Stale i k) s = looked_at x o old new timer
  signal_at timer number reading (nexts.Accepted i k overrun) s = rearming_at x o old new timer _ reading _ s.2.made

  -- the same, where the signal may be of no queued timer
  abbrev pub SignalFits : ℕ → ℕ → ClockReading → NextSignal → Type 0
  SignalFits timer number reading a = IsForeign x old new timer number a ⊎ (IsQueued x timer × TakesSignal x o old new timer number reading a)

  abbrev pub taken_at : (timer number : ℕ) (reading : ClockReading) (a : NextSignal) → SignalFits timer number reading a → ObjectMoment
  taken_at timer number reading a (inl f) = NoMoment
  taken_at timer number reading a (inr q) = signal_at timer number reading a q.1

-- of a call for the next signal: the turns of the queue before it, and the moment of the signal's timer
abbrev pub next_at : (x : ObjectsOf) (o : Opening) (old new : Caller) (s t : QueueView) (reading : ClockReading) (a : NextSignal)
    → TakesNext x o old new s t reading a → NextMoment
next_at x o old new s t reading nexts.NoneQueued n = record { popped = turns t; object = NoMoment }
next_at x o old new s t reading a n = record { popped = n.2.pops.before; object = taken_at x o n.3 new n.0 n.1 reading a n.5 }

-- the turns of the queue behind which an expiry's signal was sent; where none was, all that was seen
abbrev pub sent_at : (o : Opening) (v w : KnownOfTimers) (b : Bool) (s t : QueueView) (signal : Signal) → IsPushedBy o v w b s t signal → List Turn
sent_at o v w true s t signal k = k.0.before
sent_at o v w false s t signal k = turns t

module _ (x : ObjectsOf) (p q : ObjectsPass) (log log' : List ObjectReceipt) (v w : KnownOfTimers) where
  -- the history of an object behind which a trigger was entered, or that was found full
  abbrev pub trigger_at : (c : ClaimNumbers) (call : ObjectCall) → Triggers x p q log log' v w c call → List (Entry ObjectCall ObjectReply)
  trigger_at c call (inl e) = e.commits.adds.before
  trigger_at c call (inr s) = seen_of q c.timer

  -- of the expiry of a queued timer
  abbrev pub queued_at : (o : Opening) (s t : QueueView) (id generation : ℕ) (reading : ClockReading)
      → FiresQueued o x p q log log' v w s t id generation reading → ExpiryMoment
  queued_at o s t id generation reading (inl f) = record {
    seen = f.enters.commits.adds.before;
    pushed = sent_at o f.enters.begun f.enters.worked (object_sends f.enters.commits.state generation reading) s t _ f.sent;
  }
  queued_at o s t id generation reading (inr (inl f)) = record { seen = f.enters.commits.adds.before; pushed = turns t }
  queued_at o s t id generation reading (inr (inr f)) = record { seen = seen_of q id; pushed = turns t }

-- of a callback
abbrev pub callback_moment : (o : Opening) (v w : KnownOfTimers) (c : ClaimNumbers) (reading : ClockReading) (log log' : List Receipt) (k : Callback)
    (restart : Restart) → RunsCallback o v w c reading log log' k restart → StartMoment
callback_moment o v w c reading log log' callbacks.Once restart r = record { at = []; sent = []; last = 0 }
callback_moment o v w c reading log log' (callbacks.Every interval) restart r = record { at = r.0.forwards.at; sent = []; last = 0 }
callback_moment o v w c reading log log' callbacks.Cancels restart r = record { at = r.0.cancels.at; sent = []; last = 0 }
callback_moment o v w c reading log log' (callbacks.Starts ns asked) restart r = start_moment o v w c.timer _ r.0.answer r.0.starts
