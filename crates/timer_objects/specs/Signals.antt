-- The signals of queued timers: what an expiry does to its object and to the queue, and what the next signal is.
use Rattle.std.specs.Prelude.{ℕ, ◌≡◌, ◌+◌, ◌<◌, ◌≤◌, ◌⊎◌, Bool, true, false, List, length, Option, Some, None, [], slice_get}
use Rattle.ktime.specs.Readings.{ClockReading}
use Rattle.base_row.specs.declared.view.Opening.{Opening}
use Rattle.hr_timers.specs.Known.{KnownOfTimers}
use Rattle.ordered_signals.specs.Places.{HasSignalRing, PopStands, PushStands}
use Rattle.pass_names.specs.SharedHistory.{LooksOn}
use Rattle.signal_queue.specs.declared.signal.Signal.{Signal}
use Rattle.signal_queue.specs.declared.signal.Turn.TheVariants as turns
use Rattle.signal_queue.specs.declared.signals.Push.TheVariants.{Queued, Full}
use Rattle.signal_queue.specs.declared.view.QueueView.{QueueView}
use Rattle.signal_queue.specs.Calls as queues
use Rattle.signal_queue.specs.Rules.{IsWithin}
use Rattle.signal_queue.specs.Turns.{waiting_after}
use Rattle.signal_queue.specs.Views.{KnowsQueue, PassOfQueue}
use Rattle.pass_names.specs.Passes.{Begins, GoesOn}
use Rattle.timer_setting.specs.declared.answers.AcceptAnswer.TheVariants as acceptances
use Rattle.timer_setting.specs.declared.object_call.ObjectCall.{ObjectCall}
use Rattle.timer_setting.specs.declared.object_call.ObjectCall.TheVariants as calls
use Rattle.timer_setting.specs.declared.object_call.ObjectReply.TheVariants as replies
use Rattle.posix_timer.specs.declared.queued_state.QueuedState.{QueuedState}
use Rattle.posix_timer.specs.Queued.{is_fresh, sends_signal}
use Rattle.timer_objects.specs.declared.log.ObjectReceipt.{ObjectReceipt}
use Rattle.timer_objects.specs.declared.object.Kind.TheVariants as kinds
use Rattle.timer_objects.specs.declared.object.Object.{Object}
use Rattle.timer_objects.specs.declared.object.Object.TheVariants as objects
use Rattle.timer_objects.specs.declared.signals.NextSignal.{NextSignal}
use Rattle.timer_objects.specs.declared.signals.NextSignal.TheVariants as nexts
use Rattle.timer_objects.specs.declared.wanting.Rearming.TheVariants as rearmings
use Rattle.timer_objects.specs.Calls.{Caller, FindsHistoryFull, LooksAtObject, RearmingMade}
use Rattle.timer_objects.specs.Known.{ObjectsOf, ObjectsPass, decl_at}
use Rattle.timer_objects.specs.Triggers.{EntersTrigger, SkipsTrigger}

-- objects were made with a queue of signals, and this is a pass of it
abbrev pub IsSignalPass : ObjectsOf → PassOfQueue → Type 0
IsSignalPass x p = x.queue ≡ Some (record { id = p.queue; room = p.knows.room })

-- an object of this number is a queued timer
pub record IsQueued (x : ObjectsOf) (id : ℕ) : Type 0 where
  pub within : id < length x.decls
  pub kind : (decl_at x id).kind ≡ kinds.Queued

-- an expiry of this generation counts for an object that sends signals
abbrev pub object_sends : Object → ℕ → ClockReading → Bool
object_sends (objects.Queued t) generation reading = sends_signal t generation reading
object_sends object generation reading = false

-- ---- an expiry

-- Where the timers have a ring for the queue, a push has its place between what was known of them before and after, and one that found no room its moment.
-- The queue's room stays.
module _ (o : Opening) (v w : KnownOfTimers) where
  -- a signal that was sent stands last in the queue, which had room for it; where none was, the queue was left alone
  abbrev pub IsPushedBy : Bool → QueueView → QueueView → Signal → Type 0
  IsPushedBy true s t signal =
      queues.TakesTurn s t (turns.Pushed signal) × IsWithin t × KnowsQueue t × (HasSignalRing o.rings s.room → PushStands o v w t Queued)
      × (t.room ≡ s.room)
  IsPushedBy false s t signal = t ≡ s

  -- the queue has no room: as many signals wait as it was made for
  abbrev pub HasNoRoom : QueueView → QueueView → Type 0
  HasNoRoom s t =
      queues.FindsFull s.room s t × KnowsQueue t × (HasSignalRing o.rings s.room → PushStands o v w t (Full s.room)) × (t.room ≡ s.room)

-- a pass of the queue has its name, and what it has seen and made goes on
pub record KeepsSignalPass (s t : QueueView) : Type 0 where
  pub id : t.pass.id ≡ s.pass.id
  pub seen : GoesOn s.pass.seen t.pass.seen
  pub mine : Begins s.pass.mine t.pass.mine

module _ (o : Opening) (x : ObjectsOf) (p q : ObjectsPass) (log log' : List ObjectReceipt) (v w : KnownOfTimers) (s t : QueueView) (id generation : ℕ)
    (reading : ClockReading) where
  -- The trigger was entered, and its signal was sent if the expiry counts: the signal has the number of the entry. Where there is a ring, the push stands in
  -- the turn of the object.
  pub record Sends : Type 0 where
    pub enters : EntersTrigger x p q log log' v w id (calls.Trigger generation reading)
    pub sent : IsPushedBy o enters.begun enters.worked (object_sends enters.commits.state generation reading) s t
        (record { timer = id; number = length enters.commits.adds.before + 1 })

  -- The expiry counts, but the queue had no room for its signal: an overflow was entered. Where there is a ring, there was no room at a moment in the turn of
  -- the object.
  pub record Overflows : Type 0 where
    pub enters : EntersTrigger x p q log log' v w id (calls.Overflow generation reading)
    pub full : HasNoRoom o enters.begun enters.worked s t

  -- The history of the object is full, so the trigger was refused and no signal was sent.
  pub record Skips : Type 0 where
    pub skips : SkipsTrigger x p q log log' v w id (calls.Trigger generation reading)
    pub none : t ≡ s

-- what the expiry of a queued timer does
abbrev pub FiresQueued : Opening → ObjectsOf → ObjectsPass → ObjectsPass → List ObjectReceipt → List ObjectReceipt → KnownOfTimers → KnownOfTimers
    → QueueView → QueueView → ℕ → ℕ → ClockReading → Type 0
FiresQueued o x p q log log' v w s t id generation reading =
    Sends o x p q log log' v w s t id generation reading
    ⊎ Overflows o x p q log log' v w s t id generation reading
    ⊎ Skips o x p q log log' v w s t id generation reading

-- what becomes of an expiry's signal in the turn of its object, and the call that is entered then
abbrev pub PushesFor : Opening → KnownOfTimers → KnownOfTimers → QueueView → QueueView → Object → Signal → ℕ → ClockReading → ObjectCall → Type 0
PushesFor o v w s t object signal generation reading call =
    ((call ≡ calls.Trigger generation reading) × IsPushedBy o v w (object_sends object generation reading) s t signal)
    ⊎ ((call ≡ calls.Overflow generation reading) × (object_sends object generation reading ≡ true) × HasNoRoom o v w s t)

-- ---- the next signal

-- the oldest of the signals that waited was taken off the queue
pub record TakesOldest (s t : QueueView) (timer number : ℕ) : Type 0 where
  pub pops : queues.TakesTurn s t (turns.Popped (record { timer = timer; number = number }))
  pub oldest : slice_get (waiting_after [] pops.before) 0 ≡ Some (record { timer = timer; number = number })
  pub known : KnowsQueue t

-- The queue was tried, by which so much came to be known of it. Where the timers have a ring for the queue, the caller had looked at them, and the pop has its
-- place between what was known of them before and after, or one that found nothing its moment. Else nothing was done to them.
pub record TriesQueue (o : Opening) (old tried : Caller) (s t : QueueView) (taken : Option Signal) : Type 0 where
  pub looks : LooksOn old.timers tried.timers
  pub same : tried ≡ record old { timers = tried.timers }
  pub stands : HasSignalRing o.rings s.room → PopStands o old.timers tried.timers t taken
  pub alone : (HasSignalRing o.rings s.room → ⊥) → tried ≡ old

-- A signal is stale where it isn't pending at its timer, which has the entry that sent it, and has room: the timer was set anew since, or the signal was
-- accepted, or it isn't the last one that the timer sent.
pub record FindsStale (x : ObjectsOf) (old new : Caller) (timer number : ℕ) : Type 0 where
  pub state : QueuedState
  pub stamp : ℕ
  pub looks : LooksAtObject old new timer (objects.Queued state) stamp
  pub sent : number ≤ stamp
  pub room : stamp < x.limit
  pub stale : is_fresh state number ≡ false

-- a signal that is pending was accepted, which arms a periodic timer again
pub record AcceptsSignal (x : ObjectsOf) (o : Opening) (old new : Caller) (timer number overrun : ℕ) (reading : ClockReading) : Type 0 where
  pub made : RearmingMade x o old new timer rearmings.Accepting reading (replies.Accept (acceptances.Accepted overrun))
  pub state : QueuedState
  pub found : made.enters.commits.state ≡ objects.Queued state
  pub fresh : is_fresh state number ≡ true

-- the signal of this number is pending at an object that sends signals
abbrev pub object_fresh : Object → ℕ → Bool
object_fresh (objects.Queued t) number = is_fresh t number
object_fresh object number = false

-- What a signal of this queued timer comes to once it is taken off the queue: the timer's history is full, with the entry that sent it; or else it is stale, or
-- it is accepted.
abbrev pub TakesSignal : ObjectsOf → Opening → Caller → Caller → ℕ → ℕ → ClockReading → NextSignal → Type 0
TakesSignal x o old new timer number reading nexts.NoneQueued = ⊥
TakesSignal x o old new timer number reading (nexts.Spent i k stamp) =
    (i ≡ timer) × (k ≡ number) × FindsHistoryFull x old new timer stamp × (number ≤ stamp)
TakesSignal x o old new timer number reading (nexts.Stale i k) = (i ≡ timer) × (k ≡ number) × FindsStale x old new timer number
TakesSignal x o old new timer number reading (nexts.Accepted i k overrun) =
    (i ≡ timer) × (k ≡ number) × AcceptsSignal x o old new timer number overrun reading

-- one that is of no queued timer is stale, and nothing else was done
abbrev pub IsForeign : ObjectsOf → Caller → Caller → ℕ → ℕ → NextSignal → Type 0
IsForeign x old new timer number next = (IsQueued x timer → ⊥) × (next ≡ nexts.Stale timer number) × (new ≡ old)

-- the next signal: none waits; or the oldest one was taken off, and then it is of a queued timer or not
abbrev pub TakesNext : ObjectsOf → Opening → Caller → Caller → QueueView → QueueView → ClockReading → NextSignal → Type 0
TakesNext x o old new s t reading nexts.NoneQueued = queues.FindsEmpty s t × TriesQueue o old new s t None
TakesNext x o old new s t reading next =
    (timer number : ℕ) × TakesOldest s t timer number
    × (tried : Caller) × TriesQueue o old tried s t (Some (record { timer = timer; number = number }))
    × (IsForeign x tried new timer number next ⊎ (IsQueued x timer × TakesSignal x o tried new timer number reading next))
