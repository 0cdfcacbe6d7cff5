-- What calls do: callbacks in an expiry run, timers moved off a base; and what a call did as one value (`Deed`), with what that means (`Did`).
use Rattle.std.specs.Prelude.{ℕ, ◌≡◌, ◌≤◌, ◌+◌, ◌-◌, Bool, true, false, ◌⊎◌, Option, List, [], ◌∷◌, ◌++◌, length, map, flat_map}
use Rattle.std.specs.List.{AllByRecursion}
use Rattle.ktime.specs.declared.mode.Mode.TheVariants as modes
use Rattle.script_text.specs.declared.script.Callback.{Callback}
use Rattle.script_text.specs.declared.script.Callback.TheVariants as callbacks
use Rattle.script_text.specs.declared.script.Kind.{Kind}
use Rattle.script_text.specs.declared.script.Kind.TheVariants as kinds
use Rattle.script_text.specs.declared.script.Call.{Call}
use Rattle.script_text.specs.declared.script.Call.TheVariants as calls
use Rattle.script_text.specs.declared.script.Script.{Script}
use Rattle.seq_timer.specs.declared.context.Context.{Context}
use Rattle.seq_timer.specs.declared.event.EventBy.TheVariants as events
use Rattle.seq_timer.specs.declared.event.Moved.{Moved}
use Rattle.seq_timer.specs.declared.event.Reply.TheVariants as replies
use Rattle.seq_timer.specs.Steps.{Timer}
use Rattle.seq_timer.specs.Tables.{is_armed_on}
use Rattle.record_text.specs.declared.record.RunRecord.{RunRecord}
use Rattle.record_text.specs.declared.record.CallbackReply.TheVariants as told
use Rattle.record_text.specs.declared.record.Armed.{Armed}
use Rattle.record_text.specs.declared.record.ObjectEntry.{ObjectEntry}
use Rattle.timer_setting.specs.declared.arming.Wanted.{Wanted}
use Rattle.ktime.specs.declared.write.Write.{Write}
use Rattle.script_text.specs.declared.script.StartRequest.{StartRequest}
use Rattle.seq_timer.specs.declared.standing.BaseEvent.{BaseEvent}
use Rattle.record_text.specs.declared.record.ObjectEntry.TheVariants as object_entries
use Rattle.script_text.specs.Declarations.{declared_of, without_slack, kind_of}
use Rattle.run_history.specs.Histories.{timer_after}
use Rattle.run_history.specs.Starts.{Arming, IsArming, Sight, arming_actions, from_moment, was_armed_before}
use Rattle.run_history.specs.ObjectCalls.{MakesAnew, MakesRearming}
use Rattle.run_history.specs.Actions.{Action, Began, Wrote, Entered, Looked, Made, Shifted, Signalled, Skipped}
use Rattle.run_history.specs.Signals.{pop_counter, push_counter}
use Rattle.signal_queue.specs.declared.signal.Signal.{Signal}
use Rattle.run_history.specs.Witnesses.{Evacuation, Fired}

-- all that an expiry run did for one callback
abbrev pub fires : ℕ → ℕ → Fired → List Action
fires base reading f =
    Entered f.timer f.claim (record { event = events.Claim base reading; reply = replies.Claim f.generation })
    ∷ f.body ++ Entered f.timer f.finish (record { event = events.Finish f.restart; reply = replies.Finish f.generation f.restarted }) ∷ []

-- what a claim of an object's timer does: a turn of the object with an entry that tells the expiry, or none where its history is full; it never asks for a
-- restart
abbrev pub IsTrigger : ℕ → Fired → Type 0
IsTrigger reading f =
    (((stamp : ℕ) × (counted : Bool)
    × (f.body ≡ Began f.timer stamp ∷ Made f.timer (stamp + 1) (object_entries.Trigger f.generation reading counted) ∷ []))
    ⊎ ((number : ℕ) × (f.body ≡ Skipped f.timer number f.generation ∷ [])))
    × (f.restart ≡ false)

-- The same of a queued timer's, whose pushes raise this counter. An expiry that counts pushes its signal, which has the number of the entry, in the turn of the
-- object; or it found no room there for it.
abbrev pub IsQueuedTrigger : ℕ → ℕ → Fired → Type 0
IsQueuedTrigger pushes reading f =
    (((stamp : ℕ) × (f.body ≡ Began f.timer stamp ∷ Made f.timer (stamp + 1) (object_entries.Trigger f.generation reading false) ∷ []))
    ⊎ (((stamp : ℕ) × (number : ℕ)
    × (f.body ≡ Began f.timer stamp ∷ Signalled pushes number (record { timer = f.timer; number = stamp + 1 })
    ∷ Made f.timer (stamp + 1) (object_entries.Trigger f.generation reading true) ∷ []))
    ⊎ (((stamp : ℕ) × (f.body ≡ Began f.timer stamp ∷ Made f.timer (stamp + 1) (object_entries.Overflow f.generation reading) ∷ []))
    ⊎ ((number : ℕ) × (f.body ≡ Skipped f.timer number f.generation ∷ [])))))
    × (f.restart ≡ false)

-- the entries of one move of a timer to an heir, which keeps its expiries
abbrev pub evacuates : ℕ → ℕ → Evacuation → List Action
evacuates heir reading e =
    Entered e.timer (e.before + 1) (record { event = events.Out heir; reply = replies.Out true })
    ∷ Entered e.timer (e.before + 2) (record {
      event = events.Start (record { mode = modes.Keep; ns = e.ns; slack = e.slack; reading = reading; base = heir });
      reply = replies.Start e.placement false;
    }) ∷ []

-- what a call did that took a base off line, or tried to: it moved so many timers to the heir, one after the other, and ended so
pub record IsEvacuation (heir reading count : ℕ) (moved : List Evacuation) (end actions : List Action) : Type 0 where
  pub counted : count ≡ length moved
  pub done : actions ≡ flat_map (evacuates heir reading) moved ++ end

-- a timer was armed on the base before it was moved, and its start asks for the expiries that it had
pub record KeepsExpiries (base : ℕ) (t : Timer) (e : Evacuation) : Type 0 where
  pub armed : is_armed_on base t ≡ true
  pub soft : e.ns ≡ t.soft
  pub slack : e.slack ≡ t.expires - t.soft

-- so each timer that a call moved off a base
abbrev pub AllMoved : (ℕ → Evacuation → Type 0) → Call → List Evacuation → Type 0
AllMoved IsSo (calls.Offline base heir budget) moved = AllByRecursion (IsSo base) moved
AllMoved IsSo call moved = Unit

-- they keep their expiries, by each one's own history
abbrev pub AllKeepExpiries : Script → RunRecord → Call → List Evacuation → Type 0
AllKeepExpiries s r call moved = AllMoved (λ base e. KeepsExpiries base (timer_after s r e.timer e.before) e) call moved

-- by what the call saw
module _ (sight : Sight) where
  -- a function started its own timer: its bases were found on line from a moment on that stands behind the function's claim
  pub record StartsItself (limit base : ℕ) (f : Fired) (a : Arming) : Type 0 where
    pub begun : ℕ
    pub from : sight.first ≤ begun
    pub claimed : f.claim ≤ sight.stamp begun f.timer
    pub arming : IsArming (from_moment sight begun) f.timer limit base a

  -- what a raw timer's callback may do, and whether it asks for a restart, by its declaration
  abbrev pub IsCallback : ℕ → Callback → ℕ → Fired → Type 0
  IsCallback limit callbacks.Once reading f = (f.body ≡ []) × (f.restart ≡ false)
  IsCallback limit (callbacks.Every interval) reading f =
      (((number : ℕ) × (moved : Moved)
      × (f.body ≡ Entered f.timer number (record { event = events.Forward reading interval; reply = replies.Forward moved }) ∷ []))
      ⊎ (((number : ℕ) × (generation : ℕ) × (f.body ≡ Looked f.timer number (told.Armed generation) ∷ []))
      ⊎ ((number : ℕ) × (f.body ≡ Looked f.timer number told.Spent ∷ []))))
      × (f.restart ≡ true)
  IsCallback limit callbacks.Cancels reading f = ((number : ℕ) × (f.body ≡ Looked f.timer number (told.Running f.generation) ∷ [])) × (f.restart ≡ false)
  IsCallback limit (callbacks.Starts ns base) reading f =
      (((a : Arming) × (f.body ≡ arming_actions f.timer (without_slack modes.Rel ns base) reading a) × StartsItself limit base f a)
      ⊎ ((number : ℕ) × (f.body ≡ Looked f.timer number told.Spent ∷ [])))
      × (f.restart ≡ true)

  -- what runs when a timer is claimed, by its kind
  abbrev pub IsBody : Script → Kind → ℕ → Fired → Type 0
  IsBody s (kinds.Raw context callback) reading f = IsCallback s.limit callback reading f
  IsBody s (kinds.Posix base) reading f = IsTrigger reading f
  IsBody s (kinds.Fd base) reading f = IsTrigger reading f
  IsBody s (kinds.Queued base) reading f = IsQueuedTrigger (push_counter s) reading f
  IsBody s (kinds.Sleeper base) reading f = IsTrigger reading f

  -- what an expiry run did: each callback as its timer declares it, of the run's context, all by one reading, and the timers in the order of their
  -- claims
  pub record IsExpiryRun (s : Script) (context : Context) (reading base : ℕ) (fired : List Fired) (shown : ℕ) (timers : List ℕ)
      (actions : List Action) : Type 0 where
    pub one_reading : shown ≡ reading
    pub claimed : timers ≡ map (λ f. f.timer) fired
    pub done : actions ≡ flat_map (fires base reading) fired
    pub contexts : AllByRecursion (λ f. (declared_of s f.timer).context ≡ context) fired
    pub bodies : AllByRecursion (λ f. IsBody s (kind_of s f.timer) reading f) fired

-- ---- what a call did

-- what a call did that was answered in one way
pub data Deed : Type 1 where
  -- no call is answered so
  Never : Deed
  Nothing : Deed
  Starts : (timer : ℕ) (request : StartRequest) (generation on : ℕ) (was_armed : Bool) → Deed
  Cancels : (timer generation : ℕ) → Deed
  Writes : (stamp : ℕ) (write : Write) → Deed
  -- an expiry run that shows this reading and these timers, of as many callbacks as the condition allows
  Runs : (context : Context) (base shown : ℕ) (timers : List ℕ) (IsCount : ℕ → Type 0) → Deed
  -- a call that armed an object's timer anew, by this start or none, and made this entry, by what became of the start
  Anew : (timer : ℕ) (wanted : Option Wanted) (entry : Armed → ObjectEntry) → Deed
  -- a call that made this entry of an object, by how it armed the object's timer
  Rearms : (timer : ℕ) (entry : Armed → ObjectEntry) → Deed
  -- so many timers moved to the heir, as many as the condition allows, and these actions behind
  Evacuates : (heir count : ℕ) (end : List Action) (IsCount : ℕ → Type 0) → Deed
  -- an entry of a base
  Shifts : (base stamp : ℕ) (event : BaseEvent) → Deed
  -- a pop of this signal, and one of these behind it
  Pops : (signal : Signal) (did : Deed) → Deed
  -- one of these, and this holds besides
  Where : (did : Deed) (IsSo : Type 0) → Deed

-- these are the actions of a call that did so. The call has one reading, saw so much, and ran these callbacks or moved these timers.
abbrev pub Did : Sight → Script → ℕ → Deed → List Fired → List Evacuation → List Action → Type 0
Did sight s reading Never fired moved actions = ⊥
Did sight s reading Nothing fired moved actions = actions ≡ []
Did sight s reading (Starts timer request generation on was_armed) fired moved actions =
    (a : Arming) × (actions ≡ arming_actions timer request reading a) × (generation ≡ a.number) × (on ≡ a.placement.base)
    × (was_armed ≡ was_armed_before a.outs a.was_armed) × IsArming sight timer s.limit request.base a
Did sight s reading (Cancels timer generation) fired moved actions =
    (number : ℕ) × (actions ≡ Entered timer number (record { event = events.Cancel; reply = replies.Cancel generation }) ∷ [])
Did sight s reading (Writes stamp write) fired moved actions = actions ≡ Wrote stamp write ∷ []
Did sight s reading (Runs context base shown timers IsCount) fired moved actions =
    IsExpiryRun sight s context reading base fired shown timers actions × IsCount (length fired)
Did sight s reading (Anew timer wanted entry) fired moved actions = MakesAnew sight s.limit (kind_of s timer) timer wanted reading entry actions
Did sight s reading (Rearms timer entry) fired moved actions = MakesRearming sight s.limit (kind_of s timer) timer reading entry actions
Did sight s reading (Evacuates heir count end IsCount) fired moved actions = IsEvacuation heir reading count moved end actions × IsCount count
Did sight s reading (Shifts base stamp event) fired moved actions = actions ≡ Shifted base stamp event ∷ []
Did sight s reading (Pops signal did) fired moved actions =
    (number : ℕ) × (behind : List Action) × (actions ≡ Signalled (pop_counter s) number signal ∷ behind) × Did sight s reading did fired moved behind
Did sight s reading (Where did IsSo) fired moved actions = Did sight s reading did fired moved actions × IsSo
