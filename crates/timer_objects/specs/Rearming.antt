-- The calls that arm their object's timer again, where that is periodic and has expired: what each wants of an object, and how it ends.
use Rattle.std.specs.Prelude.{ℕ, ◌≡◌, ◌<◌, length, [], Some}
use Rattle.ktime.specs.Readings.{ClockReading}
use Rattle.pass_names.specs.SharedHistory.{LooksOn}
use Rattle.base_row.specs.Logs.{LogOf}
use Rattle.hr_timers.specs.Known.{IsPassOf, PassOf}
use Rattle.base_row.specs.declared.view.Opening.{Opening}
use Rattle.timer_setting.specs.declared.answers.AcceptAnswer.{AcceptAnswer}
use Rattle.timer_setting.specs.declared.answers.AcceptAnswer.TheVariants as acceptances
use Rattle.timer_setting.specs.declared.object_call.ObjectReply.TheVariants as replies
use Rattle.timer_setting.specs.declared.answers.ReadAnswer.{ReadAnswer}
use Rattle.timer_setting.specs.declared.answers.ReadAnswer.TheVariants as reads
use Rattle.timer_setting.specs.declared.answers.GettimeAnswer.TheVariants as lefts
use Rattle.timer_objects.specs.declared.object.Kind.{Kind}
use Rattle.timer_objects.specs.declared.object.Kind.TheVariants as kinds
use Rattle.timer_objects.specs.declared.object.Object.{Object}
use Rattle.timer_objects.specs.declared.object.Object.TheVariants as objects
use Rattle.timer_setting.specs.declared.object_call.ObjectReply.{ObjectReply}
use Rattle.timer_objects.specs.declared.wanting.Rearming.{Rearming}
use Rattle.timer_objects.specs.declared.wanting.Rearming.TheVariants as rearmings
use Rattle.timer_objects.specs.declared.wanting.Ended.{Ended}
use Rattle.timer_objects.specs.declared.wanting.Ended.TheVariants as ends
use Rattle.counted_row.specs.Calls.{ReadsValue}
use Rattle.counted_row.specs.declared.view.Locked.{Locked}
use Rattle.counted_row.specs.Views.{IsPassOfRow, Locks}
use Rattle.timer_objects.specs.Meaning.{object_meaning}
use Rattle.timer_objects.specs.declared.log.ObjectReceipt.{ObjectReceipt}
use Rattle.timer_objects.specs.Known.{HoldsObject, IsObjectsPass, ObjectsOf, ObjectsPass, Suits, row_of, seen_of}
use Rattle.timer_objects.specs.Calls.{Caller, FindsHistoryFull, IsPosixKind, RearmingMade}
use Rattle.timer_objects.specs.Steps.{object_timer}
use Rattle.base_row.specs.declared.log.Receipt.{Receipt}
use Rattle.base_row.specs.Calls.{BaseRowOf}

-- what a caller's passes know, and what its logs have
abbrev pub caller_of : PassOf → ObjectsPass → LogOf Receipt → LogOf ObjectReceipt → Caller
caller_of pass objects log object_log = record { timers = pass.known; objects = objects; log = log.receipts; object_log = object_log.receipts }

-- the passes keep their names, and that of the timers its claims
pub record KeepsNames (old new : Caller) : Type 0 where
  pub timers : new.timers.id ≡ old.timers.id
  pub claims : new.timers.claims ≡ old.timers.claims
  pub objects : new.objects.knows.pass.id ≡ old.objects.knows.pass.id

-- an object of this kind has such a call
abbrev pub HasRearming : Rearming → Kind → Type 0
HasRearming rearmings.Accepting kind = IsPosixKind kind
HasRearming rearmings.Reading kind = kind ≡ kinds.Fd
HasRearming rearmings.Getting kind = kind ≡ kinds.Fd

-- the history of an object that has one has room for an entry
abbrev pub HasEntryRoom : Object → Type 0
HasEntryRoom objects.Raw = Unit
HasEntryRoom object = (object_timer object).stamp < (object_timer object).limit

-- an entry of such a call has a reply of this form: a refusal makes no entry
abbrev pub RepliesTo : Rearming → ObjectReply → Type 0
RepliesTo rearmings.Accepting reply =
    (a : AcceptAnswer) × (reply ≡ replies.Accept a) × ((n : ℕ) → a ≡ acceptances.Spent n → ⊥)
RepliesTo rearmings.Reading reply =
    (a : ReadAnswer) × (reply ≡ replies.Read a) × ((n : ℕ) → a ≡ reads.Spent n → ⊥) × (a ≡ reads.ShortBuffer → ⊥)
RepliesTo rearmings.Getting reply = (left interval : ℕ) × (reply ≡ replies.Gettime (lefts.Left left interval))

-- ---- a caller and its passes

-- a caller has passes of these timers and objects, and calls on an object
pub record IsCallerOf (x : ObjectsOf) (timers : BaseRowOf) (pass : PassOf) (objects_pass : ObjectsPass) (id : ℕ) : Type 0 where
  pub of_timers : IsPassOf timers pass
  pub of_objects : IsObjectsPass x objects_pass
  pub suits : Suits x timers.about
  pub within : id < length x.decls

-- the passes are of the same timers and objects still
pub record LeavesPasses (x : ObjectsOf) (timers : BaseRowOf) (pass : PassOf) (objects_pass : ObjectsPass) : Type 0 where
  pub of_timers : IsPassOf timers pass
  pub of_objects : IsObjectsPass x objects_pass

-- ---- how a call ends

-- a call made an entry with this reply
abbrev pub MakesEntry : ObjectsOf → Opening → Caller → Caller → ℕ → Rearming → ClockReading → ObjectReply → Type 0
MakesEntry x o old new id r reading reply = RearmingMade x o old new id r reading reply × RepliesTo r reply

-- a call found the object's history full, or made entry number `n`
abbrev pub Ends : ObjectsOf → Opening → Caller → Caller → ℕ → Rearming → ClockReading → Ended → Type 0
Ends x o old new id r reading (ends.Full n) = FindsHistoryFull x old new id n
Ends x o old new id r reading (ends.Made n reply) = MakesEntry x o old new id r reading reply × (n ≡ length (seen_of new.objects id))

-- the same of a call that found this object
abbrev pub EndsAt : ObjectsOf → Opening → Caller → Caller → ℕ → Rearming → ClockReading → Ended → Object → Type 0
EndsAt x o old new id r reading (ends.Full n) object = FindsHistoryFull x old new id n
EndsAt x o old new id r reading (ends.Made n reply) object =
    (made : MakesEntry x o old new id r reading reply) × (made.0.enters.commits.state ≡ object) × (n ≡ length (seen_of new.objects id))

-- a call that made an entry made the one of this number
abbrev pub IsEntryNumber : ℕ → Ended → Type 0
IsEntryNumber number (ends.Full n) = Unit {0}
IsEntryNumber number (ends.Made n reply) = n ≡ number

-- ---- a call on an object that is held

-- a caller took the lock of an object, and may have looked at timers for it
pub record HasLocked (x : ObjectsOf) (first pass : PassOf) (begun now : ObjectsPass) (id : ℕ) (h : Locked Object) : Type 0 where
  pub looks : LooksOn first.known pass.known
  pub is : IsObjectsPass x begun
  pub locks : Locks object_meaning begun now id h

-- a caller holds an object whose history has room
pub record IsHolding (x : ObjectsOf) (timers : BaseRowOf) (pass : PassOf) (objects_pass : ObjectsPass) (id : ℕ) (h : Locked Object) : Type 0 where
  pub of_timers : IsPassOf timers pass
  pub suits : Suits x timers.about
  pub within : id < length x.decls
  pub row : IsPassOfRow (row_of x) objects_pass
  pub unclaimed : objects_pass.knows.claims ≡ []
  pub held : objects_pass.knows.held ≡ Some h
  pub index : h.index ≡ id
  pub holds : HoldsObject x h
  pub room : h.stamp < x.limit

-- ---- looks

-- an object was looked at: its state, and so many entries
pub record FindsObject (old new : ObjectsPass) (id : ℕ) (object : Object) (n : ℕ) : Type 0 where
  pub reads : ReadsValue object_meaning old new id
  pub state : object ≡ reads.state
  pub stamp : n ≡ length (seen_of new id)
