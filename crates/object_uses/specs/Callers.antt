-- What callers are told of objects, by all that their passes have seen.
use Rattle.std.specs.Prelude.{ℕ, ◌≡◌, ◌+◌, ◌≤◌, ◌<◌, List, [], ◌∷◌, ◌++◌, length, true, Some}
use Rattle.ktime.specs.Readings.{ClockReading}
use Rattle.pass_names.specs.declared.Pass.{Pass}
use Rattle.pass_names.specs.Names.{after_retire}
use Rattle.pass_names.specs.Passes.{Begins, GoesOn}
use Rattle.base_row.specs.Calls as rows
use Rattle.hr_timers.specs.Known.{IsPassOf, PassOf}
use Rattle.hr_timers.specs.Handlers.{KeepsPass}
use Rattle.base_row.specs.declared.log.Receipt.{Receipt}
use Rattle.base_row.specs.Logs.{LogOf}
use Rattle.timer_setting.specs.declared.arming.Arm.{Arm}
use Rattle.timer_setting.specs.Phases.{periods_in}
use Rattle.timer_setting.specs.declared.answers.AcceptAnswer.{AcceptAnswer}
use Rattle.timer_setting.specs.declared.answers.AcceptAnswer.TheVariants as acceptances
use Rattle.timer_setting.specs.declared.answers.ReadAnswer.{ReadAnswer}
use Rattle.timer_setting.specs.declared.answers.ReadAnswer.TheVariants as reads
use Rattle.timer_setting.specs.declared.object_call.ObjectCall.{ObjectCall}
use Rattle.timer_setting.specs.declared.object_call.ObjectCall.TheVariants as calls
use Rattle.timer_setting.specs.declared.object_call.ObjectReply.{ObjectReply}
use Rattle.posix_timer.specs.States.{PosixTimer}
use Rattle.posix_timer.specs.Steps.{overrun_of}
use Rattle.timer_fd.specs.States.{Descriptor}
use Rattle.timer_fd.specs.Steps.{fd_read, total_in}
use Rattle.counted_row.specs.declared.view.Entry.{Entry}
use Rattle.counted_row.specs.Views.{StateAfter}
use Rattle.timer_objects.specs.declared.answers.BlockingRead.{BlockingRead}
use Rattle.timer_objects.specs.declared.answers.BlockingRead.TheVariants as blocking
use Rattle.timer_objects.specs.declared.object.Object.{Object}
use Rattle.timer_objects.specs.declared.object.Object.TheVariants as objects
use Rattle.timer_objects.specs.declared.log.ObjectReceipt.{ObjectReceipt}
use Rattle.timer_objects.specs.declared.callback.Callback.{Callback}
use Rattle.timer_objects.specs.Callbacks.{bases_of}
use Rattle.timer_objects.specs.Meaning.{object_meaning}
use Rattle.timer_objects.specs.Calls.{Caller, posix_in}
use Rattle.timer_objects.specs.Known.{IsObjectsPass, KeepsObjectsPass, ObjectsOf, ObjectsPass, Suits, most_noted, seen_of}

-- a thread has a pass of the timers and one of the objects, which stand over these timers
pub record HasPasses (timers : rows.BaseRowOf) (objects : ObjectsOf) (pass : PassOf) (objects_pass : ObjectsPass) : Type 0 where
  pub of_timers : IsPassOf timers pass
  pub of_objects : IsObjectsPass objects objects_pass
  pub suits : Suits objects timers.about

-- a thread may call an object by its passes, and its logs have room for the receipts
pub record MayCall (timers : rows.BaseRowOf) (objects : ObjectsOf) (pass : PassOf) (objects_pass : ObjectsPass) (log : LogOf Receipt)
    (object_log : LogOf ObjectReceipt) (id : ℕ) : Type 0 where
  pub passes : HasPasses timers objects pass objects_pass
  pub within : id < length objects.decls
  pub room : most_noted objects timers.about id ≤ log.spare
  pub object_room : 0 < object_log.spare

-- functions may be run on a base, with a callback for each timer
pub record MayRun (timers : rows.BaseRowOf) (objects : ObjectsOf) (callbacks : List Callback) (base : ℕ) : Type 0 where
  pub many : length callbacks ≡ length objects.decls
  pub bases : bases_of callbacks ≤ timers.about.bases
  pub is_base : base < timers.about.bases

-- the passes are still of these timers and objects, their names are as they were, and what they have seen and made goes on
pub record KeepsPasses (timers : rows.BaseRowOf) (objects : ObjectsOf) (pass pass' : PassOf) (objects_pass objects_pass' : ObjectsPass) : Type 0 where
  pub of_timers : IsPassOf timers pass'
  pub keeps : KeepsPass pass.known pass'.known
  pub of_objects : IsObjectsPass objects objects_pass'
  pub goes_on : KeepsObjectsPass objects_pass objects_pass'

-- a pass has taken in another: it has seen all that either had seen, and has as its own what either had made
pub record HasHeard {E : Type 0} (first second new : Pass E) : Type 0 where
  pub own : GoesOn first.seen new.seen
  pub other : GoesOn second.seen new.seen
  pub mine : new.mine ≡ first.mine ++ second.mine
  pub id : new.id ≡ after_retire first.id second.id

-- a call has left both passes as they were, but for what they have seen and made since
abbrev pub KeepsBoth : Caller → Caller → Type 0
KeepsBoth old new = KeepsPass old.timers new.timers × KeepsObjectsPass old.objects new.objects

-- an object was in a state when an entry was made, which then stands last among those that the pass has seen
pub record EndsWith (p q : ObjectsPass) (id : ℕ) : Type 0 where
  pub state : Object
  pub entry : Entry ObjectCall ObjectReply
  pub before : List (Entry ObjectCall ObjectReply)
  pub seen : Begins (seen_of p id) before
  pub at : StateAfter object_meaning p.knows.opening id before state
  pub last : seen_of q id ≡ before ++ entry ∷ []

-- a POSIX timer's signal is pending, and the overrun is by the periods that have passed at this reading
pub record HasSignal (object : Object) (reading : ClockReading) (n : ℕ) : Type 0 where
  pub timer : PosixTimer
  pub is : posix_in object ≡ Some timer
  pub pending : timer.pending ≡ true
  pub overrun : n ≡ overrun_of (periods_in timer.phase timer.interval reading)

-- A call reads a descriptor at this reading: the count is all that it had counted, and the periods that had passed. None is left in the state after it.
pub record HasCounted (object : Object) (call : ObjectCall) (reading : ClockReading) (n : ℕ) : Type 0 where
  pub arm : Arm
  pub is_read : call ≡ calls.Read reading arm
  pub descriptor : Descriptor
  pub is : object ≡ objects.Fd descriptor
  pub total : n ≡ total_in descriptor reading
  pub left : (fd_read descriptor reading arm).count ≡ 0

-- a signal was accepted at this reading: it was pending in the state before the call
pub record GetsSignal (p q : ObjectsPass) (id : ℕ) (reading : ClockReading) (n : ℕ) : Type 0 where
  pub ends : EndsWith p q id
  pub had : HasSignal ends.state reading n

-- a count was read at this reading, of the state before the call
pub record TakesCount (p q : ObjectsPass) (id : ℕ) (reading : ClockReading) (n : ℕ) : Type 0 where
  pub ends : EndsWith p q id
  pub had : HasCounted ends.state ends.entry.call reading n

-- what an acceptance answers
abbrev pub AcceptFits : ObjectsPass → ObjectsPass → ℕ → ClockReading → AcceptAnswer → Type 0
AcceptFits p q id reading (acceptances.Accepted overrun) = GetsSignal p q id reading overrun
AcceptFits p q id reading acceptances.NoSignal = length q.knows.pass.mine ≡ length p.knows.pass.mine + 1
AcceptFits p q id reading (acceptances.Spent n) = (n ≡ length (seen_of q id)) × (q.knows.pass.mine ≡ p.knows.pass.mine)

-- what a read answers
abbrev pub ReadFits : ObjectsPass → ObjectsPass → ℕ → ClockReading → ReadAnswer → Type 0
ReadFits p q id reading (reads.Count total) = TakesCount p q id reading total
ReadFits p q id reading reads.ShortBuffer = q ≡ p
ReadFits p q id reading (reads.Spent n) = (n ≡ length (seen_of q id)) × (q.knows.pass.mine ≡ p.knows.pass.mine)
ReadFits p q id reading reads.Canceled = length q.knows.pass.mine ≡ length p.knows.pass.mine + 1
ReadFits p q id reading reads.Again = length q.knows.pass.mine ≡ length p.knows.pass.mine + 1

-- what a read that waits answers
abbrev pub WaitFits : ObjectsPass → ObjectsPass → ℕ → ClockReading → BlockingRead → Type 0
WaitFits p q id reading (blocking.Count total) = (0 < total) × TakesCount p q id reading total
WaitFits p q id reading blocking.Zero = length q.knows.pass.mine ≡ length p.knows.pass.mine + 1
WaitFits p q id reading blocking.ShortBuffer = q ≡ p
WaitFits p q id reading (blocking.Spent n) = (n ≡ length (seen_of q id)) × (q.knows.pass.mine ≡ p.knows.pass.mine)
WaitFits p q id reading blocking.Canceled = length q.knows.pass.mine ≡ length p.knows.pass.mine + 1

-- a reader that began with all that a pass had seen was told this, and the pass has then seen all that the reader had
pub record ReadBeside (p q : ObjectsPass) (id : ℕ) (reading : ClockReading) (a : ReadAnswer) : Type 0 where
  pub began : ObjectsPass
  pub ended : ObjectsPass
  pub from : began.knows.pass.seen ≡ p.knows.pass.seen
  pub fits : ReadFits began ended id reading a
  pub heard : GoesOn ended.knows.pass.seen q.knows.pass.seen
