-- A read of a descriptor that waits until there is something to read.
use Rattle.std.specs.Prelude.{ℕ, ◌≡◌, ◌≤◌, ◌<◌, ◌+◌, zero, suc, true, List, [], ◌∷◌, ◌++◌, length}
use Rattle.std.specs.Prelude.{get_or}
use Rattle.ktime.specs.declared.clock_id.ClockId.TheVariants as clocks
use Rattle.ktime.specs.Readings.{ClockReading}
use Rattle.base_row.specs.declared.view.Opening.{Opening}
use Rattle.hr_timers.specs.Known.{KnownOfTimers}
use Rattle.ordered_clock.specs.Moments.{ReadsAt}
use Rattle.pass_names.specs.SharedHistory.{LooksOn}
use Rattle.timer_setting.specs.declared.answers.ReadAnswer.{ReadAnswer}
use Rattle.timer_setting.specs.declared.answers.ReadAnswer.TheVariants as reads
use Rattle.timer_setting.specs.declared.object_call.ObjectReply.TheVariants as replies
use Rattle.timer_fd.specs.States.{Descriptor, is_canceled, is_readable}
use Rattle.timer_fd.specs.Steps.{count_length, total_in}
use Rattle.timer_objects.specs.declared.answers.BlockingRead.{BlockingRead}
use Rattle.timer_objects.specs.declared.answers.BlockingRead.TheVariants as blocking
use Rattle.timer_objects.specs.declared.object.Decl.{Decl}
use Rattle.timer_objects.specs.declared.object.Kind.{Kind}
use Rattle.timer_objects.specs.declared.object.Kind.TheVariants as kinds
use Rattle.timer_objects.specs.declared.object.Object.{Object}
use Rattle.timer_objects.specs.declared.object.Object.TheVariants as objects
use Rattle.timer_setting.specs.declared.object_call.ObjectReply.{ObjectReply}
use Rattle.timer_objects.specs.declared.wanting.Ended.{Ended}
use Rattle.timer_objects.specs.declared.wanting.Ended.TheVariants as ends
use Rattle.timer_objects.specs.declared.wanting.Rearming.TheVariants as rearmings
use Rattle.timer_objects.specs.Calls.{Caller, FindsHistoryFull, LooksAtObject, RearmingMade}
use Rattle.timer_objects.specs.Known.{ObjectsOf, seen_of}
use Rattle.timer_objects.specs.Rearming.{MakesEntry, RepliesTo}
use Rattle.timer_objects.specs.Turns.{turns_told}

-- ---- readers

-- the kind of an object, by what the objects were declared with
abbrev pub kind_at : List Decl → ℕ → Kind
kind_at decls id = (get_or decls id (record { kind = kinds.Raw; clock = clocks.Monotonic; base = 0 })).kind

-- the number, where it is a descriptor's
abbrev pub if_descriptor : Kind → ℕ → List ℕ
if_descriptor kinds.Fd id = id ∷ []
if_descriptor kind id = []

-- the descriptors among the objects of a number below this one, in the order of their numbers
abbrev pub descriptors_below : List Decl → ℕ → List ℕ
descriptors_below decls zero = []
descriptors_below decls (suc n) = descriptors_below decls n ++ if_descriptor (kind_at decls n) n

-- ---- the read

-- The clock's reading has its place behind a moment at which an object had so many entries and no call had its turn: the clock had so many writes at a moment
-- after that.
pub record ReadsBehindLock (id entries stamp : ℕ) (old new : KnownOfTimers) : Type 0 where
  pub locked : KnownOfTimers
  pub looks : LooksOn old locked
  pub told : turns_told id locked ≡ entries + entries
  pub reads : ReadsAt locked.seen new.seen stamp

-- A read that made an entry at this reading, by the step of a read, and so answered; and the descriptor as it was before the entry, which had something
-- to read: an expiry, or that the clock was set. The reading has its place before the read's turn began.
pub record ReadsSome (x : ObjectsOf) (o : Opening) (old new : Caller) (id : ℕ) (reading : ClockReading) (a : ReadAnswer) : Type 0 where
  pub made : RearmingMade x o old new id rearmings.Reading reading (replies.Read a)
  pub descriptor : Descriptor
  pub found : made.enters.commits.state ≡ objects.Fd descriptor
  pub some : is_readable descriptor reading ≡ true
  pub taken : ReadsBehindLock id (length made.enters.commits.adds.before) reading.stamp old.timers made.begun

-- A read that waits: a buffer that is too short is refused first, and nothing is other than before; it is refused exactly where the object's history
-- is full; else it has read something. Where the clock was set back before the expiry that was counted, nothing is left to be told, and it answers zero.
abbrev pub ReadsBlocking : ObjectsOf → Opening → Caller → Caller → ℕ → ℕ → ClockReading → BlockingRead → Type 0
ReadsBlocking x o old new id len reading blocking.ShortBuffer = (len < count_length) × (new ≡ old)
ReadsBlocking x o old new id len reading (blocking.Spent n) = (count_length ≤ len) × FindsHistoryFull x old new id n
ReadsBlocking x o old new id len reading (blocking.Count total) =
    (count_length ≤ len) × (0 < total) × (r : ReadsSome x o old new id reading (reads.Count total)) × (total ≡ total_in r.descriptor reading)
ReadsBlocking x o old new id len reading blocking.Zero =
    (count_length ≤ len) × (r : ReadsSome x o old new id reading reads.Again) × (total_in r.descriptor reading ≡ 0)
ReadsBlocking x o old new id len reading blocking.Canceled =
    (count_length ≤ len) × (r : ReadsSome x o old new id reading reads.Canceled) × (is_canceled r.descriptor reading ≡ true)

-- ---- its tries

-- an object is a descriptor that has something to read
abbrev pub HasSome : ClockReading → Object → Type 0
HasSome reading object = (t : Descriptor) × (object ≡ objects.Fd t) × (is_readable t reading ≡ true)

-- Why a read waits: the descriptor was looked at while no call had its turn, its history has room, and at this reading, which has its place behind that, it
-- has nothing to read.
pub record FindsNothing (x : ObjectsOf) (old new : Caller) (id : ℕ) (reading : ClockReading) : Type 0 where
  pub object : Object
  pub stamp : ℕ
  pub looked : Caller
  pub looks : LooksAtObject old looked id object stamp
  pub reads : ReadsAt looked.timers.seen new.timers.seen reading.stamp
  pub same : new ≡ record looked { timers = new.timers }
  pub waited : LooksOn looked.timers new.timers
  pub room : stamp < x.limit
  pub none : HasSome reading object → ⊥

-- a try ended the read: its history was full, or an entry was made, of a descriptor that had something to read
abbrev pub EndsRead : ObjectsOf → Opening → Caller → Caller → ℕ → ClockReading → Ended → Type 0
EndsRead x o old new id reading (ends.Full n) = FindsHistoryFull x old new id n
EndsRead x o old new id reading (ends.Made n reply) =
    (made : MakesEntry x o old new id rearmings.Reading reading reply) × HasSome reading made.0.enters.commits.state
    × ReadsBehindLock id (length made.0.enters.commits.adds.before) reading.stamp old.timers made.0.begun × (n ≡ length (seen_of new.objects id))

-- ---- the answer

-- an entry that was made is a read's
abbrev pub EndedByRead : Ended → Type 0
EndedByRead (ends.Full n) = Unit {0}
EndedByRead (ends.Made n reply) = RepliesTo rearmings.Reading reply

-- what the entry's reply is told as
abbrev pub AnswersReply : ObjectReply → BlockingRead → Type 0
AnswersReply (replies.Read (reads.Count total)) a = a ≡ blocking.Count total
AnswersReply (replies.Read reads.Again) a = a ≡ blocking.Zero
AnswersReply (replies.Read reads.Canceled) a = a ≡ blocking.Canceled
AnswersReply reply a = ⊥

-- what a read that ended so answers
abbrev pub AnswersBy : Ended → BlockingRead → Type 0
AnswersBy (ends.Full n) a = a ≡ blocking.Spent n
AnswersBy (ends.Made n reply) a = AnswersReply reply a
