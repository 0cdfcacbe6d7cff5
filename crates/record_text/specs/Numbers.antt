-- The numbers of a record's lines, and that a program can hold them.
use Rattle.std.specs.Prelude.{ℕ, ◌≡◌, ◌<◌, ◌^◌, List, [], ◌∷◌}
use Rattle.std.specs.List.{AllByRecursion}
use Rattle.seq_timer.specs.declared.standing.BaseEvent.{BaseEvent}
use Rattle.seq_timer.specs.declared.standing.BaseEvent.TheVariants as shifts
use Rattle.seq_timer.specs.declared.event.EventBy.{EventBy}
use Rattle.seq_timer.specs.declared.event.EventBy.TheVariants as events
use Rattle.seq_timer.specs.declared.event.Reply.{Reply}
use Rattle.seq_timer.specs.declared.event.Reply.TheVariants as replies
use Rattle.record_text.specs.declared.record.Entry.{Entry}
use Rattle.record_text.specs.declared.record.CallbackReply.{CallbackReply}
use Rattle.record_text.specs.declared.record.CallbackReply.TheVariants as told
use Rattle.record_text.specs.declared.record.Armed.{Armed}
use Rattle.record_text.specs.declared.record.Armed.TheVariants as arms
use Rattle.record_text.specs.declared.record.ObjectEntry.{ObjectEntry}
use Rattle.record_text.specs.declared.record.ObjectEntry.TheVariants as object_entries
use Rattle.record_text.specs.declared.record.TimerLine.{TimerLine}
use Rattle.record_text.specs.declared.record.RunRecord.{RunRecord}
use Rattle.record_text.specs.Replies.{answer_of_accept, answer_of_interrupt, answer_of_read, answer_of_settime, answer_of_sleep}
use Rattle.record_text.specs.Answers.{answer_numbers}
use Rattle.record_text.specs.Text.{RecordLine, Heading, OfClock, OfBase, OfTimer, OfLook, OfObject, OfSkip, OfCall, End, entry_numbers, write_ns, record_lines}

-- the numbers of what happened to a base
abbrev pub shift_numbers : BaseEvent → List ℕ
shift_numbers (shifts.Offline heir) = heir ∷ []
shift_numbers shifts.Online = []

-- the numbers of what a callback was told
abbrev pub told_numbers : CallbackReply → List ℕ
told_numbers (told.Running generation) = generation ∷ []
told_numbers (told.Armed generation) = generation ∷ []
told_numbers told.Spent = []

-- the generation that a call armed, or 0
abbrev pub armed_number : Armed → ℕ
armed_number arms.None = 0
armed_number (arms.Generation generation) = generation
armed_number arms.Unarmed = 0

-- the numbers of an entry of a sleeper's call, and none of another
abbrev pub sleeping_numbers : ObjectEntry → List ℕ
sleeping_numbers (object_entries.Sleep flags time reading arm reply) = flags ∷ time ∷ reading ∷ armed_number arm ∷ answer_numbers (answer_of_sleep reply)
sleeping_numbers (object_entries.Interrupt reading reply) = reading ∷ answer_numbers (answer_of_interrupt reply)
sleeping_numbers other = []

-- the numbers of an entry of a call that arms an expired timer again, and of another those of a sleeper's call
abbrev pub rearming_numbers : ObjectEntry → List ℕ
rearming_numbers (object_entries.Accept reading arm reply) = reading ∷ armed_number arm ∷ answer_numbers (answer_of_accept reply)
rearming_numbers (object_entries.Read reading arm reply) = reading ∷ armed_number arm ∷ answer_numbers (answer_of_read reply)
rearming_numbers (object_entries.Gettime reading arm left interval) = reading ∷ armed_number arm ∷ left ∷ interval ∷ []
rearming_numbers other = sleeping_numbers other

-- the numbers of an object's entry
abbrev pub object_entry_numbers : ObjectEntry → List ℕ
object_entry_numbers (object_entries.Settime flags value interval reading arm reply) =
    flags ∷ value ∷ interval ∷ reading ∷ armed_number arm ∷ answer_numbers (answer_of_settime reply)
object_entry_numbers (object_entries.Trigger generation reading counted) = generation ∷ reading ∷ []
object_entry_numbers (object_entries.Overflow generation reading) = generation ∷ reading ∷ []
object_entry_numbers other = rearming_numbers other

-- the numbers of a line, also those that a text of version 1 does not show
abbrev pub numbers_of : RecordLine → List ℕ
numbers_of Heading = []
numbers_of (OfClock number w) = number ∷ w.label.lane ∷ w.label.call ∷ write_ns w.write ∷ w.mono ∷ w.real ∷ w.boot ∷ w.changes ∷ []
numbers_of (OfBase base number line) = base ∷ number ∷ line.label.lane ∷ line.label.call ∷ shift_numbers line.event
numbers_of (OfTimer timer number label entry) = timer ∷ number ∷ label.lane ∷ label.call ∷ entry_numbers entry
numbers_of (OfLook timer number look) = timer ∷ number ∷ look.label.lane ∷ look.label.call ∷ told_numbers look.reply
numbers_of (OfObject object number label entry) = object ∷ number ∷ label.lane ∷ label.call ∷ object_entry_numbers entry
numbers_of (OfSkip object number skip) = object ∷ number ∷ skip.label.lane ∷ skip.label.call ∷ skip.generation ∷ []
numbers_of (OfCall lane call answer) = lane ∷ call ∷ answer_numbers answer
numbers_of End = []

-- numbers of at most 128 bits, the widest that a program has
abbrev pub AreMachineNumbers : List ℕ → Type 0
AreMachineNumbers ns = AllByRecursion (λ n. n < 2 ^ 128) ns

-- each number of these lines is one that a program can hold
abbrev pub HaveMachineNumbers : List RecordLine → Type 0
HaveMachineNumbers ls = AllByRecursion (λ l. AreMachineNumbers (numbers_of l)) ls

-- each number of the record's lines is one that a program can hold
abbrev pub HasMachineNumbers : RunRecord → Type 0
HasMachineNumbers r = HaveMachineNumbers (record_lines r)

-- an event asks for no slack
abbrev pub AsksNoSlack : {R : Type 0} → EventBy R → Type 0
AsksNoSlack (events.Start asked) = asked.slack ≡ 0
AsksNoSlack other = Unit {0}

-- a reply that tells of both expiries tells that they are one
abbrev pub ShowsNoSlack : Reply → Type 0
ShowsNoSlack (replies.Start placement was_armed) = placement.soft ≡ placement.expires
ShowsNoSlack (replies.Forward moved) = moved.soft ≡ moved.expires
ShowsNoSlack other = Unit {0}

-- an entry has no slack: one that starts or forwards the timer leaves its soft expiry at its expiry
abbrev pub EntryHasNoSlack : Entry → Type 0
EntryHasNoSlack e = AsksNoSlack e.event × ShowsNoSlack e.reply

-- no entry of a timer has slack
abbrev pub HaveNoSlack : List TimerLine → Type 0
HaveNoSlack lines = AllByRecursion (λ line. EntryHasNoSlack line.entry) lines

-- no entry of the record has slack
abbrev pub HasNoSlack : RunRecord → Type 0
HasNoSlack r = AllByRecursion HaveNoSlack r.timers

-- a reply is one that the event has
abbrev pub IsReplyTo : {R : Type 0} → EventBy R → Reply → Type 0
IsReplyTo (events.Out base) (replies.Out was_armed) = Unit {0}
IsReplyTo (events.Start asked) (replies.Start placement was_armed) = Unit {0}
IsReplyTo events.Cancel (replies.Cancel generation) = Unit {0}
IsReplyTo (events.Claim base reading) (replies.Claim generation) = Unit {0}
IsReplyTo (events.Forward reading interval) (replies.Forward moved) = Unit {0}
IsReplyTo (events.Finish restart) (replies.Finish generation restarted) = Unit {0}
IsReplyTo event reply = ⊥

-- the reply of each entry of a timer is one that its event has
abbrev pub HaveReplies : List TimerLine → Type 0
HaveReplies lines = AllByRecursion (λ line. IsReplyTo line.entry.event line.entry.reply) lines

-- the reply of each entry of the record's timers is one that its event has
abbrev pub HasReplies : RunRecord → Type 0
HasReplies r = AllByRecursion HaveReplies r.timers
