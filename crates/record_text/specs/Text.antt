-- The text of a record: its lines in their order, the words of each line, and their bytes.
use Rattle.std.specs.Prelude.{ℕ, ◌+◌, List, [], ◌∷◌, ◌++◌, map, flat_map, Bool, if◌then◌else◌, codes}
use Rattle.std.specs.Fmt.{decimal}
use Rattle.ktime.specs.declared.write.Write.{Write}
use Rattle.ktime.specs.declared.write.Write.TheVariants as writes
use Rattle.record_text.specs.declared.record.Label.{Label}
use Rattle.record_text.specs.declared.record.ClockLine.{ClockLine}
use Rattle.record_text.specs.declared.record.BaseLine.{BaseLine}
use Rattle.seq_timer.specs.declared.standing.BaseEvent.{BaseEvent}
use Rattle.seq_timer.specs.declared.standing.BaseEvent.TheVariants as shifts
use Rattle.seq_timer.specs.declared.event.EventBy.{EventBy}
use Rattle.seq_timer.specs.declared.event.EventBy.TheVariants as events
use Rattle.seq_timer.specs.declared.event.Reply.{Reply}
use Rattle.seq_timer.specs.declared.event.Reply.TheVariants as replies
use Rattle.seq_timer.specs.declared.event.Restarted.{Restarted}
use Rattle.seq_timer.specs.declared.event.Restarted.TheVariants as restarts
use Rattle.record_text.specs.declared.record.Entry.{Entry}
use Rattle.record_text.specs.declared.record.CallbackReply.{CallbackReply}
use Rattle.record_text.specs.declared.record.CallbackReply.TheVariants as told
use Rattle.record_text.specs.declared.record.Look.{Look}
use Rattle.record_text.specs.declared.record.TimerLine.{TimerLine}
use Rattle.record_text.specs.declared.record.Armed.{Armed}
use Rattle.record_text.specs.declared.record.Armed.TheVariants as arms
use Rattle.record_text.specs.declared.record.ObjectEntry.{ObjectEntry}
use Rattle.record_text.specs.declared.record.ObjectEntry.TheVariants as object_entries
use Rattle.record_text.specs.declared.record.Skip.{Skip}
use Rattle.record_text.specs.declared.record.ObjectLine.{ObjectLine}
use Rattle.record_text.specs.declared.record.Answer.{Answer}
use Rattle.record_text.specs.declared.record.RunRecord.{RunRecord}
use Rattle.record_text.specs.declared.version.Version.{Version}
use Rattle.record_text.specs.declared.version.Version.TheVariants as versions
use Rattle.record_text.specs.Replies.{answer_of_accept, answer_of_interrupt, answer_of_read, answer_of_settime, answer_of_sleep}
use Rattle.record_text.specs.Words.{clock_word, flag, mode_word, version_word}
use Rattle.record_text.specs.Answers.{answer_words}

-- a line of a record's text, with the numbers that it begins with: of a write; of a base, a timer or an object, and its entry; of a lane and
-- its call
pub data RecordLine : Type 0 where
  Heading : RecordLine
  OfClock : (number : ℕ) (written : ClockLine) → RecordLine
  OfBase : (base number : ℕ) (line : BaseLine) → RecordLine
  OfTimer : (timer number : ℕ) (label : Label) (entry : Entry) → RecordLine
  OfLook : (timer number : ℕ) (look : Look) → RecordLine
  OfObject : (object number : ℕ) (label : Label) (entry : ObjectEntry) → RecordLine
  OfSkip : (object number : ℕ) (skip : Skip) → RecordLine
  OfCall : (lane call : ℕ) (answer : Answer) → RecordLine
  End : RecordLine

-- the lines of each item in turn, the items numbered on from a number
abbrev pub numbered : {X : Type 0} → (ℕ → X → List RecordLine) → ℕ → List X → List RecordLine
numbered lines number [] = []
numbered lines number (x ∷ xs) = lines number x ++ numbered lines (number + 1) xs

-- the lines of the items of lists: the lists numbered on from a number, the items of each from `first`
abbrev pub lines_in_lists : {X : Type 0} → (ℕ → ℕ → X → List RecordLine) → ℕ → ℕ → List (List X) → List RecordLine
lines_in_lists lines first list xss = numbered (λ l xs. numbered (lines l) first xs) list xss

-- the lines of the clock's writes, numbered on from a number
abbrev pub clock_lines : ℕ → List ClockLine → List RecordLine
clock_lines number ws = numbered (λ n w. OfClock n w ∷ []) number ws

-- the lines of the bases, numbered on from a number; the entries of each are numbered from 1
abbrev pub base_lines : ℕ → List (List BaseLine) → List RecordLine
base_lines base lists = lines_in_lists (λ b number line. OfBase b number line ∷ []) 1 base lists

-- the line of an entry, and after it those of what callbacks were told there
abbrev pub entry_and_looks : ℕ → ℕ → TimerLine → List RecordLine
entry_and_looks timer number t = OfTimer timer number t.label t.entry ∷ map (OfLook timer number) t.looks

-- the lines of the timers, numbered on from a number; the entries of each are numbered from 1
abbrev pub timer_lines : ℕ → List (List TimerLine) → List RecordLine
timer_lines timer tss = lines_in_lists entry_and_looks 1 timer tss

-- the line of an object's entry, and after it those of the expiries that were refused there
abbrev pub object_entry_and_skips : ℕ → ℕ → ObjectLine → List RecordLine
object_entry_and_skips object number o = OfObject object number o.label o.entry ∷ map (OfSkip object number) o.skips

-- the lines of the objects, numbered on from a number; the entries of each are numbered from 1
abbrev pub object_lines : ℕ → List (List ObjectLine) → List RecordLine
object_lines object oss = lines_in_lists object_entry_and_skips 1 object oss

-- the lines of the lanes, numbered on from a number; the calls of each are numbered from 0
abbrev pub lane_lines : ℕ → List (List Answer) → List RecordLine
lane_lines lane lanes = lines_in_lists (λ l call answer. OfCall l call answer ∷ []) 0 lane lanes

-- the lines of a record from those of the timers on
abbrev pub lines_from_timers : RunRecord → List RecordLine
lines_from_timers r = timer_lines 0 r.timers ++ (object_lines 0 r.objects ++ (lane_lines 0 r.answers ++ End ∷ []))

-- the lines of a record
abbrev pub record_lines : RunRecord → List RecordLine
record_lines r = Heading ∷ (clock_lines 1 r.clock ++ (base_lines 0 r.bases ++ lines_from_timers r))

-- the kind of a write
abbrev pub write_name : Write → List ℕ
write_name (writes.Advance by) = codes "advance"
write_name (writes.Set to) = codes "set"
write_name (writes.Suspend by) = codes "suspend"

-- the time that a write is made with
abbrev pub write_ns : Write → ℕ
write_ns (writes.Advance by) = by
write_ns (writes.Set to) = to
write_ns (writes.Suspend by) = by

-- the words of what happened to a base
abbrev pub shift_words : BaseEvent → List (List ℕ)
shift_words (shifts.Offline heir) = codes "offline" ∷ decimal heir ∷ []
shift_words shifts.Online = codes "online" ∷ []

-- whether a callback asked for a restart
abbrev pub restart_word : Bool → List ℕ
restart_word asked = if asked then codes "again" else codes "stop"

-- what came of it: the new generation, none where the timer was not armed again by the finish, or spent where its history was full
abbrev pub restarted_word : Restarted → List ℕ
restarted_word restarts.No = codes "none"
restarted_word (restarts.Again generation) = decimal generation
restarted_word restarts.Spent = codes "spent"

-- the numbers of that word
abbrev pub restarted_numbers : Restarted → List ℕ
restarted_numbers restarts.No = []
restarted_numbers (restarts.Again generation) = generation ∷ []
restarted_numbers restarts.Spent = []

-- what a call made of its object's timer: the new generation, none where it wanted no start, or unarmed where its history was full
abbrev pub armed_word : Armed → List ℕ
armed_word arms.None = codes "none"
armed_word (arms.Generation generation) = decimal generation
armed_word arms.Unarmed = codes "unarmed"

-- whether an expiry counted
abbrev pub counted_word : Bool → List ℕ
counted_word counted = if counted then codes "counted" else codes "stale"

-- a part of an entry's line: a word with the numbers that it tells, or a number that tells of slack
pub data Part : Type 0 where
  Word : (word numbers : List ℕ) → Part
  Slack : (number : ℕ) → Part

-- a word that tells no number, and a number
abbrev pub plain : List ℕ → Part
plain word = Word word []

abbrev pub number : ℕ → Part
number n = Word (decimal n) (n ∷ [])

-- the words of a number that tells of slack; a text of version 1 does not show it
abbrev pub slack_words : Version → ℕ → List (List ℕ)
slack_words versions.One n = []
slack_words versions.Two n = decimal n ∷ []

-- parts in their words
abbrev pub words_of : Version → List Part → List (List ℕ)
words_of version [] = []
words_of version (Word word numbers ∷ parts) = word ∷ words_of version parts
words_of version (Slack n ∷ parts) = slack_words version n ++ words_of version parts

-- the numbers of parts, also those that are not shown
abbrev pub numbers_in : List Part → List ℕ
numbers_in [] = []
numbers_in (Word word numbers ∷ parts) = numbers ++ numbers_in parts
numbers_in (Slack n ∷ parts) = n ∷ numbers_in parts

-- the parts of an event
abbrev pub event_parts : EventBy ℕ → List Part
event_parts (events.Out base) = plain (codes "out") ∷ number base ∷ []
event_parts (events.Start a) = plain (codes "start") ∷ plain (mode_word a.mode) ∷ number a.ns ∷ Slack a.slack ∷ number a.reading ∷ number a.base ∷ []
event_parts events.Cancel = plain (codes "cancel") ∷ []
event_parts (events.Claim base reading) = plain (codes "claim") ∷ number base ∷ number reading ∷ []
event_parts (events.Forward reading interval) = plain (codes "forward") ∷ number reading ∷ number interval ∷ []
event_parts (events.Finish restart) = plain (codes "finish") ∷ plain (restart_word restart) ∷ []

-- the parts of a reply
abbrev pub reply_parts : Reply → List Part
reply_parts (replies.Out was_armed) = plain (flag was_armed) ∷ []
reply_parts (replies.Start p was_armed) =
    number p.base ∷ plain (clock_word p.clock) ∷ Slack p.soft ∷ number p.expires ∷ plain (flag was_armed) ∷ []
reply_parts (replies.Cancel generation) = number generation ∷ []
reply_parts (replies.Claim generation) = number generation ∷ []
reply_parts (replies.Forward moved) = number moved.count ∷ Slack moved.soft ∷ number moved.expires ∷ []
reply_parts (replies.Finish generation restarted) = number generation ∷ Word (restarted_word restarted) (restarted_numbers restarted) ∷ []

-- the words of an entry: what happened, and what it came to
abbrev pub entry_words : Version → Entry → List (List ℕ)
entry_words version e = words_of version (event_parts e.event) ++ words_of version (reply_parts e.reply)

-- the numbers of an entry
abbrev pub entry_numbers : Entry → List ℕ
entry_numbers e = numbers_in (event_parts e.event) ++ numbers_in (reply_parts e.reply)

-- the words of what a callback was told in place of an entry
abbrev pub told_words : CallbackReply → List (List ℕ)
told_words (told.Running generation) = codes "running" ∷ decimal generation ∷ []
told_words (told.Armed generation) = codes "armed" ∷ decimal generation ∷ []
told_words told.Spent = codes "spent" ∷ []

-- the words of an entry of a sleeper's call, and none of another
abbrev pub sleeping_words : ObjectEntry → List (List ℕ)
sleeping_words (object_entries.Sleep flags time reading arm reply) =
    codes "sleep" ∷ decimal flags ∷ decimal time ∷ decimal reading ∷ armed_word arm ∷ answer_words (answer_of_sleep reply)
sleeping_words (object_entries.Interrupt reading reply) = codes "interrupt" ∷ decimal reading ∷ answer_words (answer_of_interrupt reply)
sleeping_words other = []

-- the words of an entry of a call that arms an expired timer again, and of another those of a sleeper's call
abbrev pub rearming_words : ObjectEntry → List (List ℕ)
rearming_words (object_entries.Accept reading arm reply) = codes "accept" ∷ decimal reading ∷ armed_word arm ∷ answer_words (answer_of_accept reply)
rearming_words (object_entries.Read reading arm reply) = codes "read" ∷ decimal reading ∷ armed_word arm ∷ answer_words (answer_of_read reply)
rearming_words (object_entries.Gettime reading arm left interval) = codes "gettime" ∷ decimal reading ∷ armed_word arm ∷ decimal left ∷ decimal interval ∷ []
rearming_words other = sleeping_words other

-- the words of an object's entry
abbrev pub object_entry_words : ObjectEntry → List (List ℕ)
object_entry_words (object_entries.Settime flags value interval reading arm reply) =
    codes "settime" ∷ decimal flags ∷ decimal value ∷ decimal interval ∷ decimal reading ∷ armed_word arm ∷ answer_words (answer_of_settime reply)
object_entry_words (object_entries.Trigger generation reading counted) = codes "trigger" ∷ decimal generation ∷ decimal reading ∷ counted_word counted ∷ []
object_entry_words (object_entries.Overflow generation reading) = codes "trigger" ∷ decimal generation ∷ decimal reading ∷ codes "full" ∷ []
object_entry_words other = rearming_words other

-- the words of a line of a record of a version
abbrev pub line_words : Version → RecordLine → List (List ℕ)
line_words version Heading = codes "record" ∷ version_word version ∷ []
line_words version (OfClock number w) =
    codes "clock" ∷ decimal number ∷ decimal w.label.lane ∷ decimal w.label.call ∷ write_name w.write ∷ decimal
    (write_ns w.write) ∷ decimal w.mono ∷ decimal w.real ∷ decimal w.boot ∷ decimal w.changes ∷ []
line_words version (OfBase base number line) =
    codes "base" ∷ decimal base ∷ decimal number ∷ decimal line.label.lane ∷ decimal line.label.call ∷ shift_words line.event
line_words version (OfTimer timer number label entry) =
    codes "timer" ∷ decimal timer ∷ decimal number ∷ decimal label.lane ∷ decimal label.call ∷ entry_words version entry
line_words version (OfLook timer number look) =
    codes "look" ∷ decimal timer ∷ decimal number ∷ decimal look.label.lane ∷ decimal look.label.call ∷ told_words look.reply
line_words version (OfObject object number label entry) =
    codes "object" ∷ decimal object ∷ decimal number ∷ decimal label.lane ∷ decimal label.call ∷ object_entry_words entry
line_words version (OfSkip object number skip) =
    codes "skip" ∷ decimal object ∷ decimal number ∷ decimal skip.label.lane ∷ decimal skip.label.call ∷ decimal skip.generation ∷ []
line_words version (OfCall lane call answer) = codes "call" ∷ decimal lane ∷ decimal call ∷ answer_words answer
line_words version End = codes "end" ∷ []

-- each word after a space
abbrev pub spaced : List (List ℕ) → List ℕ
spaced [] = []
spaced (w ∷ ws) = 32 ∷ (w ++ spaced ws)

-- words with a space between each two
abbrev pub join_words : List (List ℕ) → List ℕ
join_words [] = []
join_words (w ∷ ws) = w ++ spaced ws

-- the bytes of a line: its words, and a newline
abbrev pub line_text : Version → RecordLine → List ℕ
line_text version l = join_words (line_words version l) ++ 10 ∷ []

-- the bytes of lines
abbrev pub lines_text : Version → List RecordLine → List ℕ
lines_text version ls = flat_map (line_text version) ls

-- the text of a record
abbrev pub text_of : RunRecord → List ℕ
text_of r = lines_text r.version (record_lines r)
