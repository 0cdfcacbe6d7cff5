-- Short words for scripts and records of few calls.
use Rattle.std.specs.Prelude.{ℕ, ◌+◌, Bool, true, false, Some, List, [], ◌∷◌, map, replicate}
use Rattle.ktime.specs.declared.write.Write.TheVariants as writes
use Rattle.ktime.specs.declared.clock_id.ClockId.TheVariants as clocks
use Rattle.ktime.specs.declared.mode.Mode.{Mode}
use Rattle.ktime.specs.declared.mode.Mode.TheVariants as modes
use Rattle.seq_timer.specs.declared.context.Context.TheVariants as contexts
use Rattle.record_text.specs.declared.record.AcceptReply.TheVariants as acceptances
use Rattle.record_text.specs.declared.record.Answer.{Answer}
use Rattle.record_text.specs.declared.record.Answer.TheVariants as answers
use Rattle.record_text.specs.declared.record.BaseLine.{BaseLine}
use Rattle.record_text.specs.declared.record.ClockLine.{ClockLine}
use Rattle.seq_timer.specs.declared.event.EventBy.TheVariants as events
use Rattle.seq_timer.specs.declared.event.Reply.TheVariants as replies
use Rattle.record_text.specs.declared.record.Entry.{Entry}
use Rattle.record_text.specs.declared.record.Label.{Label}
use Rattle.record_text.specs.declared.record.Armed.TheVariants as armings
use Rattle.record_text.specs.declared.record.ObjectEntry.{ObjectEntry}
use Rattle.record_text.specs.declared.record.ObjectEntry.TheVariants as object_entries
use Rattle.record_text.specs.declared.record.SettimeReply.TheVariants as settings
use Rattle.record_text.specs.declared.record.ObjectLine.{ObjectLine}
use Rattle.seq_timer.specs.declared.event.Restarted.TheVariants as restarts
use Rattle.seq_timer.specs.declared.standing.BaseEvent.{BaseEvent}
use Rattle.record_text.specs.declared.record.RunRecord.{RunRecord}
use Rattle.record_text.specs.declared.record.TimerLine.{TimerLine}
use Rattle.record_text.specs.declared.version.Version.{Version}
use Rattle.record_text.specs.declared.version.Version.TheVariants as versions
use Rattle.script_text.specs.declared.script.Call.{Call}
use Rattle.script_text.specs.declared.script.Call.TheVariants as calls
use Rattle.script_text.specs.declared.script.Callback.{Callback}
use Rattle.script_text.specs.declared.script.Kind.{Kind}
use Rattle.script_text.specs.declared.script.Kind.TheVariants as kinds
use Rattle.script_text.specs.declared.script.LaneCall.{LaneCall}
use Rattle.script_text.specs.declared.script.Script.{Script}
use Rattle.script_text.specs.Declarations.{without_slack}

-- a raw timer of the hard context
abbrev pub hard_raw : Callback → Kind
hard_raw callback = kinds.Raw contexts.Hard callback

-- a start of a timer without a slack
abbrev pub case_start : ℕ → Mode → ℕ → ℕ → Call
case_start timer mode ns base = calls.Start timer (without_slack mode ns base)

-- a start of a timer on base 0 at a time of its clock or as much later as the slack allows
abbrev pub slack_start : ℕ → ℕ → ℕ → Call
slack_start timer ns slack = calls.Start timer (record { mode = modes.Abs; ns = ns; slack = Some slack; base = 0 })

-- a hard expiry run on a base that claims at most so many timers
abbrev pub hard_expire : ℕ → ℕ → Call
hard_expire base budget = calls.Expire contexts.Hard base budget

-- a call of a lane
abbrev pub by : ℕ → Call → LaneCall
by lane call = record { lane = lane; call = call }

-- a script of a version with such timers on the monotonic clock, each history of a hundred entries, and these rounds
abbrev pub case_script_in : Version → ℕ → ℕ → List Kind → List (List LaneCall) → Script
case_script_in version bases lanes kinds rounds = record {
  version = version;
  bases = bases;
  lanes = lanes;
  limit = 100;
  timers = map (λ kind. record { clock = clocks.Monotonic; kind = kind }) kinds;
  rounds = map (λ calls. record { calls = calls }) rounds;
}

-- the same of version 1
abbrev pub case_script : ℕ → ℕ → List Kind → List (List LaneCall) → Script
case_script bases lanes kinds rounds = case_script_in versions.One bases lanes kinds rounds

-- the label of a lane's call
abbrev pub at : ℕ → ℕ → Label
at lane call = record { lane = lane; call = call }

-- an entry of a timer that a lane's call made, with no look under it
abbrev pub line : ℕ → ℕ → Entry → TimerLine
line lane call entry = record { label = at lane call; entry = entry; looks = [] }

-- the entry of a move off a base
abbrev pub out_entry : ℕ → Bool → Entry
out_entry base was_armed = record { event = events.Out base; reply = replies.Out was_armed }

-- the entry of a cancel
abbrev pub cancel_entry : ℕ → Entry
cancel_entry generation = record { event = events.Cancel; reply = replies.Cancel generation }

-- the entry of a claim
abbrev pub claim_entry : ℕ → ℕ → ℕ → Entry
claim_entry base reading generation = record { event = events.Claim base reading; reply = replies.Claim generation }

-- the entry of a finish that doesn't arm the timer again
abbrev pub finish_entry : Bool → ℕ → Entry
finish_entry restart generation = record { event = events.Finish restart; reply = replies.Finish generation restarts.No }

-- the entry of a start without a slack: what was asked for by the reading of a stamp, the base, the expiry that came of it, and whether the timer
-- was armed before
abbrev pub case_start_entry : Mode → ℕ → ℕ → ℕ → ℕ → ℕ → Bool → Entry
case_start_entry mode ns reading asked base expires was_armed = record {
  event = events.Start (record { mode = mode; ns = ns; slack = 0; reading = reading; base = asked });
  reply = replies.Start (record { base = base; clock = clocks.Monotonic; soft = expires; expires = expires }) was_armed;
}

-- a start on base 0 of a timer that wasn't armed, with the expiry that came of it
abbrev pub start : Mode → ℕ → ℕ → Entry
start mode ns expires = case_start_entry mode ns 0 0 0 expires false

-- the entry of a start with a slack by the first reading: the timer wasn't armed, and has a soft expiry and a hard one
abbrev pub slack_entry : ℕ → ℕ → Entry
slack_entry ns slack = record {
  event = events.Start (record { mode = modes.Abs; ns = ns; slack = slack; reading = 0; base = 0 });
  reply = replies.Start (record { base = 0; clock = clocks.Monotonic; soft = ns; expires = ns + slack }) false;
}

-- the claim that a lane's call made of a timer's first generation, by the first reading, and the finish
abbrev pub claim_lines : ℕ → ℕ → List TimerLine
claim_lines lane call = line lane call (claim_entry 0 0 1) ∷ line lane call (finish_entry false 1) ∷ []

-- the lines of a timer that this call of lane 0 starts, and that a call of a lane then claims, by the reading of this stamp
abbrev pub claimed_by : ℕ → ℕ → ℕ → ℕ → ℕ → List TimerLine
claimed_by call ns lane other stamp =
    line 0 call (start modes.Abs ns ns) ∷ line lane other (claim_entry 0 stamp 1) ∷ line lane other (finish_entry false 1) ∷ []

-- the clock's first write, which a lane's call made: it let so many nanoseconds pass
abbrev pub advance_line : ℕ → ℕ → ℕ → ClockLine
advance_line lane call ns = record { label = at lane call; write = writes.Advance ns; mono = ns; real = ns; boot = ns; changes = 0 }

-- an entry of a base that a call of lane 0 made
abbrev pub base_entry_line : ℕ → BaseEvent → BaseLine
base_entry_line call event = record { label = at 0 call; event = event }

-- a record of version 2 of timers by themselves, which has no objects, with these entries of bases, and in which no time passes
abbrev pub off_line_record : List (List BaseLine) → List (List TimerLine) → List Answer → RunRecord
off_line_record bases timers answers = record {
  version = versions.Two;
  clock = [];
  bases = bases;
  timers = timers;
  objects = map (λ lines. []) timers;
  answers = answers ∷ [];
}

-- a record of a version of timers by themselves, which has no objects, on one base that stays on line
abbrev pub case_record_in : Version → List ClockLine → List (List TimerLine) → List (List Answer) → RunRecord
case_record_in version clock timers answers = record {
  version = version;
  clock = clock;
  bases = [] ∷ [];
  timers = timers;
  objects = map (λ lines. []) timers;
  answers = answers;
}

-- the same of version 1
abbrev pub raw_record : List ClockLine → List (List TimerLine) → List (List Answer) → RunRecord
raw_record clock timers answers = case_record_in versions.One clock timers answers

-- an entry of an object that a lane's call made
abbrev pub case_object_line : ℕ → ℕ → ObjectEntry → ObjectLine
case_object_line lane call entry = record { label = at lane call; entry = entry; skips = [] }

-- a settime of a timer to an absolute time, once
abbrev pub settime_of : ℕ → ℕ → Call
settime_of timer value = calls.Settime timer 1 (record { sec = 0; nsec = value }) (record { sec = 0; nsec = 0 })

-- one of timer 0
abbrev pub settime_to : ℕ → Call
settime_to value = settime_of 0 value

-- the start that it makes by the reading of a stamp, and its entry
abbrev pub set_start : ℕ → ℕ → Bool → Entry
set_start value stamp was_armed = case_start_entry modes.Abs value stamp 0 0 value was_armed

-- the entry that it makes: the value, the stamp of its reading, the generation that it armed, and what was left before
abbrev pub set_entry_of : ℕ → ℕ → ℕ → ℕ → ObjectEntry
set_entry_of value stamp generation left = object_entries.Settime 1 value 0 stamp (armings.Generation generation) (settings.Old left 0)

-- a record of version 1 of timers and their objects, on one base that stays on line
abbrev pub object_record : List ClockLine → List (List TimerLine) → List (List ObjectLine) → List (List Answer) → RunRecord
object_record clock timers objects answers = record {
  version = versions.One;
  clock = clock;
  bases = [] ∷ [];
  timers = timers;
  objects = objects;
  answers = answers;
}

-- a sleep of timer 0, of so many nanoseconds or up to that time
abbrev pub sleep_of : ℕ → ℕ → Call
sleep_of flags ns = calls.Sleep 0 flags (record { sec = 0; nsec = ns })

-- a script of version 2 with one sleeper, one lane and these calls
abbrev pub sleeper_script : List Call → Script
sleeper_script called = case_script_in versions.Two 1 1 (kinds.Sleeper 0 ∷ []) (map (by 0) called ∷ [])

-- its record
abbrev pub sleeper_record : List ClockLine → List TimerLine → List ObjectLine → List Answer → RunRecord
sleeper_record clock timers objects answers =
    record (object_record clock (timers ∷ []) (objects ∷ []) (answers ∷ [])) { version = versions.Two }

-- a script of version 2 with so many queued timers, one lane and these calls
abbrev pub queued_script : ℕ → List Call → Script
queued_script timers called = case_script_in versions.Two 1 1 (replicate timers (kinds.Queued 0)) (map (by 0) called ∷ [])

-- its record
abbrev pub queued_record : List ClockLine → List (List TimerLine) → List (List ObjectLine) → List Answer → RunRecord
queued_record clock timers objects answers = record (object_record clock timers objects (answers ∷ [])) { version = versions.Two }

-- the entry of an expiry that counted, of this generation by the reading of this stamp
abbrev pub counted_entry : ℕ → ℕ → ObjectEntry
counted_entry generation reading = object_entries.Trigger generation reading true

-- the entry of a signal's acceptance by the reading of a stamp, with no period passed
abbrev pub accepted_entry : ℕ → ObjectEntry
accepted_entry reading = object_entries.Accept reading armings.None (acceptances.Accepted 0)

-- a script of a queued timer that is set and expires, and of these calls behind that
abbrev pub expired_script : List Call → Script
expired_script called = queued_script 1 (settime_to 100 ∷ calls.Clock (writes.Advance 100) ∷ hard_expire 0 4 ∷ called)

-- its record, by the expiry's entry of the timer's object, the entries behind it, and the answers of those calls
abbrev pub expired_record : ObjectEntry → List ObjectLine → List Answer → RunRecord
expired_record expiry lines told = queued_record (advance_line 0 1 100 ∷ []) (claimed_by 0 100 0 2 1 ∷ [])
    ((case_object_line 0 0 (set_entry_of 100 0 1 0) ∷ case_object_line 0 2 expiry ∷ lines) ∷ [])
    (answers.Old 0 0 ∷ answers.Clock 1 ∷ answers.Done 1 (0 ∷ []) ∷ told)
