-- Scripts, each with a record that fits it.
use Rattle.std.specs.Prelude.{ℕ, true, false, List, [], ◌∷◌, ◌++◌, map}
use Rattle.ktime.specs.declared.clock_id.ClockId.TheVariants as clocks
use Rattle.ktime.specs.declared.mode.Mode.TheVariants as modes
use Rattle.ktime.specs.declared.write.Write.TheVariants as writes
use Rattle.record_text.specs.declared.record.AcceptReply.TheVariants as acceptances
use Rattle.seq_timer.specs.declared.context.Context.TheVariants as contexts
use Rattle.seq_timer.specs.declared.event.EventBy.TheVariants as events
use Rattle.seq_timer.specs.declared.event.Reply.TheVariants as start_replies
use Rattle.seq_timer.specs.declared.standing.BaseEvent.TheVariants as shifts
use Rattle.record_text.specs.declared.record.Answer.TheVariants as answers
use Rattle.record_text.specs.declared.record.Answer.{Answer}
use Rattle.record_text.specs.declared.record.Armed.TheVariants as armings
use Rattle.record_text.specs.declared.record.BaseLine.{BaseLine}
use Rattle.record_text.specs.declared.record.CallbackReply.TheVariants as replies
use Rattle.record_text.specs.declared.record.Entry.{Entry}
use Rattle.record_text.specs.declared.record.ObjectEntry.TheVariants as object_entries
use Rattle.record_text.specs.declared.record.ObjectEntry.{ObjectEntry}
use Rattle.record_text.specs.declared.record.ObjectLine.{ObjectLine}
use Rattle.record_text.specs.declared.record.InterruptReply.{InterruptReply}
use Rattle.record_text.specs.declared.record.InterruptReply.TheVariants as ended
use Rattle.record_text.specs.declared.record.ReadReply.TheVariants as reads
use Rattle.record_text.specs.declared.record.SleepReply.TheVariants as sleeps
use Rattle.record_text.specs.declared.record.RunRecord.{RunRecord}
use Rattle.record_text.specs.declared.record.SettimeReply.TheVariants as settings
use Rattle.record_text.specs.declared.record.TimerLine.{TimerLine}
use Rattle.record_text.specs.declared.version.Version.TheVariants as versions
use Rattle.script_text.specs.declared.script.Call.{Call}
use Rattle.script_text.specs.declared.script.Call.TheVariants as calls
use Rattle.script_text.specs.declared.script.Callback.TheVariants as callbacks
use Rattle.script_text.specs.declared.script.Kind.TheVariants as kinds
use Rattle.script_text.specs.declared.script.Script.{Script}
use Rattle.run_cases.specs.Lines.{accepted_entry, advance_line, at, base_entry_line, by, cancel_entry, case_object_line, case_record_in, case_script, case_script_in, case_start, case_start_entry, claim_entry, claim_lines, claimed_by, counted_entry, expired_record, expired_script, finish_entry, hard_expire, hard_raw, line, object_record, off_line_record, out_entry, queued_record, queued_script, raw_record, set_entry_of, set_start, settime_of, settime_to, slack_entry, slack_start, sleep_of, sleeper_record, sleeper_script, start}

-- ---- a timer is started, expires, is cancelled when it is idle, and is looked at

-- the script
abbrev pub idle_script : Script
idle_script = case_script 1 1 (hard_raw callbacks.Once ∷ []) ((by 0 (case_start 0 modes.Rel 100 0) ∷ by 0 (calls.Clock (writes.Advance 100))
    ∷ by 0 (hard_expire 0 4) ∷ by 0 (calls.Cancel 0) ∷ by 0 (calls.Peek 0) ∷ []) ∷ [])

-- its record
abbrev pub idle_record : RunRecord
idle_record = raw_record (record { label = at 0 1; write = writes.Advance 100; mono = 100; real = 100; boot = 100; changes = 0 } ∷ [])
    ((line 0 0 (start modes.Rel 100 100) ∷ line 0 2 (claim_entry 0 1 1) ∷ line 0 2 (finish_entry false 1) ∷ []) ∷ [])
    ((answers.Started 1 0 false ∷ answers.Clock 1 ∷ answers.Done 1 (0 ∷ []) ∷ answers.Idle 3 ∷ answers.Peek 3 0 false false false ∷ []) ∷ [])

-- ---- a lane cancels a timer beside another lane's expiry run

-- the script
abbrev pub beside_script : Script
beside_script = case_script 1 2 (hard_raw callbacks.Once ∷ [])
    ((by 0 (case_start 0 modes.Rel 0 0) ∷ []) ∷ (by 0 (calls.Cancel 0) ∷ by 1 (hard_expire 0 4) ∷ []) ∷ [])

-- the timer's lines, and what the cancel and the expiry run were answered
abbrev pub beside : List TimerLine → Answer → Answer → RunRecord
beside lines cancelled expired = raw_record [] ((line 0 0 (start modes.Rel 0 0) ∷ lines) ∷ [])
    ((answers.Started 1 0 false ∷ cancelled ∷ []) ∷ (expired ∷ []) ∷ [])

-- the cancel came first
abbrev pub cancelled_record : RunRecord
cancelled_record = beside (line 0 1 (cancel_entry 1) ∷ []) (answers.Cancelled 1) (answers.Done 0 [])

-- the timer's lines where it expired
abbrev pub expired_lines : List TimerLine
expired_lines = line 1 0 (claim_entry 0 0 1) ∷ line 1 0 (finish_entry false 1) ∷ []

-- the cancel came while the timer's function ran
abbrev pub running_record : RunRecord
running_record = beside expired_lines (answers.Running 1 2) (answers.Done 0 (0 ∷ []))

-- the cancel came when the function had run
abbrev pub late_record : RunRecord
late_record = beside expired_lines (answers.Idle 3) (answers.Done 0 (0 ∷ []))

-- ---- a callback is told that its own timer runs

-- the script
abbrev pub told_script : Script
told_script = case_script 1 1 (hard_raw callbacks.Cancels ∷ []) ((by 0 (case_start 0 modes.Rel 0 0) ∷ by 0 (hard_expire 0 1) ∷ []) ∷ [])

-- its record
abbrev pub told_record : RunRecord
told_record = raw_record [] ((line 0 0 (start modes.Rel 0 0) ∷ record {
  label = at 0 1;
  entry = claim_entry 0 0 1;
  looks = record { label = at 0 1; reply = replies.Running 1 } ∷ [];
} ∷ line 0 1 (finish_entry false 1) ∷ []) ∷ [])
    ((answers.Started 1 0 false ∷ answers.More 0 (0 ∷ []) ∷ []) ∷ [])

-- ---- a callback starts its own timer while it runs, and a later start moves the timer to another base

-- the script
abbrev pub moved_script : Script
moved_script = case_script 2 1 (hard_raw (callbacks.Starts 50 1) ∷ [])
    ((by 0 (case_start 0 modes.Abs 0 0) ∷ by 0 (hard_expire 0 1) ∷ by 0 (calls.Peek 0) ∷ by 0 (case_start 0 modes.Rel 70 1) ∷ []) ∷ [])

-- the start that the callback makes, which stays on base 0 as the timer runs there, and the one that moves it
abbrev pub kept_start : Entry
kept_start = case_start_entry modes.Rel 50 0 1 0 50 false

-- the start that moves it
abbrev pub moved_start : Entry
moved_start = case_start_entry modes.Rel 70 0 1 1 70 false

-- its record
abbrev pub moved_record : RunRecord
moved_record = record (raw_record [] ((line 0 0 (start modes.Abs 0 0) ∷ line 0 1 (claim_entry 0 0 1) ∷ line 0 1 kept_start
    ∷ line 0 1 (finish_entry true 1) ∷ line 0 3 (out_entry 1 true) ∷ line 0 3 moved_start ∷ []) ∷ [])
    ((answers.Started 1 0 false ∷ answers.More 0 (0 ∷ []) ∷ answers.Peek 4 0 true false false ∷ answers.Started 6 1 true ∷ []) ∷ [])) {
      bases = [] ∷ [] ∷ [];
    }

-- ---- a lane looks at a timer and then writes the clock, beside another lane's expiry run, which claims the timer by that write

-- the script
abbrev pub awaited_script : Script
awaited_script = case_script 1 2 (hard_raw callbacks.Once ∷ []) ((by 0 (case_start 0 modes.Rel 10 0) ∷ [])
    ∷ (by 0 (hard_expire 0 4) ∷ by 1 (calls.Peek 0) ∷ by 1 (calls.Clock (writes.Advance 20)) ∷ []) ∷ [])

-- what the look was answered, and all else
abbrev pub awaited_by : Answer → RunRecord
awaited_by looked = raw_record (advance_line 1 1 20 ∷ [])
    ((line 0 0 (start modes.Rel 10 10) ∷ line 0 1 (claim_entry 0 1 1) ∷ line 0 1 (finish_entry false 1) ∷ []) ∷ [])
    ((answers.Started 1 0 false ∷ answers.Done 1 (0 ∷ []) ∷ []) ∷ (looked ∷ answers.Clock 1 ∷ []) ∷ [])

-- its record: the look found the timer armed
abbrev pub awaited_record : RunRecord
awaited_record = awaited_by (answers.Peek 1 0 true false false)

-- ---- a lane looks at a timer and then writes the clock, beside another lane's start of it, which comes first

-- the script
abbrev pub started_script : Script
started_script = case_script 1 2 (hard_raw callbacks.Once ∷ [])
    ((by 0 (case_start 0 modes.Rel 10 0) ∷ by 1 (calls.Peek 0) ∷ by 1 (calls.Clock (writes.Advance 20)) ∷ []) ∷ [])

-- the start's entry, and all else
abbrev pub started_by : Entry → RunRecord
started_by entry = raw_record (advance_line 1 1 20 ∷ []) ((line 0 0 entry ∷ []) ∷ [])
    ((answers.Started 1 0 false ∷ []) ∷ (answers.Peek 1 0 true false false ∷ answers.Clock 1 ∷ []) ∷ [])

-- its record: the start was before the write
abbrev pub started_record : RunRecord
started_record = started_by (start modes.Rel 10 10)

-- ---- a lane looks at a timer and then has nothing to expire, beside another lane that writes the clock and then starts the timer

-- the script
abbrev pub nothing_script : Script
nothing_script = case_script 1 2 (hard_raw callbacks.Once ∷ [])
    ((by 0 (calls.Clock (writes.Advance 10)) ∷ by 0 (case_start 0 modes.Abs 5 0) ∷ by 1 (calls.Peek 0) ∷ by 1 (hard_expire 0 4) ∷ []) ∷ [])

-- what the look was answered, and all else
abbrev pub nothing_by : Answer → RunRecord
nothing_by looked = raw_record (advance_line 0 0 10 ∷ []) ((line 0 1 (case_start_entry modes.Abs 5 1 0 0 5 false) ∷ []) ∷ [])
    ((answers.Clock 1 ∷ answers.Started 1 0 false ∷ []) ∷ (looked ∷ answers.Done 0 [] ∷ []) ∷ [])

-- its record: the look was before the start
abbrev pub nothing_record : RunRecord
nothing_record = nothing_by (answers.Peek 0 0 false false false)

-- ---- a POSIX timer is set, expires, and has its signal accepted, which arms it again; a second acceptance finds none

-- the script
abbrev pub accepted_script : Script
accepted_script = case_script 1 1 (kinds.Posix 0 ∷ []) ((by 0 (calls.Settime 0 1 (record { sec = 0; nsec = 100 }) (record { sec = 0; nsec = 10 }))
    ∷ by 0 (calls.Clock (writes.Advance 100)) ∷ by 0 (hard_expire 0 4) ∷ by 0 (calls.Clock (writes.Advance 35)) ∷ by 0 (calls.Accept 0)
    ∷ by 0 (calls.Accept 0) ∷ by 0 (calls.Overrun 0) ∷ []) ∷ [])

-- the start by which the first acceptance arms the timer
abbrev pub rearming_start : Entry
rearming_start = case_start_entry modes.Keep 140 2 0 0 140 false

-- the object's entries
abbrev pub set_entry : ObjectEntry
set_entry = object_entries.Settime 1 100 10 0 (armings.Generation 1) (settings.Old 0 0)

-- the expiry's
abbrev pub trigger_entry : ObjectEntry
trigger_entry = object_entries.Trigger 1 1 true

-- the first acceptance's
abbrev pub accept_entry : ObjectEntry
accept_entry = object_entries.Accept 2 (armings.Generation 4) (acceptances.Accepted 3)

-- the second acceptance's
abbrev pub none_entry : ObjectEntry
none_entry = object_entries.Accept 2 armings.None acceptances.NoSignal

-- its record
abbrev pub accepted_record : RunRecord
accepted_record = record {
  version = versions.One;
  clock = record { label = at 0 1; write = writes.Advance 100; mono = 100; real = 100; boot = 100; changes = 0 }
      ∷ record { label = at 0 3; write = writes.Advance 35; mono = 135; real = 135; boot = 135; changes = 0 } ∷ [];
  bases = [] ∷ [];
  timers = (line 0 0 (start modes.Abs 100 100) ∷ line 0 2 (claim_entry 0 1 1) ∷ line 0 2 (finish_entry false 1)
      ∷ line 0 4 rearming_start ∷ []) ∷ [];
  objects = (case_object_line 0 0 set_entry ∷ case_object_line 0 2 trigger_entry ∷ case_object_line 0 4 accept_entry
      ∷ case_object_line 0 5 none_entry ∷ []) ∷ [];
  answers = (answers.Old 0 0 ∷ answers.Clock 1 ∷ answers.Done 1 (0 ∷ []) ∷ answers.Clock 2 ∷ answers.Accepted 3 ∷ answers.NoSignal
      ∷ answers.Overrun 3 4 ∷ []) ∷ [];
}

-- ---- a lane looks at a timer, and then whether its descriptor is readable, beside another lane's expiry run

-- the script
abbrev pub unreadable_script : Script
unreadable_script = case_script 1 2 (kinds.Fd 0 ∷ []) ((by 0 (calls.Clock (writes.Advance 10)) ∷ by 0 (settime_to 5) ∷ [])
    ∷ (by 0 (hard_expire 0 4) ∷ by 1 (calls.Peek 0) ∷ by 1 (calls.Readable 0) ∷ []) ∷ [])

-- what the look at the timer was answered, and all else
abbrev pub unreadable_by : Answer → RunRecord
unreadable_by looked = object_record (advance_line 0 0 10 ∷ [])
    ((line 0 1 (set_start 5 1 false) ∷ line 0 2 (claim_entry 0 1 1) ∷ line 0 2 (finish_entry false 1) ∷ []) ∷ [])
    ((case_object_line 0 1 (set_entry_of 5 1 1 0) ∷ case_object_line 0 2 (object_entries.Trigger 1 1 true) ∷ []) ∷ [])
    ((answers.Clock 1 ∷ answers.Old 0 0 ∷ answers.Done 1 (0 ∷ []) ∷ []) ∷ (looked ∷ answers.Readable false 1 1 ∷ []) ∷ [])

-- its record: the looks were before the expiry
abbrev pub unreadable_record : RunRecord
unreadable_record = unreadable_by (answers.Peek 1 0 true false false)

-- ---- of two lanes each disarms a descriptor, and looks whether the other is readable

-- a settime that disarms an object
abbrev pub disarming : ℕ → Call
disarming timer = calls.Settime timer 0 (record { sec = 0; nsec = 0 }) (record { sec = 0; nsec = 0 })

-- the entry that it makes
abbrev pub disarmed_entry : ObjectEntry
disarmed_entry = object_entries.Settime 0 0 0 0 armings.None (settings.Old 0 0)

-- the script
abbrev pub seen_script : Script
seen_script = case_script 1 2 (kinds.Fd 0 ∷ kinds.Fd 0 ∷ [])
    ((by 0 (disarming 0) ∷ by 0 (calls.Readable 1) ∷ by 1 (disarming 1) ∷ by 1 (calls.Readable 0) ∷ []) ∷ [])

-- how many entries of the first descriptor the second lane saw, and all else
abbrev pub seen_by : ℕ → RunRecord
seen_by entries = object_record [] ([] ∷ [] ∷ []) ((case_object_line 0 0 disarmed_entry ∷ []) ∷ (case_object_line 1 0 disarmed_entry ∷ []) ∷ [])
    ((answers.Old 0 0 ∷ answers.Readable false 0 0 ∷ []) ∷ (answers.Old 0 0 ∷ answers.Readable false 0 entries ∷ []) ∷ [])

-- its record: the first lane came first
abbrev pub seen_record : RunRecord
seen_record = seen_by 1

-- ---- two lanes accept signals of two POSIX timers, and there is none

-- the script
abbrev pub accepts_script : Script
accepts_script = case_script 1 2 (kinds.Posix 0 ∷ kinds.Posix 0 ∷ [])
    ((by 0 (calls.Accept 0) ∷ by 0 (calls.Accept 1) ∷ by 1 (calls.Accept 1) ∷ by 1 (calls.Accept 0) ∷ []) ∷ [])

-- the entry of an acceptance
abbrev pub nothing_accepted : ObjectEntry
nothing_accepted = object_entries.Accept 0 armings.None acceptances.NoSignal

-- the lanes in the order of their entries of the first timer's object, the first lane with its first call and the second with its second, and all else
abbrev pub accepts_by : List ℕ → RunRecord
accepts_by lanes = object_record [] ([] ∷ [] ∷ [])
    (map (λ lane. case_object_line lane lane nothing_accepted) lanes
    ∷ (case_object_line 0 1 nothing_accepted ∷ case_object_line 1 0 nothing_accepted ∷ []) ∷ [])
    ((answers.NoSignal ∷ answers.NoSignal ∷ []) ∷ (answers.NoSignal ∷ answers.NoSignal ∷ []) ∷ [])

-- its record: the first lane came first on both
abbrev pub accepts_record : RunRecord
accepts_record = accepts_by (0 ∷ 1 ∷ [])

-- ---- a lane looks at a timer and then accepts, which makes its object full, beside another lane's expiry run, whose expiry is skipped

-- the script, in which each history has two entries
abbrev pub skipped_script : Script
skipped_script = record (case_script 1 2 (kinds.Posix 0 ∷ []) ((by 0 (calls.Clock (writes.Advance 10)) ∷ by 0 (settime_to 5) ∷ [])
    ∷ (by 0 (hard_expire 0 4) ∷ by 1 (calls.Peek 0) ∷ by 1 (calls.Accept 0) ∷ []) ∷ [])) { limit = 2 }

-- what the look was answered, and all else
abbrev pub skipped_by : Answer → RunRecord
skipped_by looked = object_record (advance_line 0 0 10 ∷ [])
    ((line 0 1 (set_start 5 1 false) ∷ line 0 2 (claim_entry 0 1 1) ∷ line 0 2 (finish_entry false 1) ∷ []) ∷ [])
    ((case_object_line 0 1 (set_entry_of 5 1 1 0) ∷ record (case_object_line 1 1 (object_entries.Accept 1 armings.None acceptances.NoSignal)) {
      skips = record { label = at 0 2; generation = 1 } ∷ [];
    } ∷ []) ∷ [])
    ((answers.Clock 1 ∷ answers.Old 0 0 ∷ answers.Done 1 (0 ∷ []) ∷ []) ∷ (looked ∷ answers.NoSignal ∷ []) ∷ [])

-- its record: the look and the acceptance were before the expiry
abbrev pub skipped_record : RunRecord
skipped_record = skipped_by (answers.Peek 1 0 true false false)

-- ---- a lane looks at a timer and reads its descriptor, beside another lane that sets the descriptor twice, each time with an expiry

-- the script
abbrev pub two_expiries_script : Script
two_expiries_script = case_script 1 2 (kinds.Fd 0 ∷ []) ((by 0 (calls.Clock (writes.Advance 10)) ∷ [])
    ∷ (by 0 (settime_to 5) ∷ by 0 (hard_expire 0 4) ∷ by 0 (settime_to 6) ∷ by 0 (hard_expire 0 4) ∷ by 1 (calls.Peek 0) ∷ by 1 (calls.Read 0 8) ∷ []) ∷ [])

-- the lines of the first expiry, of the second settime and of the read
abbrev pub first_expiry : ObjectLine
first_expiry = case_object_line 0 2 (object_entries.Trigger 1 1 true)

abbrev pub second_set : ObjectLine
second_set = case_object_line 0 3 (set_entry_of 6 1 4 0)

abbrev pub read_again : ObjectLine
read_again = case_object_line 1 1 (object_entries.Read 1 armings.None reads.Again)

-- the order of these three, and all else: the look found the second function running, and the read found no expiry
abbrev pub two_expiries_by : List ObjectLine → RunRecord
two_expiries_by lines = object_record (advance_line 0 0 10 ∷ [])
    ((line 0 1 (set_start 5 1 false) ∷ line 0 2 (claim_entry 0 1 1) ∷ line 0 2 (finish_entry false 1) ∷ line 0 3 (set_start 6 1 false)
    ∷ line 0 4 (claim_entry 0 1 4) ∷ line 0 4 (finish_entry false 4) ∷ []) ∷ [])
    ((case_object_line 0 1 (set_entry_of 5 1 1 0) ∷ lines ++ case_object_line 0 4 (object_entries.Trigger 4 1 true) ∷ []) ∷ [])
    ((answers.Clock 1 ∷ answers.Old 0 0 ∷ answers.Done 1 (0 ∷ []) ∷ answers.Old 0 0 ∷ answers.Done 1 (0 ∷ []) ∷ [])
    ∷ (answers.Peek 5 0 false true false ∷ answers.Again ∷ []) ∷ [])

-- its record: the read was behind the second settime
abbrev pub two_expiries_record : RunRecord
two_expiries_record = two_expiries_by (first_expiry ∷ second_set ∷ read_again ∷ [])

-- ---- a lane looks at a descriptor and then sets the clock, which cancels another lane's read

-- the script
abbrev pub canceled_script : Script
canceled_script = record (case_script 1 2 (kinds.Fd 0 ∷ [])
    ((by 0 (calls.Settime 0 3 (record { sec = 0; nsec = 50 }) (record { sec = 0; nsec = 0 })) ∷ [])
    ∷ (by 0 (calls.Read 0 8) ∷ by 1 (calls.Readable 0) ∷ by 1 (calls.Clock (writes.Set 100)) ∷ []) ∷ [])) {
      timers = record { clock = clocks.Realtime; kind = kinds.Fd 0 } ∷ [];
    }

-- the start of its timer
abbrev pub real_start : Entry
real_start = record {
  event = events.Start (record { mode = modes.Abs; ns = 50; slack = 0; reading = 0; base = 0 });
  reply = start_replies.Start (record { base = 0; clock = clocks.Realtime; soft = 50; expires = 50 }) false;
}

-- the entry of the settime
abbrev pub cancelable_entry : ObjectEntry
cancelable_entry = object_entries.Settime 3 50 0 0 (armings.Generation 1) (settings.Old 0 0)

-- that of the read
abbrev pub canceled_entry : ObjectEntry
canceled_entry = object_entries.Read 1 armings.None reads.Canceled

-- how many entries the look found, and all else
abbrev pub canceled_by : ℕ → RunRecord
canceled_by entries = object_record (record { label = at 1 1; write = writes.Set 100; mono = 0; real = 100; boot = 0; changes = 1 } ∷ [])
    ((line 0 0 real_start ∷ []) ∷ []) ((case_object_line 0 0 cancelable_entry ∷ case_object_line 0 1 canceled_entry ∷ []) ∷ [])
    ((answers.Old 0 0 ∷ answers.Canceled ∷ []) ∷ (answers.Readable false 0 entries ∷ answers.Clock 1 ∷ []) ∷ [])

-- its record: the look was before the read
abbrev pub canceled_record : RunRecord
canceled_record = canceled_by 1

-- ---- a lane looks how an object is set, and then at its timer, beside another lane's settime

-- the script
abbrev pub armed_script : Script
armed_script = case_script 1 2 (kinds.Posix 0 ∷ [])
    ((by 0 (settime_to 50) ∷ by 1 (calls.Gettime 0) ∷ by 1 (calls.Peek 0) ∷ []) ∷ [])

-- what the look at the timer was answered, and all else
abbrev pub armed_seen_by : Answer → RunRecord
armed_seen_by looked = object_record [] ((line 0 0 (set_start 50 0 false) ∷ []) ∷ []) ((case_object_line 0 0 (set_entry_of 50 0 1 0) ∷ []) ∷ [])
    ((answers.Old 0 0 ∷ []) ∷ (answers.LeftAt 50 0 0 1 ∷ looked ∷ []) ∷ [])

-- its record: the looks were behind the settime
abbrev pub armed_record : RunRecord
armed_record = armed_seen_by (answers.Peek 1 0 true false false)

-- ---- a lane looks at a timer, and then how its object is set, beside another lane's settime

-- the script
abbrev pub set_script : Script
set_script = case_script 1 2 (kinds.Posix 0 ∷ [])
    ((by 0 (settime_to 50) ∷ by 1 (calls.Peek 0) ∷ by 1 (calls.Gettime 0) ∷ []) ∷ [])

-- what the look at the object was answered, and all else: the timer was started
abbrev pub set_seen_by : Answer → RunRecord
set_seen_by looked = object_record [] ((line 0 0 (set_start 50 0 false) ∷ []) ∷ []) ((case_object_line 0 0 (set_entry_of 50 0 1 0) ∷ []) ∷ [])
    ((answers.Old 0 0 ∷ []) ∷ (answers.Peek 1 0 true false false ∷ looked ∷ []) ∷ [])

-- its record: the looks were behind the settime
abbrev pub set_record : RunRecord
set_record = set_seen_by (answers.LeftAt 50 0 0 1)

-- ---- a settime cancels its timer, which has as many entries then as it may have, so the start behind it is refused

-- the script: a timer takes no start once it has three entries
abbrev pub full_script : Script
full_script = record (case_script 1 1 (kinds.Posix 0 ∷ []) ((by 0 (settime_to 50) ∷ by 0 (settime_to 60) ∷ by 0 (settime_to 70) ∷ []) ∷ [])) { limit = 3 }

-- the third settime's entry, by the stamp of its reading and by how many entries it tells of the timer
abbrev pub unarmed_entry : ℕ → ℕ → ObjectEntry
unarmed_entry reading stamp = object_entries.Settime 1 70 0 reading armings.Unarmed (settings.Unarmed stamp)

-- how many it tells of, and all else
abbrev pub full_by : ℕ → RunRecord
full_by stamp = object_record []
    ((line 0 0 (set_start 50 0 false) ∷ line 0 1 (cancel_entry 1) ∷ line 0 1 (set_start 60 0 false) ∷ line 0 2 (cancel_entry 3) ∷ []) ∷ [])
    ((case_object_line 0 0 (set_entry_of 50 0 1 0) ∷ case_object_line 0 1 (set_entry_of 60 0 3 50)
    ∷ case_object_line 0 2 (unarmed_entry 0 stamp) ∷ []) ∷ [])
    ((answers.Old 0 0 ∷ answers.Old 50 0 ∷ answers.Unarmed stamp ∷ []) ∷ [])

-- its record
abbrev pub full_record : RunRecord
full_record = full_by 4

-- ---- a settime waits for its timer's function, which another lane's run calls, and then its start is refused: the timer has as many entries as it may have

-- the script: a timer takes no start once it has four entries
abbrev pub ended_script : Script
ended_script = record (case_script 1 2 (kinds.Posix 0 ∷ []) ((by 0 (settime_to 50) ∷ by 0 (settime_to 60) ∷ by 0 (calls.Clock (writes.Advance 60)) ∷ [])
    ∷ (by 0 (settime_to 70) ∷ by 1 (hard_expire 0 4) ∷ []) ∷ [])) { limit = 4 }

-- how many entries the third settime tells of the timer, and all else
abbrev pub ended_by : ℕ → RunRecord
ended_by stamp = object_record (advance_line 0 2 60 ∷ [])
    ((line 0 0 (set_start 50 0 false) ∷ line 0 1 (cancel_entry 1) ∷ line 0 1 (set_start 60 0 false) ∷ line 1 0 (claim_entry 0 1 3)
    ∷ line 1 0 (finish_entry false 3) ∷ []) ∷ [])
    ((case_object_line 0 0 (set_entry_of 50 0 1 0) ∷ case_object_line 0 1 (set_entry_of 60 0 3 50) ∷ case_object_line 1 0 (counted_entry 3 1)
    ∷ case_object_line 0 3 (unarmed_entry 1 stamp) ∷ []) ∷ [])
    ((answers.Old 0 0 ∷ answers.Old 50 0 ∷ answers.Clock 1 ∷ answers.Unarmed stamp ∷ []) ∷ (answers.Done 1 (0 ∷ []) ∷ []) ∷ [])

-- its record: the timer is told as it was once its function had ended
abbrev pub ended_record : RunRecord
ended_record = ended_by 5

-- ---- a timer with slack expires when its soft expiry is reached and its hard one isn't

-- the script
abbrev pub early_script : Script
early_script = case_script_in versions.Two 1 1 (hard_raw callbacks.Once ∷ []) ((by 0 (slack_start 0 0 100) ∷ by 0 (hard_expire 0 4) ∷ []) ∷ [])

-- its record
abbrev pub early_record : RunRecord
early_record = case_record_in versions.Two [] ((line 0 0 (slack_entry 0 100) ∷ claim_lines 0 1) ∷ [])
    ((answers.Started 1 0 false ∷ answers.Done 0 (0 ∷ []) ∷ []) ∷ [])

-- ---- a run is done and claimed nothing, though a soft expiry is reached: that of the timer with the earliest hard expiry isn't

-- the script
abbrev pub waiting_script : Script
waiting_script = case_script_in versions.Two 1 1 (hard_raw callbacks.Once ∷ hard_raw callbacks.Once ∷ [])
    ((by 0 (slack_start 0 0 100) ∷ by 0 (case_start 1 modes.Abs 50 0) ∷ by 0 (hard_expire 0 4) ∷ []) ∷ [])

-- its record
abbrev pub waiting_record : RunRecord
waiting_record = case_record_in versions.Two [] ((line 0 0 (slack_entry 0 100) ∷ []) ∷ (line 0 1 (start modes.Abs 50 50) ∷ []) ∷ [])
    ((answers.Started 1 0 false ∷ answers.Started 1 0 false ∷ answers.Done 0 [] ∷ []) ∷ [])

-- ---- a hard and a soft expiry run on one base, each of which fires its own timer

-- the script
abbrev pub contexts_script : Script
contexts_script = case_script_in versions.Two 1 1 (hard_raw callbacks.Once ∷ kinds.Raw contexts.Soft callbacks.Once ∷ [])
    ((by 0 (case_start 0 modes.Abs 0 0) ∷ by 0 (case_start 1 modes.Abs 0 0) ∷ by 0 (hard_expire 0 4)
    ∷ by 0 (calls.Expire contexts.Soft 0 4) ∷ []) ∷ [])

-- its record
abbrev pub contexts_record : RunRecord
contexts_record = case_record_in versions.Two []
    ((line 0 0 (start modes.Abs 0 0) ∷ claim_lines 0 2) ∷ (line 0 1 (start modes.Abs 0 0) ∷ claim_lines 0 3) ∷ [])
    ((answers.Started 1 0 false ∷ answers.Started 1 0 false ∷ answers.Done 0 (0 ∷ []) ∷ answers.Done 0 (1 ∷ []) ∷ []) ∷ [])

-- ---- a base is taken off line, which moves its timer to the heir; a start that asks for the base goes there; and the base is on line again

-- the script
abbrev pub heir_script : Script
heir_script = case_script_in versions.Two 2 1 (hard_raw callbacks.Once ∷ []) ((by 0 (case_start 0 modes.Abs 100 1) ∷ by 0 (calls.Offline 1 0 4)
    ∷ by 0 (case_start 0 modes.Abs 200 1) ∷ by 0 (calls.Online 1) ∷ []) ∷ [])

-- the timer's lines: it is sent to base 1 and started there, moved to base 0, and started there again
abbrev pub heir_lines : List TimerLine
heir_lines = line 0 0 (out_entry 1 false) ∷ line 0 0 (case_start_entry modes.Abs 100 0 1 1 100 false)
    ∷ line 0 1 (out_entry 0 true) ∷ line 0 1 (case_start_entry modes.Keep 100 0 0 0 100 false)
    ∷ line 0 2 (case_start_entry modes.Abs 200 0 0 0 200 true) ∷ []

-- its record
abbrev pub heir_record : RunRecord
heir_record = off_line_record ([] ∷ (base_entry_line 1 (shifts.Offline 0) ∷ base_entry_line 3 shifts.Online ∷ []) ∷ []) (heir_lines ∷ [])
    (answers.Started 2 1 false ∷ answers.Offline 1 1 ∷ answers.Started 5 0 true ∷ answers.Online 2 ∷ [])

-- ---- a base is taken off line; a callback then starts its timer there, and the heir is asked for, while the timer stays where its function runs

-- the script
abbrev pub asking_script : Script
asking_script = case_script_in versions.Two 2 1 (hard_raw (callbacks.Starts 50 1) ∷ [])
    (map (by 0) (calls.Offline 1 0 4 ∷ case_start 0 modes.Abs 0 0 ∷ hard_expire 0 1 ∷ []) ∷ [])

-- the record, by the base that the callback's start asks for
abbrev pub asking_by : ℕ → RunRecord
asking_by base = off_line_record ([] ∷ (base_entry_line 0 (shifts.Offline 0) ∷ []) ∷ [])
    ((line 0 1 (start modes.Abs 0 0) ∷ line 0 2 (claim_entry 0 0 1) ∷ line 0 2 (case_start_entry modes.Rel 50 0 base 0 50 false)
    ∷ line 0 2 (finish_entry true 1) ∷ []) ∷ [])
    (answers.Offline 0 1 ∷ answers.Started 1 0 false ∷ answers.More 0 (0 ∷ []) ∷ [])

-- its record
abbrev pub asking_record : RunRecord
asking_record = asking_by 0

-- ---- the same, while another lane's run goes on: its callback's claim stands behind the base that goes off line

-- the script
abbrev pub meanwhile_script : Script
meanwhile_script = case_script_in versions.Two 2 2 (hard_raw (callbacks.Starts 50 1) ∷ [])
    ((by 0 (calls.Offline 1 0 4) ∷ by 0 (case_start 0 modes.Abs 0 0) ∷ by 1 (hard_expire 0 1) ∷ []) ∷ [])

-- the record, by the base that the callback's start asks for
abbrev pub meanwhile_by : ℕ → RunRecord
meanwhile_by base = record (off_line_record ([] ∷ (base_entry_line 0 (shifts.Offline 0) ∷ []) ∷ [])
    ((line 0 1 (start modes.Abs 0 0) ∷ line 1 0 (claim_entry 0 0 1) ∷ line 1 0 (case_start_entry modes.Rel 50 0 base 0 50 false)
    ∷ line 1 0 (finish_entry true 1) ∷ []) ∷ []) [])
    { answers = (answers.Offline 0 1 ∷ answers.Started 1 0 false ∷ []) ∷ (answers.More 0 (0 ∷ []) ∷ []) ∷ [] }

-- its record
abbrev pub meanwhile_record : RunRecord
meanwhile_record = meanwhile_by 0

-- ---- a base goes off line and on line, and its lane sees a timer without an entry; then another lane's start sends the timer there

-- the script
abbrev pub again_script : Script
again_script = case_script_in versions.Two 2 2 (hard_raw callbacks.Once ∷ [])
    ((by 0 (calls.Offline 1 0 4) ∷ by 0 (calls.Online 1) ∷ by 0 (calls.Peek 0) ∷ by 1 (case_start 0 modes.Abs 50 1) ∷ []) ∷ [])

-- the record, by the timer's entries, and what its start is answered
abbrev pub again_by : List TimerLine → Answer → RunRecord
again_by lines answer = record (off_line_record ([] ∷ (base_entry_line 0 (shifts.Offline 0) ∷ base_entry_line 1 shifts.Online ∷ []) ∷ []) (lines ∷ []) []) {
  answers = (answers.Offline 0 1 ∷ answers.Online 2 ∷ answers.Peek 0 0 false false false ∷ [])
      ∷ (answer ∷ []) ∷ [];
}

-- its record
abbrev pub again_record : RunRecord
again_record = again_by (line 1 0 (out_entry 1 false) ∷ line 1 0 (case_start_entry modes.Abs 50 0 1 1 50 false) ∷ []) (answers.Started 2 1 false)

-- ---- a base goes off line, and its lane sees an object without an entry; then another lane sets the object, whose timer goes to the heir

-- the script
abbrev pub turning_script : Script
turning_script = case_script_in versions.Two 2 2 (kinds.Posix 1 ∷ [])
    ((by 0 (calls.Offline 1 0 4) ∷ by 0 (calls.Overrun 0) ∷ by 1 (settime_to 100) ∷ []) ∷ [])

-- the record, by the timer's entries before its start, and the start's number
abbrev pub turning_by : List TimerLine → ℕ → RunRecord
turning_by lines number = record (object_record [] ((lines ++ line 1 0 (set_start 100 0 false) ∷ []) ∷ [])
    ((case_object_line 1 0 (set_entry_of 100 0 number 0) ∷ []) ∷ [])
    ((answers.Offline 0 1 ∷ answers.Overrun 0 0 ∷ []) ∷ (answers.Old 0 0 ∷ []) ∷ []))
    { version = versions.Two; bases = [] ∷ (base_entry_line 0 (shifts.Offline 0) ∷ []) ∷ [] }

-- its record
abbrev pub turning_record : RunRecord
turning_record = turning_by [] 1

-- ---- a base is taken off line, and then another is asked to go off line with that one as its heir

-- the script
abbrev pub refused_script : Script
refused_script = case_script_in versions.Two 3 1 [] ((by 0 (calls.Offline 1 0 4) ∷ by 0 (calls.Offline 2 1 4) ∷ []) ∷ [])

-- the entries of the other base, what its call was answered, and all else
abbrev pub refused_by : List BaseLine → Answer → RunRecord
refused_by lines answer = off_line_record ([] ∷ (base_entry_line 0 (shifts.Offline 0) ∷ []) ∷ lines ∷ []) [] (answers.Offline 0 1 ∷ answer ∷ [])

-- its record
abbrev pub refused_record : RunRecord
refused_record = refused_by [] (answers.HeirOffline 1)

-- ---- a base has a soft timer that is due and a hard one; a lane looks at the first and takes the base off line, beside another lane's soft expiry run

-- the script
abbrev pub busy_script : Script
busy_script = case_script_in versions.Two 2 2 (kinds.Raw contexts.Soft callbacks.Once ∷ hard_raw callbacks.Once ∷ [])
    ((by 0 (case_start 0 modes.Abs 0 1) ∷ by 0 (case_start 1 modes.Abs 50 1) ∷ [])
    ∷ (by 0 (calls.Peek 0) ∷ by 0 (calls.Offline 1 0 4) ∷ by 1 (calls.Expire contexts.Soft 1 4) ∷ []) ∷ [])

-- what the look was answered, and all else: the hard timer is moved off the base, and the base stays on line as the soft one's function runs there
abbrev pub busy_by : Answer → RunRecord
busy_by looked = record (case_record_in versions.Two []
    ((line 0 0 (out_entry 1 false) ∷ line 0 0 (case_start_entry modes.Abs 0 0 1 1 0 false) ∷ line 1 0 (claim_entry 1 0 2)
    ∷ line 1 0 (finish_entry false 2) ∷ [])
    ∷ (line 0 1 (out_entry 1 false) ∷ line 0 1 (case_start_entry modes.Abs 50 0 1 1 50 false) ∷ line 0 3 (out_entry 0 true)
    ∷ line 0 3 (case_start_entry modes.Keep 50 0 0 0 50 false) ∷ []) ∷ [])
    ((answers.Started 2 1 false ∷ answers.Started 2 1 false ∷ looked ∷ answers.OfflineBusy 1 0 2 ∷ []) ∷ (answers.Done 0 (0 ∷ []) ∷ []) ∷ [])) {
      bases = [] ∷ [] ∷ [];
    }

-- its record: the look was before the claim
abbrev pub busy_record : RunRecord
busy_record = busy_by (answers.Peek 2 1 true false false)

-- ---- a sleep's time comes, which is looked at, and told by an interrupt

-- the script
abbrev pub woken_script : Script
woken_script = sleeper_script (sleep_of 0 10 ∷ calls.Clock (writes.Advance 10) ∷ hard_expire 0 4 ∷ calls.Slept 0 ∷ calls.Interrupt 0 ∷ [])

-- the sleep's entry of the sleeper
abbrev pub asleep_entry : ObjectEntry
asleep_entry = object_entries.Sleep 0 10 0 (armings.Generation 1) sleeps.Asleep

-- its record
abbrev pub woken_record : RunRecord
woken_record = sleeper_record (advance_line 0 1 10 ∷ [])
    (line 0 0 (start modes.Rel 10 10) ∷ line 0 2 (claim_entry 0 1 1) ∷ line 0 2 (finish_entry false 1) ∷ [])
    (case_object_line 0 0 asleep_entry ∷ case_object_line 0 2 (object_entries.Trigger 1 1 true)
    ∷ case_object_line 0 4 (object_entries.Interrupt 1 ended.Slept) ∷ [])
    (answers.Asleep ∷ answers.Clock 1 ∷ answers.Done 1 (0 ∷ []) ∷ answers.SleptAt 2 ∷ answers.Slept ∷ [])

-- ---- a sleep for so long is interrupted, and tells the time left; one up to a time is, and tells none; one up to a time that has come isn't begun

-- the script
abbrev pub interrupted_script : Script
interrupted_script = sleeper_script (sleep_of 0 100 ∷ calls.Clock (writes.Advance 30) ∷ calls.Interrupt 0 ∷ sleep_of 1 100 ∷ calls.Interrupt 0
    ∷ sleep_of 1 30 ∷ [])

-- the start of the second sleep
abbrev pub second_start : Entry
second_start = case_start_entry modes.Abs 100 1 0 0 100 false

-- by how the second sleep ended, and what was then answered
abbrev pub interrupted_by : InterruptReply → Answer → RunRecord
interrupted_by reply answer = sleeper_record (advance_line 0 1 30 ∷ [])
    (line 0 0 (start modes.Rel 100 100) ∷ line 0 2 (cancel_entry 1) ∷ line 0 3 second_start ∷ line 0 4 (cancel_entry 3) ∷ [])
    (case_object_line 0 0 (object_entries.Sleep 0 100 0 (armings.Generation 1) sleeps.Asleep)
    ∷ case_object_line 0 2 (object_entries.Interrupt 1 (ended.Left 70))
    ∷ case_object_line 0 3 (object_entries.Sleep 1 100 1 (armings.Generation 3) sleeps.Asleep)
    ∷ case_object_line 0 4 (object_entries.Interrupt 1 reply)
    ∷ case_object_line 0 5 (object_entries.Sleep 1 30 1 armings.None sleeps.Slept) ∷ [])
    (answers.Asleep ∷ answers.Clock 1 ∷ answers.SleepLeft 70 ∷ answers.Asleep ∷ answer ∷ answers.Slept ∷ [])

-- its record
abbrev pub interrupted_record : RunRecord
interrupted_record = interrupted_by ended.Interrupted answers.Interrupted

-- ---- two queued timers expire in one run, and the one whose signal waits first is set anew; its signal is told as stale, then the other's is accepted, and
-- then none waits

-- the script: the second timer expires first
abbrev pub signals_script : Script
signals_script = queued_script 2 (settime_of 0 200 ∷ settime_of 1 100 ∷ calls.Clock (writes.Advance 200) ∷ hard_expire 0 4 ∷ settime_of 1 0
    ∷ calls.Sigwait ∷ calls.Sigwait ∷ calls.Sigwait ∷ [])

-- the entry of the settime that disarms the second timer
abbrev pub disarming_entry : ObjectEntry
disarming_entry = object_entries.Settime 1 0 0 1 armings.None (settings.Old 0 0)

-- by the call that accepted the first timer's signal, and what the two calls were told that took the signals
abbrev pub signals_by : ℕ → Answer → Answer → RunRecord
signals_by call first second = queued_record (advance_line 0 2 200 ∷ []) (claimed_by 0 200 0 3 1 ∷ claimed_by 1 100 0 3 1 ∷ [])
    ((case_object_line 0 0 (set_entry_of 200 0 1 0) ∷ case_object_line 0 3 (counted_entry 1 1) ∷ case_object_line 0 call (accepted_entry 1) ∷ [])
    ∷ (case_object_line 0 1 (set_entry_of 100 0 1 0) ∷ case_object_line 0 3 (counted_entry 1 1) ∷ case_object_line 0 4 disarming_entry ∷ []) ∷ [])
    (answers.Old 0 0 ∷ answers.Old 0 0 ∷ answers.Clock 1 ∷ answers.Done 1 (1 ∷ 0 ∷ []) ∷ answers.Old 0 0 ∷ first ∷ second ∷ answers.NoneQueued ∷ [])

-- its record
abbrev pub signals_record : RunRecord
signals_record = signals_by 6 (answers.StaleSignal 1 2) (answers.Signal 0 2 0)

-- ---- a queued timer's history is full when its signal is taken, and the call is told so

-- the script
abbrev pub spent_script : Script
spent_script = record (expired_script (calls.Sigwait ∷ [])) { limit = 2 }

-- its record
abbrev pub spent_record : RunRecord
spent_record = expired_record (counted_entry 1 1) [] (answers.SpentSignal 0 2 ∷ [])

-- ---- a queued timer expires and is set anew, by which its signal goes stale and its history gets full at once; another lane takes the signal

-- the script
abbrev pub filled_script : Script
filled_script = record (case_script_in versions.Two 1 2 (kinds.Queued 0 ∷ []) ((by 0 (settime_to 100) ∷ by 0 (calls.Clock (writes.Advance 100)) ∷ [])
    ∷ (by 0 (hard_expire 0 4) ∷ by 0 (settime_to 0) ∷ by 1 calls.Sigwait ∷ []) ∷ [])) { limit = 3 }

-- what was told of the signal, and all else
abbrev pub filled_by : Answer → RunRecord
filled_by told = record (object_record (advance_line 0 1 100 ∷ []) (claimed_by 0 100 0 2 1 ∷ [])
    ((case_object_line 0 0 (set_entry_of 100 0 1 0) ∷ case_object_line 0 2 (counted_entry 1 1) ∷ case_object_line 0 3 disarming_entry ∷ []) ∷ [])
    ((answers.Old 0 0 ∷ answers.Clock 1 ∷ answers.Done 1 (0 ∷ []) ∷ answers.Old 0 0 ∷ []) ∷ (told ∷ []) ∷ [])) { version = versions.Two }

-- its record
abbrev pub filled_record : RunRecord
filled_record = filled_by (answers.SpentSignal 0 2)
