-- Scripts, each with a record that doesn't fit it, though each timer's lines by themselves are a history in all but one of them.
use Rattle.std.specs.Prelude.{ℕ, true, false, List, [], ◌∷◌, ◌++◌, map}
use Rattle.ktime.specs.declared.mode.Mode.TheVariants as modes
use Rattle.ktime.specs.declared.write.Write.TheVariants as writes
use Rattle.seq_timer.specs.declared.context.Context.TheVariants as contexts
use Rattle.seq_timer.specs.declared.standing.BaseEvent.TheVariants as shifts
use Rattle.record_text.specs.declared.record.Answer.TheVariants as answers
use Rattle.record_text.specs.declared.record.ClockLine.{ClockLine}
use Rattle.record_text.specs.declared.record.Entry.{Entry}
use Rattle.record_text.specs.declared.record.InterruptReply.TheVariants as ended
use Rattle.record_text.specs.declared.record.ObjectEntry.TheVariants as object_entries
use Rattle.record_text.specs.declared.record.RunRecord.{RunRecord}
use Rattle.record_text.specs.declared.record.TimerLine.{TimerLine}
use Rattle.record_text.specs.declared.version.Version.TheVariants as versions
use Rattle.script_text.specs.declared.script.Call.TheVariants as calls
use Rattle.script_text.specs.declared.script.Call.{Call}
use Rattle.script_text.specs.declared.script.Callback.TheVariants as callbacks
use Rattle.script_text.specs.declared.script.Kind.TheVariants as kinds
use Rattle.script_text.specs.declared.script.Kind.{Kind}
use Rattle.script_text.specs.declared.script.Script.{Script}
use Rattle.run_cases.specs.Fitting.{accepts_by, armed_seen_by, asking_by, asleep_entry, awaited_by, busy_by, canceled_by, ended_by, filled_by, first_expiry, full_by, interrupted_by, meanwhile_by, nothing_by, read_again, refused_by, second_set, seen_by, set_seen_by, signals_by, skipped_by, started_by, turning_by, again_by, two_expiries_by, unreadable_by}
use Rattle.run_cases.specs.Lines.{accepted_entry, advance_line, at, base_entry_line, by, cancel_entry, case_object_line, case_record_in, case_script, case_script_in, case_start, case_start_entry, claim_entry, claim_lines, claimed_by, counted_entry, expired_record, expired_script, finish_entry, hard_expire, hard_raw, line, object_record, off_line_record, out_entry, queued_record, queued_script, raw_record, set_entry_of, set_start, settime_of, settime_to, slack_entry, slack_start, sleep_of, sleeper_record, sleeper_script, start}

-- two timers whose callbacks do nothing
abbrev pub two_timers : List Kind
two_timers = hard_raw callbacks.Once ∷ hard_raw callbacks.Once ∷ []

-- ---- two functions of one context at once on one base: a lane is told that a timer runs before it claims another timer there, and behind that, too

-- the script
abbrev pub both_script : Script
both_script = case_script 1 2 two_timers ((by 0 (case_start 0 modes.Abs 0 0) ∷ by 0 (case_start 1 modes.Abs 0 0) ∷ [])
    ∷ (by 0 (hard_expire 0 1) ∷ by 1 (calls.Cancel 0) ∷ by 1 (hard_expire 0 1) ∷ by 1 (calls.Cancel 0) ∷ []) ∷ [])

-- a record that breaks it
abbrev pub both_record : RunRecord
both_record = raw_record [] (claimed_by 0 0 0 2 0 ∷ claimed_by 1 0 1 1 0 ∷ [])
    ((answers.Started 1 0 false ∷ answers.Started 1 0 false ∷ answers.More 0 (0 ∷ []) ∷ [])
    ∷ (answers.Running 1 2 ∷ answers.More 0 (1 ∷ []) ∷ answers.Running 1 2 ∷ []) ∷ [])

-- ---- of two timers with the same expiry the one that was armed later is claimed first

-- the script
abbrev pub tie_script : Script
tie_script = case_script 1 1 two_timers ((by 0 (case_start 0 modes.Abs 100 0) ∷ by 0 (case_start 1 modes.Abs 100 0)
    ∷ by 0 (calls.Clock (writes.Advance 100)) ∷ by 0 (hard_expire 0 1) ∷ by 0 (hard_expire 0 1) ∷ []) ∷ [])

-- a record that breaks it
abbrev pub tie_record : RunRecord
tie_record = raw_record (record { label = at 0 2; write = writes.Advance 100; mono = 100; real = 100; boot = 100; changes = 0 } ∷ [])
    (claimed_by 0 100 0 4 1 ∷ claimed_by 1 100 0 3 1 ∷ [])
    ((answers.Started 1 0 false ∷ answers.Started 1 0 false ∷ answers.Clock 1 ∷ answers.More 1 (1 ∷ []) ∷ answers.More 1 (0 ∷ []) ∷ []) ∷ [])

-- ---- nothing was left to do, though at each moment one timer or the other was due: the first is cancelled when the second is armed

-- the script
abbrev pub due_script : Script
due_script = case_script 1 2 two_timers ((by 0 (case_start 0 modes.Abs 0 0) ∷ [])
    ∷ (by 0 (case_start 1 modes.Abs 0 0) ∷ by 0 (calls.Cancel 0) ∷ by 1 (hard_expire 0 4) ∷ []) ∷ [])

-- a record that breaks it
abbrev pub due_record : RunRecord
due_record = raw_record [] ((line 0 0 (start modes.Abs 0 0) ∷ line 0 2 (cancel_entry 1) ∷ []) ∷ (line 0 1 (start modes.Abs 0 0) ∷ []) ∷ [])
    ((answers.Started 1 0 false ∷ answers.Started 1 0 false ∷ answers.Cancelled 1 ∷ []) ∷ (answers.Done 0 [] ∷ []) ∷ [])

-- ---- a lane sees a function run and then makes the write that made its timer due: the script of an expiry run beside a look and a write, and the timer
-- is claimed by that write

-- a record that breaks it
abbrev pub hasty_record : RunRecord
hasty_record = awaited_by (answers.Peek 2 0 false true false)

-- ---- a lane sees a timer started and then makes the write that the start went by: the script of a start beside a look and a write

-- a record that breaks it
abbrev pub foreseen_record : RunRecord
foreseen_record = started_by (case_start_entry modes.Rel 10 1 0 0 30 false)

-- ---- a lane sees a timer that was started behind a write, and is due by it, and then has nothing to expire, by the reading before the write: the script
-- of a look and an expiry run beside a write and a start

-- a record that breaks it
abbrev pub stale_record : RunRecord
stale_record = nothing_by (answers.Peek 1 0 true false false)

-- ---- a settime of an armed POSIX timer starts it with no cancel before

-- the script
abbrev pub uncancelled_script : Script
uncancelled_script = case_script 1 1 (kinds.Posix 0 ∷ []) ((by 0 (settime_to 100) ∷ by 0 (settime_to 200) ∷ []) ∷ [])

-- a record that breaks it
abbrev pub uncancelled_record : RunRecord
uncancelled_record = object_record [] ((line 0 0 (set_start 100 0 false) ∷ line 0 1 (set_start 200 0 true) ∷ []) ∷ [])
    ((case_object_line 0 0 (set_entry_of 100 0 1 0) ∷ case_object_line 0 1 (set_entry_of 200 0 2 100) ∷ []) ∷ [])
    ((answers.Old 0 0 ∷ answers.Old 100 0 ∷ []) ∷ [])

-- ---- a settime's start stands behind the claim of an expiry, but its entry stands before that expiry's

-- the script
abbrev pub crossed_script : Script
crossed_script = case_script 1 2 (kinds.Posix 0 ∷ []) ((by 0 (settime_to 1) ∷ by 0 (calls.Clock (writes.Advance 1)) ∷ [])
    ∷ (by 0 (settime_to 50) ∷ by 1 (hard_expire 0 1) ∷ []) ∷ [])

-- a record that breaks it
abbrev pub crossed_record : RunRecord
crossed_record = object_record (advance_line 0 1 1 ∷ [])
    ((line 0 0 (set_start 1 0 false) ∷ line 1 0 (claim_entry 0 1 1) ∷ line 1 0 (finish_entry false 1) ∷ line 0 2 (set_start 50 1 false) ∷ []) ∷ [])
    ((case_object_line 0 0 (set_entry_of 1 0 1 0) ∷ case_object_line 0 2 (set_entry_of 50 1 4 1)
    ∷ case_object_line 1 0 (object_entries.Trigger 1 1 false) ∷ []) ∷ [])
    ((answers.Old 0 0 ∷ answers.Clock 1 ∷ answers.Old 1 0 ∷ []) ∷ (answers.More 1 (0 ∷ []) ∷ []) ∷ [])

-- ---- of two lanes' settimes the one whose start stands first has its entry last

-- the script
abbrev pub settimes_script : Script
settimes_script = case_script 1 2 (kinds.Posix 0 ∷ []) ((by 0 (settime_to 100) ∷ by 1 (settime_to 200) ∷ []) ∷ [])

-- a record that breaks it
abbrev pub settimes_record : RunRecord
settimes_record = object_record [] ((line 0 0 (set_start 100 0 false) ∷ line 1 0 (cancel_entry 1) ∷ line 1 0 (set_start 200 0 false) ∷ []) ∷ [])
    ((case_object_line 1 0 (set_entry_of 200 0 3 0) ∷ case_object_line 0 0 (set_entry_of 100 0 1 200) ∷ []) ∷ [])
    ((answers.Old 200 0 ∷ []) ∷ (answers.Old 0 0 ∷ []) ∷ [])

-- ---- a look at a descriptor misses an expiry whose function its lane has seen to end: the script of that look beside the expiry

-- a record that breaks it
abbrev pub missed_expiry_record : RunRecord
missed_expiry_record = unreadable_by (answers.Peek 3 0 false false false)

-- ---- a read stands before the first of two expiries, and its lane saw the function of the second: the script of a read behind the second settime

-- a record that breaks it
abbrev pub early_read_record : RunRecord
early_read_record = two_expiries_by (read_again ∷ first_expiry ∷ second_set ∷ [])

-- ---- of two lanes each sets its descriptor, and sees the other's as it was before: the script of these settimes and looks

-- a record that breaks it
abbrev pub unseen_record : RunRecord
unseen_record = seen_by 0

-- ---- the entries of two objects are crossed: the script of lanes that accept of both

-- a record that breaks it
abbrev pub crossed_accepts_record : RunRecord
crossed_accepts_record = accepts_by (1 ∷ 0 ∷ [])

-- ---- an expiry is skipped before its object was full: the script of an acceptance that makes it full

-- a record that breaks it
abbrev pub hasty_skip_record : RunRecord
hasty_skip_record = skipped_by (answers.Peek 3 0 false false false)

-- ---- a read is canceled by a set of the clock that came later: the script of this read, and this set beside it

-- a record that breaks it
abbrev pub foreseen_set_record : RunRecord
foreseen_set_record = canceled_by 2

-- ---- an object is armed before the start of its timer: the script of a settime beside looks at both

-- a record that breaks it
abbrev pub unstarted_record : RunRecord
unstarted_record = armed_seen_by (answers.Peek 0 0 false false false)

-- ---- an object is seen as before a settime whose start its lane has seen: the script of a settime beside looks at both

-- a record that breaks it
abbrev pub unset_record : RunRecord
unset_record = set_seen_by (answers.LeftAt 0 0 0 0)

-- ---- a start is refused by its timer as it was before its own settime's cancel: the script of a settime whose start is refused

-- a record that breaks it
abbrev pub early_refusal_record : RunRecord
early_refusal_record = full_by 3

-- ---- a start is refused by its timer as it was while its function still ran: the script of a settime that waits for that

-- a record that breaks it
abbrev pub running_refusal_record : RunRecord
running_refusal_record = ended_by 4

-- ---- a timer is claimed before its soft expiry: its lines aren't a history either

-- the script
abbrev pub soon_script : Script
soon_script = case_script_in versions.Two 1 1 (hard_raw callbacks.Once ∷ []) ((by 0 (slack_start 0 50 100) ∷ by 0 (hard_expire 0 4) ∷ []) ∷ [])

-- a record that breaks it
abbrev pub soon_record : RunRecord
soon_record = case_record_in versions.Two [] ((line 0 0 (slack_entry 50 100) ∷ claim_lines 0 1) ∷ [])
    ((answers.Started 1 0 false ∷ answers.Done 0 (0 ∷ []) ∷ []) ∷ [])

-- ---- a claim looks past the timer with the earliest hard expiry, whose soft one isn't reached, to a timer whose soft one is

-- a record that breaks the script of a run that waits
abbrev pub past_record : RunRecord
past_record = case_record_in versions.Two [] ((line 0 0 (slack_entry 0 100) ∷ claim_lines 0 2) ∷ (line 0 1 (start modes.Abs 50 50) ∷ []) ∷ [])
    ((answers.Started 1 0 false ∷ answers.Started 1 0 false ∷ answers.Done 0 (0 ∷ []) ∷ []) ∷ [])

-- ---- nothing was left to do, though a timer's hard expiry was reached

-- the script
abbrev pub missed_script : Script
missed_script = case_script_in versions.Two 1 1 (hard_raw callbacks.Once ∷ [])
    ((by 0 (slack_start 0 0 50) ∷ by 0 (calls.Clock (writes.Advance 50)) ∷ by 0 (hard_expire 0 4) ∷ []) ∷ [])

-- a record that breaks it
abbrev pub missed_record : RunRecord
missed_record = case_record_in versions.Two (record { label = at 0 1; write = writes.Advance 50; mono = 50; real = 50; boot = 50; changes = 0 } ∷ [])
    ((line 0 0 (slack_entry 0 50) ∷ []) ∷ []) ((answers.Started 1 0 false ∷ answers.Clock 1 ∷ answers.Done 1 [] ∷ []) ∷ [])

-- ---- a hard expiry run claims a timer of the soft context

-- the script
abbrev pub astray_script : Script
astray_script = case_script_in versions.Two 1 1 (kinds.Raw contexts.Soft callbacks.Once ∷ [])
    ((by 0 (case_start 0 modes.Abs 0 0) ∷ by 0 (hard_expire 0 4) ∷ []) ∷ [])

-- a record that breaks it
abbrev pub astray_record : RunRecord
astray_record = case_record_in versions.Two [] ((line 0 0 (start modes.Abs 0 0) ∷ claim_lines 0 1) ∷ [])
    ((answers.Started 1 0 false ∷ answers.Done 0 (0 ∷ []) ∷ []) ∷ [])

-- ---- a record is of version 1, and its script of version 2

-- the script: one lane with no call
abbrev pub versions_script : Script
versions_script = case_script_in versions.Two 1 1 [] []

-- a record that breaks it
abbrev pub versions_record : RunRecord
versions_record = raw_record [] [] ([] ∷ [])

-- ---- bases that go off line

-- a script of version 2 of one timer on two bases, and these calls of one lane
abbrev pub two_bases : List Call → Script
two_bases calls = case_script_in versions.Two 2 1 (hard_raw callbacks.Once ∷ []) (map (by 0) calls ∷ [])

-- the lines of a timer that a call sends to base 1 and starts there
abbrev pub lines_there : ℕ → List TimerLine
lines_there call = line 0 call (out_entry 1 false) ∷ line 0 call (case_start_entry modes.Abs 100 0 1 1 100 false) ∷ []

-- ---- a start leaves its timer on a base that is off line

-- the script
abbrev pub stranded_script : Script
stranded_script = two_bases (calls.Offline 1 0 4 ∷ case_start 0 modes.Abs 100 1 ∷ [])

-- a record that breaks it
abbrev pub stranded_record : RunRecord
stranded_record = off_line_record ([] ∷ (base_entry_line 0 (shifts.Offline 0) ∷ []) ∷ []) (lines_there 1 ∷ [])
    (answers.Offline 0 1 ∷ answers.Started 2 1 false ∷ [])

-- ---- a start sends its timer to a base that is off line, and on to its heir: the same script

-- a record that breaks it
abbrev pub sent_off_record : RunRecord
sent_off_record = off_line_record ([] ∷ (base_entry_line 0 (shifts.Offline 0) ∷ []) ∷ [])
    ((line 0 1 (out_entry 1 false) ∷ line 0 1 (out_entry 0 false) ∷ line 0 1 (case_start_entry modes.Abs 100 0 0 0 100 false) ∷ []) ∷ [])
    (answers.Offline 0 1 ∷ answers.Started 3 0 false ∷ [])

-- ---- an armed timer leaves for its base's heir by a start, and the base goes off line only behind that

-- the script
abbrev pub left_early_script : Script
left_early_script = two_bases (case_start 0 modes.Abs 100 1 ∷ case_start 0 modes.Abs 100 1 ∷ calls.Offline 1 0 4 ∷ [])

-- a record that breaks it
abbrev pub left_early_record : RunRecord
left_early_record = off_line_record ([] ∷ (base_entry_line 2 (shifts.Offline 0) ∷ []) ∷ [])
    ((lines_there 0 ++ line 0 1 (out_entry 0 true) ∷ line 0 1 (case_start_entry modes.Abs 100 0 0 0 100 false) ∷ []) ∷ [])
    (answers.Started 2 1 false ∷ answers.Started 4 0 true ∷ answers.Offline 0 1 ∷ [])

-- ---- a callback's start tells that it asked for a base that is off line: the script of the callback that asks for the heir

-- a record that breaks it
abbrev pub asking_off_record : RunRecord
asking_off_record = asking_by 1

-- ---- the same, and the base went off line within the run, but before the callback's claim: the script of the run that goes on meanwhile

-- a record that breaks it
abbrev pub meanwhile_off_record : RunRecord
meanwhile_off_record = meanwhile_by 1

-- ---- a start sends its timer on from a base that is on line again: the script of the base that goes off line and on line

-- a record that breaks it
abbrev pub sent_again_record : RunRecord
sent_again_record = again_by (line 1 0 (out_entry 1 false) ∷ line 1 0 (out_entry 0 false) ∷ line 1 0 (case_start_entry modes.Abs 50 0 0 0 50 false) ∷ [])
    (answers.Started 3 0 false)

-- ---- a settime sends its timer to a base that went off line before the settime's turn: the script of the object that is set behind that

-- a record that breaks it
abbrev pub turning_off_record : RunRecord
turning_off_record = turning_by (line 1 0 (out_entry 1 false) ∷ line 1 0 (out_entry 0 false) ∷ []) 3

-- ---- a base goes off line with a timer armed on it

-- the script
abbrev pub left_script : Script
left_script = two_bases (case_start 0 modes.Abs 100 1 ∷ calls.Offline 1 0 4 ∷ [])

-- a record that breaks it
abbrev pub left_record : RunRecord
left_record = off_line_record ([] ∷ (base_entry_line 1 (shifts.Offline 0) ∷ []) ∷ []) (lines_there 0 ∷ [])
    (answers.Started 2 1 false ∷ answers.Offline 0 1 ∷ [])

-- ---- a timer that is moved off a base gets another expiry: the same script

-- a record that breaks it
abbrev pub early_move_record : RunRecord
early_move_record = off_line_record ([] ∷ (base_entry_line 1 (shifts.Offline 0) ∷ []) ∷ [])
    ((lines_there 0 ++ line 0 1 (out_entry 0 true) ∷ line 0 1 (case_start_entry modes.Keep 90 0 0 0 90 false) ∷ []) ∷ [])
    (answers.Started 2 1 false ∷ answers.Offline 1 1 ∷ [])

-- ---- of two timers on a base that goes off line, the one that expires later is moved first

-- the script: the first timer to be started expires first
abbrev pub turns_script : Script
turns_script = case_script_in versions.Two 2 1 two_timers
    (map (by 0) (case_start 1 modes.Abs 50 1 ∷ case_start 0 modes.Abs 100 1 ∷ calls.Offline 1 0 1 ∷ []) ∷ [])

-- the entries of its move
abbrev pub later_move : List Entry
later_move = out_entry 0 true ∷ case_start_entry modes.Keep 100 0 0 0 100 false ∷ []

-- a record that breaks it
abbrev pub turns_record : RunRecord
turns_record = off_line_record ([] ∷ [] ∷ [])
    ((lines_there 1 ++ map (line 0 2) later_move)
    ∷ (line 0 0 (out_entry 1 false) ∷ line 0 0 (case_start_entry modes.Abs 50 0 1 1 50 false) ∷ []) ∷ [])
    (answers.Started 2 1 false ∷ answers.Started 2 1 false ∷ answers.OfflineMore 1 ∷ [])

-- ---- a timer is moved off a base while a function runs there: the script of a base that stays on line as a function runs there

-- a record that breaks it
abbrev pub running_moved_record : RunRecord
running_moved_record = busy_by (answers.Peek 3 1 false true false)

-- ---- a base goes off line with an heir that is off line: the script of a refused heir

-- a record that breaks it
abbrev pub taken_record : RunRecord
taken_record = refused_by (base_entry_line 1 (shifts.Offline 1) ∷ []) (answers.Offline 0 1)

-- ---- a call answers that a base is on line again, and the base has no such entry

-- the script
abbrev pub silent_script : Script
silent_script = two_bases (calls.Offline 1 0 4 ∷ calls.Online 1 ∷ [])

-- a record that breaks it
abbrev pub silent_record : RunRecord
silent_record = off_line_record ([] ∷ (base_entry_line 0 (shifts.Offline 0) ∷ []) ∷ []) ([] ∷ []) (answers.Offline 0 1 ∷ answers.Online 2 ∷ [])

-- ---- a sleep up to a time tells the time left: the script of the interrupted sleeps

-- a record that breaks it
abbrev pub time_left_record : RunRecord
time_left_record = interrupted_by (ended.Left 70) (answers.SleepLeft 70)

-- ---- a sleep is over before its time

-- the script
abbrev pub early_sleep_script : Script
early_sleep_script = sleeper_script (sleep_of 0 10 ∷ calls.Slept 0 ∷ [])

-- a record that breaks it
abbrev pub early_sleep_record : RunRecord
early_sleep_record = sleeper_record [] (line 0 0 (start modes.Rel 10 10) ∷ []) (case_object_line 0 0 asleep_entry ∷ [])
    (answers.Asleep ∷ answers.SleptAt 1 ∷ [])

-- ---- a call is told that no signal waits, and one does

-- the script
abbrev pub unheard_script : Script
unheard_script = expired_script (calls.Sigwait ∷ [])

-- a record that breaks it
abbrev pub unheard_record : RunRecord
unheard_record = expired_record (counted_entry 1 1) [] (answers.NoneQueued ∷ [])

-- ---- a signal is named twice: it is accepted, and then told as stale

-- the script
abbrev pub renamed_script : Script
renamed_script = expired_script (calls.Sigwait ∷ calls.Sigwait ∷ [])

-- a record that breaks it
abbrev pub renamed_record : RunRecord
renamed_record = expired_record (counted_entry 1 1) (case_object_line 0 3 (accepted_entry 1) ∷ []) (answers.Signal 0 2 0 ∷ answers.StaleSignal 0 2 ∷ [])

-- ---- a call is told that no signal waits; then an expiry finds no room for its signal, and none was sent between

-- the script
abbrev pub roomy_script : Script
roomy_script = queued_script 1 (settime_to 100 ∷ calls.Clock (writes.Advance 100) ∷ calls.Sigwait ∷ hard_expire 0 4 ∷ [])

-- a record that breaks it
abbrev pub roomy_record : RunRecord
roomy_record = queued_record (advance_line 0 1 100 ∷ []) (claimed_by 0 100 0 3 1 ∷ [])
    ((case_object_line 0 0 (set_entry_of 100 0 1 0) ∷ case_object_line 0 3 (object_entries.Overflow 1 1) ∷ []) ∷ [])
    (answers.Old 0 0 ∷ answers.Clock 1 ∷ answers.NoneQueued ∷ answers.Done 1 (0 ∷ []) ∷ [])

-- ---- of two signals the one that was sent later is named first

-- the script: two timers expire in two runs
abbrev pub younger_script : Script
younger_script = queued_script 2 (settime_of 0 100 ∷ settime_of 1 200 ∷ calls.Clock (writes.Advance 100) ∷ hard_expire 0 4
    ∷ calls.Clock (writes.Advance 100) ∷ hard_expire 0 4 ∷ calls.Sigwait ∷ calls.Sigwait ∷ [])

-- the clock's second write
abbrev pub later_write : ℕ → ClockLine
later_write call = record { label = at 0 call; write = writes.Advance 100; mono = 200; real = 200; boot = 200; changes = 0 }

-- a record that breaks it
abbrev pub younger_record : RunRecord
younger_record = queued_record (advance_line 0 2 100 ∷ later_write 4 ∷ []) (claimed_by 0 100 0 3 1 ∷ claimed_by 1 200 0 5 2 ∷ [])
    ((case_object_line 0 0 (set_entry_of 100 0 1 0) ∷ case_object_line 0 3 (counted_entry 1 1) ∷ case_object_line 0 7 (accepted_entry 2) ∷ [])
    ∷ (case_object_line 0 1 (set_entry_of 200 0 1 0) ∷ case_object_line 0 5 (counted_entry 1 2) ∷ case_object_line 0 6 (accepted_entry 2) ∷ []) ∷ [])
    (answers.Old 0 0 ∷ answers.Old 0 0 ∷ answers.Clock 1 ∷ answers.Done 1 (0 ∷ []) ∷ answers.Clock 2 ∷ answers.Done 2 (1 ∷ [])
    ∷ answers.Signal 1 2 0 ∷ answers.Signal 0 2 0 ∷ [])

-- ---- of the signals of one expiry run the one whose timer was claimed second is named first: the script of two signals that wait in turn

-- a record that breaks it
abbrev pub swapped_record : RunRecord
swapped_record = signals_by 5 (answers.Signal 0 2 0) (answers.StaleSignal 1 2)

-- ---- a signal is told as stale beside the expiry run that sends it, and is pending from then on

-- the script
abbrev pub pending_script : Script
pending_script = case_script_in versions.Two 1 2 (kinds.Queued 0 ∷ []) ((by 0 (settime_to 100) ∷ by 0 (calls.Clock (writes.Advance 100)) ∷ [])
    ∷ (by 0 (hard_expire 0 4) ∷ by 1 calls.Sigwait ∷ []) ∷ [])

-- a record that breaks it
abbrev pub pending_record : RunRecord
pending_record = record (object_record (advance_line 0 1 100 ∷ []) (claimed_by 0 100 0 2 1 ∷ [])
    ((case_object_line 0 0 (set_entry_of 100 0 1 0) ∷ case_object_line 0 2 (counted_entry 1 1) ∷ []) ∷ [])
    ((answers.Old 0 0 ∷ answers.Clock 1 ∷ answers.Done 1 (0 ∷ []) ∷ []) ∷ (answers.StaleSignal 0 2 ∷ []) ∷ [])) { version = versions.Two }

-- ---- a signal is told as stale that was pending as long as its timer's history had room: the script of a settime that fills it

-- a record that breaks it
abbrev pub roomless_record : RunRecord
roomless_record = filled_by (answers.StaleSignal 0 2)

-- ---- a signal is accepted whose timer was set anew since, and expired again

-- the script
abbrev pub outdated_script : Script
outdated_script = expired_script (settime_to 200 ∷ calls.Clock (writes.Advance 100) ∷ hard_expire 0 4 ∷ calls.Sigwait ∷ [])

-- a record that breaks it
abbrev pub outdated_record : RunRecord
outdated_record = queued_record (advance_line 0 1 100 ∷ later_write 4 ∷ [])
    ((claimed_by 0 100 0 2 1 ++ line 0 3 (set_start 200 1 false) ∷ line 0 5 (claim_entry 0 2 4) ∷ line 0 5 (finish_entry false 4) ∷ []) ∷ [])
    ((case_object_line 0 0 (set_entry_of 100 0 1 0) ∷ case_object_line 0 2 (counted_entry 1 1) ∷ case_object_line 0 3 (set_entry_of 200 1 4 0)
    ∷ case_object_line 0 5 (counted_entry 4 2) ∷ case_object_line 0 6 (accepted_entry 2) ∷ []) ∷ [])
    (answers.Old 0 0 ∷ answers.Clock 1 ∷ answers.Done 1 (0 ∷ []) ∷ answers.Old 0 0 ∷ answers.Clock 2 ∷ answers.Done 2 (0 ∷ []) ∷ answers.Signal 0 2 0 ∷ [])
