-- Scripts whose lanes see one another's runs, with records of signals that fit them, and that don't.
use Rattle.std.specs.Prelude.{nat_eq, nat_lt, if◌then◌else◌, ℕ, false, List, [], ◌∷◌, ◌++◌, map, replicate}
use Rattle.std.specs.List.{range_with_len}
use Rattle.ktime.specs.declared.write.Write.TheVariants as writes
use Rattle.record_text.specs.declared.record.Answer.{Answer}
use Rattle.record_text.specs.declared.record.Answer.TheVariants as answers
use Rattle.record_text.specs.declared.record.Label.{Label}
use Rattle.record_text.specs.declared.record.ObjectEntry.{ObjectEntry}
use Rattle.record_text.specs.declared.record.ObjectEntry.TheVariants as object_entries
use Rattle.record_text.specs.declared.record.ObjectLine.{ObjectLine}
use Rattle.record_text.specs.declared.record.RunRecord.{RunRecord}
use Rattle.record_text.specs.declared.record.TimerLine.{TimerLine}
use Rattle.record_text.specs.declared.version.Version.TheVariants as versions
use Rattle.script_text.specs.declared.script.Call.TheVariants as calls
use Rattle.script_text.specs.declared.script.Kind.TheVariants as kinds
use Rattle.script_text.specs.declared.script.LaneCall.{LaneCall}
use Rattle.script_text.specs.declared.script.Script.{Script}
use Rattle.run_cases.specs.Lines.{accepted_entry, advance_line, at, by, case_object_line, case_script_in, claim_entry, claimed_by, counted_entry, finish_entry, hard_expire, line, object_record, set_entry_of, set_start, settime_of, settime_to}

-- a script of so many queued timers and two lanes, where lane 0 sets each to 100 and lets the time pass; then these rounds
abbrev pub beside_runs : ℕ → List (List LaneCall) → Script
beside_runs timers rounds = case_script_in versions.Two 1 2 (replicate timers (kinds.Queued 0))
    ((map (λ timer. by 0 (settime_of timer 100)) (range_with_len 0 timers) ++ by 0 (calls.Clock (writes.Advance 100)) ∷ []) ∷ rounds)

-- its record, where this call let the time pass
abbrev pub beside_record : ℕ → List (List TimerLine) → List (List ObjectLine) → List (List Answer) → RunRecord
beside_record write timers objects told = record (object_record (advance_line 0 write 100 ∷ []) timers objects told) { version = versions.Two }

-- ---- a lane looks at a queued timer beside the run by which it expires, and then waits for a signal

-- the script
abbrev pub early_wait_script : Script
early_wait_script = beside_runs 1 ((by 0 (hard_expire 0 4) ∷ by 1 (calls.Overrun 0) ∷ by 1 calls.Sigwait ∷ []) ∷ [])

-- by how many entries of the timer it saw
abbrev pub early_wait_by : ℕ → RunRecord
early_wait_by stamp = beside_record 1 (claimed_by 0 100 0 2 1 ∷ [])
    ((case_object_line 0 0 (set_entry_of 100 0 1 0) ∷ case_object_line 0 2 (counted_entry 1 1) ∷ []) ∷ [])
    ((answers.Old 0 0 ∷ answers.Clock 1 ∷ answers.Done 1 (0 ∷ []) ∷ []) ∷ (answers.Overrun 0 stamp ∷ answers.NoneQueued ∷ []) ∷ [])

-- its record: it looked before the expiry
abbrev pub early_wait_record : RunRecord
early_wait_record = early_wait_by 1

-- and one that breaks it: the lane had seen the expiry, and nobody took its signal
abbrev pub late_wait_record : RunRecord
late_wait_record = early_wait_by 2

-- ---- two queued timers expire in two lanes' runs: the second lane had seen the first one's expiry; then the signals are taken

-- the script
abbrev pub two_runs_script : Script
two_runs_script = beside_runs 2 ((by 0 (hard_expire 0 1) ∷ by 1 (calls.Overrun 0) ∷ by 1 (hard_expire 0 4) ∷ [])
    ∷ (by 0 calls.Sigwait ∷ by 0 calls.Sigwait ∷ []) ∷ [])

-- the lines of the objects of two timers that expired by these calls and whose signals were accepted by those
abbrev pub two_objects : Label → Label → Label → Label → List (List ObjectLine)
two_objects first second taken other =
    (case_object_line 0 0 (set_entry_of 100 0 1 0) ∷ record { label = first; entry = counted_entry 1 1; skips = [] }
    ∷ record { label = taken; entry = accepted_entry 1; skips = [] } ∷ [])
    ∷ (case_object_line 0 1 (set_entry_of 100 0 1 0) ∷ record { label = second; entry = counted_entry 1 1; skips = [] }
    ∷ record { label = other; entry = accepted_entry 1; skips = [] } ∷ []) ∷ []

-- by the calls that took the signals, and their answers
abbrev pub two_runs_by : ℕ → ℕ → Answer → Answer → RunRecord
two_runs_by taken other one two = beside_record 2 (claimed_by 0 100 0 3 1 ∷ claimed_by 1 100 1 1 1 ∷ [])
    (two_objects (at 0 3) (at 1 1) (at 0 taken) (at 0 other))
    ((answers.Old 0 0 ∷ answers.Old 0 0 ∷ answers.Clock 1 ∷ answers.More 1 (0 ∷ []) ∷ one ∷ two ∷ [])
    ∷ (answers.Overrun 0 2 ∷ answers.Done 1 (1 ∷ []) ∷ []) ∷ [])

-- its record
abbrev pub two_runs_record : RunRecord
two_runs_record = two_runs_by 4 5 (answers.Signal 0 2 0) (answers.Signal 1 2 0)

-- and one that breaks it: the signal is taken first whose lane had seen the other expiry
abbrev pub seen_older_record : RunRecord
seen_older_record = two_runs_by 5 4 (answers.Signal 1 2 0) (answers.Signal 0 2 0)

-- ---- two signals wait, and two lanes take them; the one had looked at the other's timer

-- the script
abbrev pub two_waits_script : Script
two_waits_script = beside_runs 2 ((by 0 (hard_expire 0 1) ∷ by 0 (hard_expire 0 4) ∷ [])
    ∷ (by 0 (calls.Overrun 1) ∷ by 0 calls.Sigwait ∷ by 1 calls.Sigwait ∷ []) ∷ [])

-- by how many entries of the timer it saw
abbrev pub two_waits_by : ℕ → RunRecord
two_waits_by stamp = beside_record 2 (claimed_by 0 100 0 3 1 ∷ claimed_by 1 100 0 4 1 ∷ [])
    (two_objects (at 0 3) (at 0 4) (at 0 6) (at 1 0))
    ((answers.Old 0 0 ∷ answers.Old 0 0 ∷ answers.Clock 1 ∷ answers.More 1 (0 ∷ []) ∷ answers.Done 1 (1 ∷ []) ∷ answers.Overrun 0 stamp
    ∷ answers.Signal 0 2 0 ∷ []) ∷ (answers.Signal 1 2 0 ∷ []) ∷ [])

-- its record: that timer's signal wasn't accepted yet
abbrev pub two_waits_record : RunRecord
two_waits_record = two_waits_by 2

-- and one that breaks it: the lane had seen the younger signal accepted, and takes the older one
abbrev pub crossed_waits_record : RunRecord
crossed_waits_record = two_waits_by 3

-- ---- a queued timer expires, is set anew by another lane, and expires again; then both signals are taken

-- the script
abbrev pub set_again_script : Script
set_again_script = beside_runs 1 ((by 0 (hard_expire 0 4) ∷ by 1 (settime_to 100) ∷ by 1 (hard_expire 0 4) ∷ [])
    ∷ (by 0 calls.Sigwait ∷ by 0 calls.Sigwait ∷ []) ∷ [])

-- by the call that accepted the second signal, and the answers of the two
abbrev pub set_again_by : ℕ → Answer → Answer → RunRecord
set_again_by call one two = beside_record 1
    ((claimed_by 0 100 0 2 1 ++ line 1 0 (set_start 100 1 false) ∷ line 1 1 (claim_entry 0 1 4) ∷ line 1 1 (finish_entry false 4) ∷ []) ∷ [])
    ((case_object_line 0 0 (set_entry_of 100 0 1 0) ∷ case_object_line 0 2 (counted_entry 1 1) ∷ case_object_line 1 0 (set_entry_of 100 1 4 0)
    ∷ case_object_line 1 1 (counted_entry 4 1) ∷ case_object_line 0 call (accepted_entry 1) ∷ []) ∷ [])
    ((answers.Old 0 0 ∷ answers.Clock 1 ∷ answers.Done 1 (0 ∷ []) ∷ one ∷ two ∷ []) ∷ (answers.Old 0 0 ∷ answers.Done 1 (0 ∷ []) ∷ []) ∷ [])

-- its record: the first one is stale
abbrev pub set_again_record : RunRecord
set_again_record = set_again_by 4 (answers.StaleSignal 0 2) (answers.Signal 0 4 0)

-- and one that breaks it: the younger one is taken first
abbrev pub turned_round_record : RunRecord
turned_round_record = set_again_by 3 (answers.Signal 0 4 0) (answers.StaleSignal 0 2)

-- ---- 65 queued timers that expire, and none of whose signals is accepted

-- what a timer has up to 64, and the last one
abbrev pub but_the_last : {X : Type 0} → X → X → ℕ → X
but_the_last each last timer = if nat_lt timer 64 then each else last

-- a timer's object: it is set, and expires by one of these calls, where the expiry of the last one has this entry
abbrev pub crowd_lines : Label → Label → ObjectEntry → ℕ → List ObjectLine
crowd_lines first second last timer = case_object_line 0 timer (set_entry_of 100 0 1 0)
    ∷ record { label = but_the_last first second timer; entry = but_the_last (counted_entry 1 1) last timer; skips = [] } ∷ []

-- the record, where the lanes were told so behind lane 0's settimes and its write
abbrev pub crowd_record : Label → Label → ObjectEntry → List Answer → List Answer → RunRecord
crowd_record first second last told other = beside_record 65
    (map (λ timer. claimed_by timer 100 (but_the_last first second timer).lane (but_the_last first second timer).call 1) (range_with_len 0 65))
    (map (crowd_lines first second last) (range_with_len 0 65))
    ((map (λ timer. answers.Old 0 0) (range_with_len 0 65) ++ answers.Clock 1 ∷ told) ∷ other ∷ [])

-- an expiry finds no room beside the run that sends 64 signals; then its lane finds no signal, and nobody has taken one: the script
abbrev pub full_then_empty_script : Script
full_then_empty_script = beside_runs 65 ((by 0 (hard_expire 0 64) ∷ by 1 (hard_expire 0 4) ∷ by 1 calls.Sigwait ∷ []) ∷ [])

-- its record, which breaks it
abbrev pub full_then_empty_record : RunRecord
full_then_empty_record = crowd_record (at 0 66) (at 1 0) (object_entries.Overflow 1 1) (answers.More 1 (range_with_len 0 64) ∷ [])
    (answers.Done 1 (64 ∷ []) ∷ answers.NoneQueued ∷ [])

-- an expiry counts while 64 signals wait; a lane that has seen it takes one of them, of a timer whose history is full: the script
abbrev pub room_too_late_script : Script
room_too_late_script = record (beside_runs 65 ((by 0 (hard_expire 0 64) ∷ [])
    ∷ (by 0 (hard_expire 0 4) ∷ by 1 (calls.Overrun 64) ∷ by 1 calls.Sigwait ∷ []) ∷ [])) { limit = 2 }

-- its record, which breaks it
abbrev pub room_too_late_record : RunRecord
room_too_late_record = crowd_record (at 0 66) (at 0 67) (counted_entry 1 1) (answers.More 1 (range_with_len 0 64) ∷ answers.Done 1 (64 ∷ []) ∷ [])
    (answers.Overrun 0 2 ∷ answers.SpentSignal 0 2 ∷ [])

-- the first expiry of a run finds no room, and the others count; another lane sees the first one, and then that the second one isn't there: the script
abbrev pub later_pushes_script : Script
later_pushes_script = beside_runs 65 ((by 0 (hard_expire 0 100) ∷ by 1 (calls.Overrun 0) ∷ by 1 (calls.Overrun 1) ∷ []) ∷ [])

-- a timer's object
abbrev pub later_lines : ℕ → List ObjectLine
later_lines timer = case_object_line 0 timer (set_entry_of 100 0 1 0)
    ∷ case_object_line 0 66 (if nat_eq timer 0 then object_entries.Overflow 1 1 else counted_entry 1 1) ∷ []

-- its record, which breaks it
abbrev pub later_pushes_record : RunRecord
later_pushes_record = beside_record 65 (map (λ timer. claimed_by timer 100 0 66 1) (range_with_len 0 65)) (map later_lines (range_with_len 0 65))
    ((map (λ timer. answers.Old 0 0) (range_with_len 0 65) ++ answers.Clock 1 ∷ answers.Done 1 (range_with_len 0 65) ∷ [])
    ∷ (answers.Overrun 0 2 ∷ answers.Overrun 0 1 ∷ []) ∷ [])
