-- A queued timer is set to a time that has come, and expires, again and again. No signal is taken, so the queue fills up.
use Rattle.std.specs.Prelude.{ℕ, zero, suc, ◌+◌, false, List, [], ◌∷◌}
use Rattle.ktime.specs.declared.write.Write.TheVariants as writes
use Rattle.record_text.specs.declared.record.Answer.{Answer}
use Rattle.record_text.specs.declared.record.Answer.TheVariants as answers
use Rattle.record_text.specs.declared.record.ObjectEntry.{ObjectEntry}
use Rattle.record_text.specs.declared.record.ObjectEntry.TheVariants as object_entries
use Rattle.record_text.specs.declared.record.ObjectLine.{ObjectLine}
use Rattle.record_text.specs.declared.record.RunRecord.{RunRecord}
use Rattle.record_text.specs.declared.record.TimerLine.{TimerLine}
use Rattle.script_text.specs.declared.script.Call.{Call}
use Rattle.script_text.specs.declared.script.Call.TheVariants as calls
use Rattle.script_text.specs.declared.script.Script.{Script}
use Rattle.run_cases.specs.Lines.{advance_line, case_object_line, claim_entry, counted_entry, finish_entry, hard_expire, line, queued_record, queued_script, set_entry_of, set_start, settime_to}

-- so many times a settime, and the run by which the timer expires; then a call takes a signal
abbrev pub set_and_expire : ℕ → List Call
set_and_expire zero = calls.Sigwait ∷ []
set_and_expire (suc n) = settime_to 100 ∷ hard_expire 0 1 ∷ set_and_expire n

-- the script: it does so once more than signals may wait
abbrev pub full_queue_script : Script
full_queue_script = record (queued_script 1 (calls.Clock (writes.Advance 100) ∷ set_and_expire 65)) { limit = 1000 }

-- the timer's lines of so many times, from this call on, behind so many entries
abbrev pub set_and_expired : ℕ → ℕ → ℕ → List TimerLine
set_and_expired zero call before = []
set_and_expired (suc n) call before =
    line 0 call (set_start 100 1 false) ∷ line 0 (call + 1) (claim_entry 0 1 (before + 1)) ∷ line 0 (call + 1) (finish_entry false (before + 1))
    ∷ set_and_expired n (call + 1 + 1) (before + 1 + 1 + 1)

-- its object's lines: so many times the expiry counts, and then it has this entry, by its generation
abbrev pub set_and_signalled : (ℕ → ObjectEntry) → ℕ → ℕ → ℕ → List ObjectLine
set_and_signalled last zero call before =
    case_object_line 0 call (set_entry_of 100 1 (before + 1) 0) ∷ case_object_line 0 (call + 1) (last (before + 1)) ∷ []
set_and_signalled last (suc n) call before =
    case_object_line 0 call (set_entry_of 100 1 (before + 1) 0) ∷ case_object_line 0 (call + 1) (counted_entry (before + 1) 1)
    ∷ set_and_signalled last n (call + 1 + 1) (before + 1 + 1 + 1)

-- the answers: the signal that was sent first is taken, and is stale
abbrev pub set_and_told : ℕ → List Answer
set_and_told zero = answers.StaleSignal 0 2 ∷ []
set_and_told (suc n) = answers.Old 0 0 ∷ answers.More 1 (0 ∷ []) ∷ set_and_told n

-- the record, by the entry of the last expiry
abbrev pub full_queue_by : (ℕ → ObjectEntry) → RunRecord
full_queue_by last = queued_record (advance_line 0 0 100 ∷ []) (set_and_expired 65 1 0 ∷ []) (set_and_signalled last 64 1 0 ∷ [])
    (answers.Clock 1 ∷ set_and_told 65)

-- 64 signals wait, so the last expiry finds no room for its own: the record
abbrev pub full_queue_record : RunRecord
full_queue_record = full_queue_by (λ generation. object_entries.Overflow generation 1)

-- and one that breaks it: the last expiry counts too
abbrev pub overfull_queue_record : RunRecord
overfull_queue_record = full_queue_by (λ generation. counted_entry generation 1)
