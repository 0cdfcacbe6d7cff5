-- How the program ends.
use Rattle.std.specs.Prelude.{ℕ, Bool, true, false, List, codes, Some, None}
use Rattle.std.specs.declared.option.Option.{Option}
use Rattle.trace_top.specs.declared.status.Status.{Status}
use Rattle.trace_top.specs.declared.status.Status.TheVariants as statuses
use Rattle.trace_read.specs.declared.verdict.Verdict.{Verdict}
use Rattle.trace_read.specs.declared.verdict.Verdict.TheVariants as verdicts

-- the number that the process ends with
abbrev pub check_code : Status → ℕ
check_code statuses.Fits = 0
check_code statuses.Usage = 2
check_code statuses.Unreadable = 3
check_code statuses.ReadFault = 4
check_code statuses.WriteFault = 5
check_code statuses.OutOfMemory = 6
check_code statuses.Refused = 7
check_code statuses.NoEvents = 8

-- the line for standard error, where there is one
abbrev pub check_message : Status → Option (List ℕ)
check_message statuses.Fits = None
check_message statuses.Usage = Some (codes "usage: hrt_check [--summary] < TRACE")
check_message statuses.Unreadable = None
check_message statuses.ReadFault = Some (codes "hrt_check: read fault")
check_message statuses.WriteFault = Some (codes "hrt_check: write fault")
check_message statuses.OutOfMemory = Some (codes "hrt_check: out of memory")
check_message statuses.Refused = None
check_message statuses.NoEvents = None

-- how the program ends where a text is answered so
abbrev pub status_of : Verdict → Status
status_of (verdicts.Fits events) = statuses.Fits
status_of verdicts.NoEvents = statuses.NoEvents
status_of (verdicts.Refused line cause) = statuses.Refused
status_of (verdicts.Unreadable line what) = statuses.Unreadable

-- the program ends so where a text is answered
abbrev pub is_answer : Status → Bool
is_answer statuses.Fits = true
is_answer statuses.Usage = false
is_answer statuses.Unreadable = true
is_answer statuses.ReadFault = false
is_answer statuses.WriteFault = false
is_answer statuses.OutOfMemory = false
is_answer statuses.Refused = true
is_answer statuses.NoEvents = true
