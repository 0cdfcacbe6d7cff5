-- The lines that the program writes.
use Rattle.std.specs.Prelude.{ℕ, false, List, [], ◌∷◌, ◌++◌, codes, Some, None}
use Rattle.std.specs.Fmt.{decimal, digits}
use Rattle.std.specs.List.{flat_map}
use Rattle.std.specs.declared.option.Option.{Option}
use Rattle.trace_read.specs.declared.tally.EventCounts.{EventCounts}
use Rattle.trace_read.specs.declared.tally.Latest.{Latest}
use Rattle.trace_read.specs.declared.tally.Tally.{Tally}
use Rattle.trace_text.specs.declared.unreadable.Unreadable.{Unreadable}
use Rattle.trace_text.specs.declared.unreadable.Unreadable.TheVariants as wrong
use Rattle.trace_check.specs.declared.misfit.Misfit.{Misfit}
use Rattle.trace_check.specs.declared.misfit.Misfit.TheVariants as causes
use Rattle.trace_read.specs.declared.verdict.Verdict.{Verdict}
use Rattle.trace_read.specs.declared.verdict.Verdict.TheVariants as verdicts

-- the word of a cause
abbrev pub misfit_word : Misfit → List ℕ
misfit_word causes.SetUpArmed = codes "SetUpArmed"
misfit_word causes.SetUpRunning = codes "SetUpRunning"
misfit_word causes.SoftAfterHard = codes "SoftAfterHard"
misfit_word causes.PastTime = codes "PastTime"
misfit_word causes.WasNotArmed = codes "WasNotArmed"
misfit_word causes.WasArmed = codes "WasArmed"
misfit_word causes.NotArmed = codes "NotArmed"
misfit_word causes.Running = codes "Running"
misfit_word causes.OtherProcessor = codes "OtherProcessor"
misfit_word causes.OtherContext = codes "OtherContext"
misfit_word (causes.TooEarly soft now) = codes "TooEarly"
misfit_word (causes.SecondFunction timer) = codes "SecondFunction"
misfit_word causes.OutOfOrder = codes "OutOfOrder"
misfit_word causes.NotRunning = codes "NotRunning"

-- what a cause tells beside its word
abbrev pub cause_rest : Misfit → List ℕ
cause_rest (causes.TooEarly soft now) = codes " soft " ++ decimal soft ++ codes " now " ++ decimal now
cause_rest (causes.SecondFunction timer) = codes " hrtimer " ++ digits 16 false timer
cause_rest cause = []

-- the word of what is wrong in a line
abbrev pub what_word : Unreadable → List ℕ
what_word wrong.Timer = codes "no hrtimer"
what_word wrong.Processor = codes "no processor"
what_word wrong.Clock = codes "no clockid"
what_word wrong.Mode = codes "no mode"
what_word wrong.SoftExpires = codes "no softexpires"
what_word wrong.Expires = codes "no expires"
what_word wrong.WasArmed = codes "no was_armed"
what_word wrong.Now = codes "no now"

-- the line that tells of this line, and the reason
abbrev pub told_line : ℕ → List ℕ → List ℕ
told_line line reason = codes "line " ++ decimal line ++ codes ": " ++ reason ++ 10 ∷ []

-- the line that tells where and why a trace doesn't fit, or can't be read, or that it has no event of a timer
abbrev pub verdict_text : Verdict → List ℕ
verdict_text (verdicts.Fits events) = []
verdict_text verdicts.NoEvents = codes "no timer events" ++ 10 ∷ []
verdict_text (verdicts.Refused line cause) = told_line line (misfit_word cause ++ cause_rest cause)
verdict_text (verdicts.Unreadable line what) = told_line line (what_word what)

-- how many events and timers a trace has
abbrev pub counts_text : ℕ → ℕ → List ℕ
counts_text events timers = codes "ok " ++ (decimal events ++ (codes " events, " ++ (decimal timers ++ codes " timers")))

-- the line for a trace that fits
abbrev pub fits_text : ℕ → ℕ → ℕ → List ℕ
fits_text events timers processors =
    counts_text events timers ++ codes ", " ++ decimal processors ++ (codes " processors" ++ 10 ∷ [])

-- ---- the table of `--summary`

-- a row of the table: what is counted, with spaces behind it, and how often it was
abbrev pub row_text : List ℕ → ℕ → List ℕ
row_text name count = name ++ decimal count ++ 10 ∷ []

-- a text with the rows of events behind it
abbrev pub with_events : EventCounts → List ℕ → List ℕ
with_events c text =
    (((((text ++ row_text (codes "set-ups                 ") c.set_ups) ++ row_text (codes "starts                  ") c.starts)
    ++ row_text (codes "cancels                 ") c.cancels) ++ row_text (codes "expiries                ") c.expiries)
    ++ row_text (codes "returns                 ") c.returns) ++ row_text (codes "losses                  ") c.losses

-- the row of the latest expiry on a processor in a context
abbrev pub late_text : List ℕ → ℕ → ℕ → List ℕ
late_text context processor late = codes "latest on " ++ decimal processor ++ codes " " ++ context ++ decimal late ++ codes " ns" ++ 10 ∷ []

-- it, where there was an expiry
abbrev pub latest_text : List ℕ → ℕ → Option ℕ → List ℕ
latest_text context processor None = []
latest_text context processor (Some late) = late_text context processor late

-- the rows of a processor
abbrev pub rows_of : ℕ → Latest → List ℕ
rows_of processor latest = latest_text (codes "hard       ") processor latest.hard ++ latest_text (codes "soft       ") processor latest.soft

-- a text with the table of a tally behind it
abbrev pub with_table : Tally → List ℕ → List ℕ
with_table t text =
    (with_events t.counts text ++ row_text (codes "most queued at once     ") t.most_armed) ++ flat_map (λ row. rows_of row.0 row.1) t.latest.entries
