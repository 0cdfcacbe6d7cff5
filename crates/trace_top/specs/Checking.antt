-- What was read of a source, and what was written for it.
use Rattle.std.specs.Prelude.{ℕ, ◌≡◌, ◌⊎◌, true, false, List, ◌++◌}
use Rattle.std.specs.Io.KnownBytes.{Consumes, IsAtEnd}
use Rattle.std.specs.declared.option.Option.{Option}
use Rattle.trace_top.specs.declared.status.Status.{Status}
use Rattle.trace_top.specs.declared.status.Status.TheVariants as statuses
use Rattle.trace_read.specs.declared.verdict.Verdict.{Verdict}
use Rattle.trace_read.specs.declared.verdict.Verdict.TheVariants as verdicts
use Rattle.trace_read.specs.Lines.{HasVerdict, LinesFit, events_in, has_timer_event, trace_lines, verdict_on}
use Rattle.trace_top.specs.declared.command.Asked.{Asked}
use Rattle.trace_top.specs.declared.command.Asked.TheVariants as asks
use Rattle.trace_top.specs.Status.{status_of}
use Rattle.byte_streams.specs.Streams.{AddsPrefix, GrowsBy}
use Rattle.trace_text.specs.declared.event.KernelEvent.{KernelEvent}
use Rattle.trace_read.specs.declared.tally.Tally.{Tally}
use Rattle.trace_read.specs.Readers.{IsTallied, told_by}
use Rattle.trace_read.specs.Tallies.{IsTallyOf, NamesProcessors, NamesTimers}
use Rattle.trace_top.specs.Texts.{fits_text, verdict_text, with_table}

-- these bytes were read, and they are answered so: as a whole, or whatever bytes follow
pub record IsJudged (left left_now : Option (List ℕ)) (verdict : Verdict) : Type 0 where
  pub bytes : List ℕ
  pub front : Consumes left left_now bytes
  pub answer : (IsAtEnd left_now × HasVerdict bytes verdict) ⊎ ((rest : List ℕ) → HasVerdict (bytes ++ rest) verdict)

-- how a text of which all bytes are known may end
abbrev pub MayEnd : List ℕ → Status → Type 0
MayEnd bytes status = (status ≡ status_of (verdict_on bytes)) ⊎ (status ≡ statuses.OutOfMemory)

-- the line of a trace that fits, of so many events: it tells how many timers and processors the events name, the newest of which stands first here
pub record IsFitsText (past : List KernelEvent) (events : ℕ) (text : List ℕ) : Type 0 where
  pub timers : ℕ
  pub processors : ℕ
  pub named : NamesTimers past timers
  pub on : NamesProcessors past processors
  pub line : text ≡ fits_text events timers processors

-- that line, and behind it the table of the numbers that the events have in them
pub record IsFitsTable (past : List KernelEvent) (events : ℕ) (text : List ℕ) : Type 0 where
  pub line : List ℕ
  pub fits : IsFitsText past events line
  pub tally : Tally
  pub counts : IsTallyOf tally past
  pub table : text ≡ with_table tally line

-- what is written for a verdict
abbrev pub IsToldAs : Asked → List KernelEvent → Verdict → List ℕ → Type 0
IsToldAs asks.Line past (verdicts.Fits events) text = IsFitsText past events text
IsToldAs asks.Summary past (verdicts.Fits events) text = IsFitsTable past events text
IsToldAs asked past verdict text = text ≡ verdict_text verdict

-- a text was read, this is its answer, and the program ends by it
pub record HasAnswered (asked : Asked) (left left_now : Option (List ℕ)) (status : Status) (text : List ℕ) : Type 0 where
  pub verdict : Verdict
  pub is : status ≡ status_of verdict
  pub read : IsJudged left left_now verdict
  pub told : IsToldAs asked (told_by read.bytes) verdict text

-- a text was read, and its answer was written
pub record HasTold (asked : Asked) (left left_now taken taken_now : Option (List ℕ)) (status : Status) : Type 0 where
  pub text : List ℕ
  pub answer : HasAnswered asked left left_now status text
  pub written : GrowsBy taken taken_now text

-- a text was read, and a prefix of its answer was written
pub record HasToldInPart (asked : Asked) (left left_now taken taken_now : Option (List ℕ)) : Type 0 where
  pub status : Status
  pub text : List ℕ
  pub answer : HasAnswered asked left left_now status text
  pub written : AddsPrefix taken taken_now text

-- what a check has read, and its answer, with the tally of the events where they fit
pub record HasChecked (left left_now : Option (List ℕ)) (verdict : Verdict) (tally : Tally) : Type 0 where
  pub read : IsJudged left left_now verdict
  pub tallied : IsTallied verdict tally (told_by read.bytes)

-- how a text of which all bytes are known must end: as one that fits exactly where it does and has an event of a timer
pub record MustEnd (bytes : List ℕ) (status : Status) : Type 0 where
  pub fits : LinesFit (trace_lines bytes) → has_timer_event (events_in (trace_lines bytes)) ≡ true → (status ≡ statuses.Fits) ⊎ (status ≡ statuses.OutOfMemory)
  pub empty : LinesFit (trace_lines bytes) → has_timer_event (events_in (trace_lines bytes)) ≡ false → (status ≡ statuses.NoEvents) ⊎ (status ≡ statuses.OutOfMemory)
  pub other : (LinesFit (trace_lines bytes) → ⊥) → (status ≡ statuses.Refused) ⊎ ((status ≡ statuses.Unreadable) ⊎ (status ≡ statuses.OutOfMemory))
