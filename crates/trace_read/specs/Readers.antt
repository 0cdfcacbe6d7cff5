-- What a reader of lines knows of the text so far.
use Rattle.std.specs.Prelude.{ℕ, ◌≡◌, ◌++◌, Bool, List, Option, Some, None}
use Rattle.trace_check.specs.Checkers.{HoldsKnowledge}
use Rattle.trace_check.specs.Knowledge.{Knowledge}
use Rattle.trace_read.specs.declared.verdict.Verdict.{Verdict}
use Rattle.trace_read.specs.declared.reader.Reader.{Reader}
use Rattle.trace_text.specs.declared.event.KernelEvent.{KernelEvent}
use Rattle.trace_read.specs.declared.verdict.Verdict.TheVariants as verdicts
use Rattle.trace_read.specs.declared.tally.Tally.{Tally}
use Rattle.trace_read.specs.Lines.{events_in, judged, lines_from, trace_lines}
use Rattle.trace_read.specs.Tallies.{IsTallyOf, newest_first, onto_past}

-- the answer to the text so far with these bytes behind it, by what a reader holds
abbrev pub verdict_behind : Reader → Knowledge → List ℕ → Verdict
verdict_behind r k rest = judged r.number k r.timed (lines_from r.begun.items rest)

-- a reader's checker has taken what is known, it is known whether an event is a timer's, and all events are counted
pub record HasTaken (r : Reader) (known : Knowledge) (has_one : Bool) (past : List KernelEvent) : Type 0 where
  pub holds : HoldsKnowledge r.checker known
  pub events : r.events ≡ known.count
  pub timed : r.timed ≡ has_one
  pub tallies : IsTallyOf r.tally past

-- a reader has read so far that this is the answer, and that these are all events, by the bytes that come behind
pub record HasReadSoFar (r : Reader) (answer : List ℕ → Verdict) (told : List ℕ → List KernelEvent) : Type 0 where
  pub known : Knowledge
  pub holds : HoldsKnowledge r.checker known
  pub events : r.events ≡ known.count
  pub answers : (rest : List ℕ) → answer rest ≡ verdict_behind r known rest
  pub past : List KernelEvent
  pub tallies : IsTallyOf r.tally past
  pub tells : (rest : List ℕ) → told rest ≡ onto_past past (events_in (lines_from r.begun.items rest))

-- an answer before the end of a text: a line can't be read, or no history shows it
abbrev pub IsOfLine : Verdict → Type 0
IsOfLine (verdicts.Fits events) = ⊥
IsOfLine verdicts.NoEvents = ⊥
IsOfLine (verdicts.Refused line cause) = Unit {0}
IsOfLine (verdicts.Unreadable line what) = Unit {0}

-- after these bytes more there is an answer whatever follows, or the reader has read so far
abbrev pub ReadsOn : Option Verdict → Reader → (List ℕ → Verdict) → (List ℕ → List KernelEvent) → List ℕ → Type 0
ReadsOn (Some verdict) r answer told bytes = IsOfLine verdict × ((rest : List ℕ) → answer (bytes ++ rest) ≡ verdict)
ReadsOn None r answer told bytes = HasReadSoFar r (λ rest. answer (bytes ++ rest)) (λ rest. told (bytes ++ rest))

-- the events of a text, the newest first
abbrev pub told_by : List ℕ → List KernelEvent
told_by bytes = newest_first (events_in (trace_lines bytes))

-- where a text fits, a tally has the numbers of its events
abbrev pub IsTallied : Verdict → Tally → List KernelEvent → Type 0
IsTallied (verdicts.Fits events) t past = IsTallyOf t past
IsTallied verdicts.NoEvents t past = Unit {0}
IsTallied (verdicts.Refused line cause) t past = Unit {0}
IsTallied (verdicts.Unreadable line what) t past = Unit {0}
