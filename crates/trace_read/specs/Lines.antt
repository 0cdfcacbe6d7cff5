-- The lines of a text, and how they are answered.
use Rattle.std.specs.Prelude.{ℕ, ◌≡◌, ◌+◌, ◌==◌, ◌||◌, Bool, true, false, if◌then◌else◌, List, [], ◌∷◌, ◌++◌, length, Option, Some, None, option_map, Result, Ok, Err, IsOk}
use Rattle.std.specs.List.{AllByRecursion, flat_map, list_any}
use Rattle.std.specs.Option.{option_to_list}
use Rattle.trace_text.specs.declared.event.KernelEvent.{KernelEvent}
use Rattle.trace_text.specs.declared.event.KernelEvent.TheVariants as kernel
use Rattle.trace_text.specs.declared.unreadable.Unreadable.{Unreadable}
use Rattle.trace_text.specs.Reading.{event_line}
use Rattle.trace_check.specs.Fits.{FitsTrace}
use Rattle.trace_check.specs.Knowledge.{Knowledge, misfit, learned, no_knowledge}
use Rattle.trace_read.specs.declared.verdict.Verdict.{Verdict}
use Rattle.trace_read.specs.declared.verdict.Verdict.TheVariants as verdicts

-- the lines of bytes, of which the first begins with these
abbrev pub lines_from : List ℕ → List ℕ → List (List ℕ)
lines_from begun [] = begun ∷ []
lines_from begun (b ∷ bs) = if b == 10 then begun ∷ lines_from [] bs else lines_from (begun ++ b ∷ []) bs

-- the lines of a text: what stands before, between and behind its newlines
abbrev pub trace_lines : List ℕ → List (List ℕ)
trace_lines bytes = lines_from [] bytes

-- ---- what a text tells

-- the event of a line that was read
abbrev pub event_told : Result (Option KernelEvent) Unreadable → List KernelEvent
event_told (Ok event) = option_to_list event
event_told (Err what) = []

-- the events that lines tell, in order
abbrev pub events_in : List (List ℕ) → List KernelEvent
events_in lines = flat_map (λ line. event_told (event_line line)) lines

-- each line can be read
abbrev pub AreReadable : List (List ℕ) → Type 0
AreReadable lines = AllByRecursion (λ line. IsOk (event_line line)) lines

-- an event is a timer's, and no loss
abbrev pub is_of_timer : KernelEvent → Bool
is_of_timer (kernel.SetUp t clock context) = true
is_of_timer (kernel.Start t soft expires was_armed) = true
is_of_timer (kernel.Cancel t) = true
is_of_timer (kernel.Entry t site now) = true
is_of_timer (kernel.Exit t site) = true
is_of_timer kernel.Lost = false

-- one of these events is a timer's
abbrev pub has_timer_event : List KernelEvent → Bool
has_timer_event events = list_any is_of_timer events

-- these lines can be read, and what they tell fits
abbrev pub LinesFit : List (List ℕ) → Type 0
LinesFit lines = AreReadable lines × FitsTrace (events_in lines)

-- ---- how lines are answered one by one

-- what is known after a line
abbrev pub known_after : Knowledge → Result (Option KernelEvent) Unreadable → Knowledge
known_after k (Ok (Some event)) = learned k event
known_after k (Ok None) = k
known_after k (Err what) = k

-- the answer to line n, where it can't be read or no history shows it
abbrev pub line_verdict : ℕ → Knowledge → Result (Option KernelEvent) Unreadable → Option Verdict
line_verdict n k (Ok (Some event)) = option_map (λ cause. verdicts.Refused n cause) (misfit k event)
line_verdict n k (Ok None) = None
line_verdict n k (Err what) = Some (verdicts.Unreadable n what)

-- a verdict, or else a later one
abbrev pub verdict_or : Option Verdict → Verdict → Verdict
verdict_or None later = later
verdict_or (Some verdict) later = verdict

-- the answer behind the last line, by whether a line told a timer's event
abbrev pub verdict_at_end : Bool → ℕ → Verdict
verdict_at_end timed events = if timed then verdicts.Fits events else verdicts.NoEvents

-- the answer to lines, numbered on from n, behind those that told this
abbrev pub judged : ℕ → Knowledge → Bool → List (List ℕ) → Verdict
judged n k timed [] = verdict_at_end timed k.count
judged n k timed (line ∷ lines) = verdict_or (line_verdict n k (event_line line))
    (judged (n + 1) (known_after k (event_line line)) (timed || has_timer_event (event_told (event_line line))) lines)

-- the answer to a text
abbrev pub verdict_on : List ℕ → Verdict
verdict_on bytes = judged 1 (no_knowledge 0) false (trace_lines bytes)

-- ---- what an answer means

-- the line of this number, of which those before it can be read and fit
pub record IsFirst (lines : List (List ℕ)) (n : ℕ) : Type 0 where
  pub front : List (List ℕ)
  pub line : List ℕ
  pub rest : List (List ℕ)
  pub cut : lines ≡ front ++ line ∷ rest
  pub number : n ≡ length front + 1
  pub fits : LinesFit front

-- all lines can be read and fit, and tell so many events, one of a timer at least, or none of a timer; or with a line that can be
-- read, behind lines that fit, no history shows the lines so far; or it can't be read
abbrev pub Means : List (List ℕ) → Verdict → Type 0
Means lines (verdicts.Fits events) = LinesFit lines × (events ≡ length (events_in lines)) × (has_timer_event (events_in lines) ≡ true)
Means lines verdicts.NoEvents = LinesFit lines × (has_timer_event (events_in lines) ≡ false)
Means lines (verdicts.Refused n cause) =
    (first : IsFirst lines n) × IsOk (event_line first.line) × (FitsTrace (events_in (first.front ++ first.line ∷ [])) → ⊥)
Means lines (verdicts.Unreadable n what) = (first : IsFirst lines n) × (event_line first.line ≡ Err what)

-- a text is answered so, and the answer means what it says
abbrev pub HasVerdict : List ℕ → Verdict → Type 0
HasVerdict bytes verdict = (verdict_on bytes ≡ verdict) × Means (trace_lines bytes) verdict
