-- What the check of a trace answers.
use Rattle.std.specs.Prelude.{ℕ, ℤ, ◌≡◌, ◌⊎◌, true, false, List}
use Rattle.trace_text.specs.declared.unreadable.Unreadable.{Unreadable}
use Rattle.trace_text.specs.declared.unreadable.Unreadable.TheVariants as wrong
use Rattle.trace_check.specs.declared.misfit.Misfit.{Misfit}
use Rattle.trace_check.specs.declared.misfit.Misfit.TheVariants as causes
use Rattle.trace_read.specs.declared.verdict.Verdict.{Verdict}
use Rattle.trace_read.specs.declared.verdict.Verdict.TheVariants as verdicts
use Rattle.trace_read.specs.Lines.{HasVerdict, LinesFit, events_in, has_timer_event, trace_lines}
use Rattle.trace_text.specs.declared.event.KernelEvent.{KernelEvent}
use Rattle.trace_read.specs.Readers.{told_by}
use Rattle.trace_read.specs.Tallies.{NamesProcessors, NamesTimers}
use Rattle.hulayban_trace.specs.declared.codes.TheConstants.{FITS, MISFIT, UNREADABLE, NO_EVENTS, NO_MEMORY}
use Rattle.hulayban_trace.specs.declared.causes.TheConstants.{CAUSE_SET_UP_ARMED, CAUSE_SET_UP_RUNNING, CAUSE_SOFT_AFTER_HARD, CAUSE_PAST_TIME, CAUSE_WAS_NOT_ARMED, CAUSE_WAS_ARMED, CAUSE_NOT_ARMED, CAUSE_RUNNING, CAUSE_OTHER_PROCESSOR, CAUSE_OTHER_CONTEXT, CAUSE_TOO_EARLY, CAUSE_SECOND_FUNCTION, CAUSE_OUT_OF_ORDER, CAUSE_NOT_RUNNING, CAUSE_NO_HRTIMER, CAUSE_NO_PROCESSOR, CAUSE_NO_CLOCKID, CAUSE_NO_MODE, CAUSE_NO_SOFTEXPIRES, CAUSE_NO_EXPIRES, CAUSE_NO_WAS_ARMED, CAUSE_NO_NOW, CAUSE_NO_TIMER_EVENTS}
use Rattle.hulayban_trace.specs.declared.checking.CheckAnswer.{CheckAnswer}

-- the number of a cause
abbrev pub cause_number : Misfit → ℕ
cause_number causes.SetUpArmed = CAUSE_SET_UP_ARMED
cause_number causes.SetUpRunning = CAUSE_SET_UP_RUNNING
cause_number causes.SoftAfterHard = CAUSE_SOFT_AFTER_HARD
cause_number causes.PastTime = CAUSE_PAST_TIME
cause_number causes.WasNotArmed = CAUSE_WAS_NOT_ARMED
cause_number causes.WasArmed = CAUSE_WAS_ARMED
cause_number causes.NotArmed = CAUSE_NOT_ARMED
cause_number causes.Running = CAUSE_RUNNING
cause_number causes.OtherProcessor = CAUSE_OTHER_PROCESSOR
cause_number causes.OtherContext = CAUSE_OTHER_CONTEXT
cause_number (causes.TooEarly soft now) = CAUSE_TOO_EARLY
cause_number (causes.SecondFunction timer) = CAUSE_SECOND_FUNCTION
cause_number causes.OutOfOrder = CAUSE_OUT_OF_ORDER
cause_number causes.NotRunning = CAUSE_NOT_RUNNING

-- the number of what is wrong in a line
abbrev pub what_number : Unreadable → ℕ
what_number wrong.Timer = CAUSE_NO_HRTIMER
what_number wrong.Processor = CAUSE_NO_PROCESSOR
what_number wrong.Clock = CAUSE_NO_CLOCKID
what_number wrong.Mode = CAUSE_NO_MODE
what_number wrong.SoftExpires = CAUSE_NO_SOFTEXPIRES
what_number wrong.Expires = CAUSE_NO_EXPIRES
what_number wrong.WasArmed = CAUSE_NO_WAS_ARMED
what_number wrong.Now = CAUSE_NO_NOW

-- a line, and what is wrong with it
abbrev pub of_line : ℕ → ℕ → CheckAnswer
of_line line cause = record { line = line; events = 0; timers = 0; processors = 0; soft = 0; now = 0; timer = 0; cause = cause }

-- what the check tells of a line that doesn't fit
abbrev pub misfit_tells : ℕ → Misfit → CheckAnswer
misfit_tells line (causes.TooEarly soft now) = record (of_line line CAUSE_TOO_EARLY) { soft = soft; now = now }
misfit_tells line (causes.SecondFunction timer) = record (of_line line CAUSE_SECOND_FUNCTION) { timer = timer }
misfit_tells line cause = of_line line (cause_number cause)

-- what the check of a trace tells that is answered so, with so many timers and processors
abbrev pub check_tells : Verdict → ℕ → ℕ → ℤ × CheckAnswer
check_tells (verdicts.Fits events) timers processors = (FITS, record (of_line 0 0) { events = events; timers = timers; processors = processors })
check_tells verdicts.NoEvents timers processors = (NO_EVENTS, of_line 0 CAUSE_NO_TIMER_EVENTS)
check_tells (verdicts.Refused line cause) timers processors = (MISFIT, misfit_tells line cause)
check_tells (verdicts.Unreadable line what) timers processors = (UNREADABLE, of_line line (what_number what))

-- where a text fits, these are how many timers and processors its events name
abbrev pub CountsNamed : Verdict → List KernelEvent → ℕ → ℕ → Type 0
CountsNamed (verdicts.Fits events) past timers processors = NamesTimers past timers × NamesProcessors past processors
CountsNamed verdicts.NoEvents past timers processors = Unit {0}
CountsNamed (verdicts.Refused line cause) past timers processors = Unit {0}
CountsNamed (verdicts.Unreadable line what) past timers processors = Unit {0}

-- what is told tells how a text is answered, and the answer means what it says
pub record IsChecked (text : List ℕ) (told : ℤ × CheckAnswer) : Type 0 where
  pub verdict : Verdict
  pub answers : HasVerdict text verdict
  pub timers : ℕ
  pub processors : ℕ
  pub named : CountsNamed verdict (told_by text) timers processors
  pub tells : told ≡ check_tells verdict timers processors

-- the check of a text: it is answered so, or memory has run out; as one that fits exactly where each line can be read, all that they tell fits, and one
-- tells an event of a timer
pub record AnswersCheck (text : List ℕ) (returned : ℤ) (before after : CheckAnswer) : Type 0 where
  pub answer : IsChecked text (returned, after) ⊎ ((returned ≡ NO_MEMORY) × (after ≡ before))
  pub fits : LinesFit (trace_lines text) → has_timer_event (events_in (trace_lines text)) ≡ true → (returned ≡ FITS) ⊎ (returned ≡ NO_MEMORY)
  pub empty : LinesFit (trace_lines text) → has_timer_event (events_in (trace_lines text)) ≡ false → (returned ≡ NO_EVENTS) ⊎ (returned ≡ NO_MEMORY)
  pub unfit : (LinesFit (trace_lines text) → ⊥) → (returned ≡ MISFIT) ⊎ ((returned ≡ UNREADABLE) ⊎ (returned ≡ NO_MEMORY))
