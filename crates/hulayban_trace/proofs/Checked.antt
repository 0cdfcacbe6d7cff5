-- What an answer to a text says of whether it fits.
use Rattle.std.specs.Prelude.{ℕ, ℤ, ◌≡◌, ◌⊎◌, List}
use Rattle.std.proofs.Common.{◌∙◌, refl, sym, ap, subst, inl, inr}
use Rattle.trace_read.specs.declared.verdict.Verdict.{Verdict}
use Rattle.trace_read.specs.declared.verdict.Verdict.TheVariants as verdicts
use Rattle.trace_read.specs.Lines.{HasVerdict, LinesFit, trace_lines}
use Rattle.trace_read.proofs.Meanings.{empty_as, fits_as}
use Rattle.trace_text.specs.declared.event.KernelEvent.{KernelEvent}
use Rattle.trace_read.specs.declared.tally.Tally.{Tally}
use Rattle.trace_read.specs.Readers.{IsTallied}
use Rattle.trace_read.specs.Tallies.{IsTallyOf, NamesProcessors, NamesTimers}
use Rattle.hulayban_trace.specs.declared.codes.TheConstants.{MISFIT, UNREADABLE, NO_MEMORY}
use Rattle.hulayban_trace.specs.declared.checking.CheckAnswer.{CheckAnswer}
use Rattle.hulayban_trace.specs.Checks.{AnswersCheck, CountsNamed, IsChecked, check_tells}

number_where_not : (text : List ℕ) (v : Verdict) (timers processors : ℕ) → HasVerdict text v → (LinesFit (trace_lines text) → ⊥)
    → ((check_tells v timers processors).0 ≡ MISFIT) ⊎ ((check_tells v timers processors).0 ≡ UNREADABLE)
number_where_not text (verdicts.Fits events) timers processors answers unfit = absurd (unfit answers.1.0)
number_where_not text verdicts.NoEvents timers processors answers unfit = absurd (unfit answers.1.0)
number_where_not text (verdicts.Refused line cause) timers processors answers unfit = inl refl
number_where_not text (verdicts.Unreadable line what) timers processors answers unfit = inr refl

one_of_three : (n : ℤ) → (n ≡ MISFIT) ⊎ (n ≡ UNREADABLE) → (n ≡ MISFIT) ⊎ ((n ≡ UNREADABLE) ⊎ (n ≡ NO_MEMORY))
one_of_three n (inl misfit) = inl misfit
one_of_three n (inr unreadable) = inr (inl unreadable)

pub checked : (text : List ℕ) (told : ℤ × CheckAnswer) (returned : ℤ) (before after : CheckAnswer) → IsChecked text told → returned ≡ told.0 → after ≡ told.1
    → AnswersCheck text returned before after
checked text told returned before after c code answer =
    let v = c.verdict in
    let number : returned ≡ (check_tells v c.timers c.processors).0 = code ∙ ap (λ (t : ℤ × CheckAnswer). t.0) c.tells in
    let both : ◌≡◌ {A = ℤ × CheckAnswer} (returned, after) told =
    ap (λ (r : ℤ). (r, after)) code ∙ ap (λ (a : CheckAnswer). (told.0, a)) answer in
    record {
      answer = inl (subst (IsChecked text) (sym both) c);
      fits = λ fit timed. inl (number ∙ ap (λ (u : Verdict). (check_tells u c.timers c.processors).0) (fits_as text v c.answers.0 fit timed).1);
      empty = λ fit untimed. inl (number ∙ ap (λ (u : Verdict). (check_tells u c.timers c.processors).0) (empty_as text v c.answers.0 fit untimed));
      unfit = λ unfit. one_of_three returned (rw number (number_where_not text v c.timers c.processors c.answers unfit));
    }

-- what a tally counts of a text that fits
pub named_by : (v : Verdict) (t : Tally) (past : List KernelEvent) (timers processors : ℕ) → IsTallied v t past
    → ((events : List KernelEvent) → IsTallyOf t events → NamesTimers events timers)
    → ((events : List KernelEvent) → IsTallyOf t events → NamesProcessors events processors) → CountsNamed v past timers processors
named_by (verdicts.Fits events) t past timers processors tallied named on = (named past tallied, on past tallied)
named_by verdicts.NoEvents t past timers processors tallied named on = tt
named_by (verdicts.Refused line cause) t past timers processors tallied named on = tt
named_by (verdicts.Unreadable line what) t past timers processors tallied named on = tt
