-- How the program ends where a text is answered.
use Rattle.std.proofs.Common.{◌≡◌, ◌∙◌, ◌⊎◌, ℕ, List, refl, ap, inl, inr}
use Rattle.trace_read.specs.declared.verdict.Verdict.{Verdict}
use Rattle.trace_read.specs.declared.verdict.Verdict.TheVariants as verdicts
use Rattle.trace_read.specs.Lines.{LinesFit, trace_lines, verdict_on}
use Rattle.trace_read.proofs.Meanings.{answered, empty_as, fits_as}
use Rattle.trace_top.specs.Checking.{MayEnd, MustEnd}
use Rattle.trace_top.specs.Status.{status_of}
use Rattle.trace_top.specs.declared.status.Status.{Status}
use Rattle.trace_top.specs.declared.status.Status.TheVariants as statuses

unfit_by : (bytes : List ℕ) (status : Status) (v : Verdict) → verdict_on bytes ≡ v → status ≡ status_of v → (LinesFit (trace_lines bytes) → ⊥)
    → (status ≡ statuses.Refused) ⊎ ((status ≡ statuses.Unreadable) ⊎ (status ≡ statuses.OutOfMemory))
unfit_by bytes status (verdicts.Fits events) answer is unfit = absurd (unfit (answered bytes (verdicts.Fits events) answer).1.0)
unfit_by bytes status verdicts.NoEvents answer is unfit = absurd (unfit (answered bytes verdicts.NoEvents answer).1.0)
unfit_by bytes status (verdicts.Refused n cause) answer is unfit = inl is
unfit_by bytes status (verdicts.Unreadable n what) answer is unfit = inr (inl is)

must_by : (bytes : List ℕ) (status : Status) (v : Verdict) → verdict_on bytes ≡ v → status ≡ status_of v → MustEnd bytes status
must_by bytes status v answer is = record {
  fits = λ fit timed. inl (is ∙ ap status_of (fits_as bytes v answer fit timed).1);
  empty = λ fit untimed. inl (is ∙ ap status_of (empty_as bytes v answer fit untimed));
  other = λ unfit. unfit_by bytes status v answer is unfit;
}

pub must_answer : (bytes : List ℕ) (status : Status) → MayEnd bytes status → MustEnd bytes status
must_answer bytes status end = elim end [
  | inl is ↦ must_by bytes status (verdict_on bytes) refl is
  | inr spent ↦ record { fits = λ fit timed. inr spent; empty = λ fit untimed. inr spent; other = λ unfit. inr (inr spent) }
]
