-- What an answer to lines means.
use Rattle.std.proofs.Common.{◌≡◌, ◌+◌, ◌++◌, ◌∷◌, ◌∙◌, [], ℕ, Option, Some, None, Result, Ok, Err, List, length, refl, sym, ap, subst, arith}
use Rattle.std.specs.Prelude.{IsOk, Bool, true, false, ◌||◌, MatchBool, option_map}
use Rattle.trace_text.specs.declared.event.KernelEvent.{KernelEvent}
use Rattle.trace_text.specs.declared.event.KernelEvent.TheVariants as kernel
use Rattle.trace_text.specs.declared.unreadable.Unreadable.{Unreadable}
use Rattle.trace_text.specs.Reading.{event_line}
use Rattle.trace_check.specs.declared.misfit.Misfit.{Misfit}
use Rattle.trace_check.specs.Knowledge.{Knowledge, misfit, misfit_or, first_misfit, learned, no_knowledge}
use Rattle.trace_check.proofs.Histories.{fitting_fits, fits_without_misfit}
use Rattle.trace_read.specs.declared.verdict.Verdict.{Verdict}
use Rattle.trace_read.specs.declared.verdict.Verdict.TheVariants as verdicts
use Rattle.trace_read.specs.Lines as lines_spec
use Rattle.trace_read.specs.Lines.{HasVerdict, AreReadable, LinesFit, Means, verdict_at_end, events_in, has_timer_event, is_of_timer, judged, known_after, line_verdict, trace_lines, event_told, verdict_on, verdict_or}

-- lines can be read, and what they tell has no misfit behind what is known
abbrev Passes : Knowledge → List (List ℕ) → Type 0
Passes k lines = AreReadable lines × (first_misfit k (events_in lines) ≡ None)

-- the line of this number, of which those before it pass; the first one's number is n
record IsFirst (n : ℕ) (k : Knowledge) (lines : List (List ℕ)) (at : ℕ) : Type 0 where
  front : List (List ℕ)
  line : List ℕ
  rest : List (List ℕ)
  cut : lines ≡ front ++ line ∷ rest
  number : at ≡ n + length front
  passes : Passes k front

-- what an answer says, behind lines that told this
abbrev Says : ℕ → Knowledge → Bool → List (List ℕ) → Verdict → Type 0
Says n k timed lines (verdicts.Fits events) =
    Passes k lines × (events ≡ k.count + length (events_in lines)) × ((timed || has_timer_event (events_in lines)) ≡ true)
Says n k timed lines verdicts.NoEvents = Passes k lines × ((timed || has_timer_event (events_in lines)) ≡ false)
Says n k timed lines (verdicts.Refused at cause) = (first : IsFirst n k lines at) × IsOk (event_line first.line)
    × (first_misfit k (events_in (first.front ++ first.line ∷ [])) ≡ None → ⊥)
Says n k timed lines (verdicts.Unreadable at what) = (first : IsFirst n k lines at) × (event_line first.line ≡ Err what)

no_cause : (o : Option Misfit) (n : ℕ) → option_map (λ cause. verdicts.Refused n cause) o ≡ None → o ≡ None
no_cause None n is = refl
no_cause (Some cause) n is = absurd cc

-- a line that passes leaves the misfits to those behind it
same_misfit : (k : Knowledge) (line : List ℕ) (lines : List (List ℕ)) (r : Result (Option KernelEvent) Unreadable) (n : ℕ) → event_line line ≡ r
    → line_verdict n k r ≡ None → first_misfit k (events_in (line ∷ lines)) ≡ first_misfit (known_after k r) (events_in lines)
same_misfit k line lines (Ok None) n is none = rw is refl
same_misfit k line lines (Ok (Some event)) n is none = rw (is, no_cause (misfit k event) n none) refl
same_misfit k line lines (Err what) n is none = absurd cc

readable : (k : Knowledge) (line : List ℕ) (r : Result (Option KernelEvent) Unreadable) (n : ℕ) → event_line line ≡ r → line_verdict n k r ≡ None → IsOk (event_line line)
readable k line (Ok event) n is none = rw is refl
readable k line (Err what) n is none = absurd cc

abbrev one_more : (n : ℕ) (k : Knowledge) (line : List ℕ) (lines : List (List ℕ)) (r : Result (Option KernelEvent) Unreadable) (at : ℕ) → event_line line ≡ r
    → line_verdict n k r ≡ None → IsFirst (n + 1) (known_after k r) lines at → IsFirst n k (line ∷ lines) at
one_more n k line lines r at is none f = record {
  front = line ∷ f.front;
  line = f.line;
  rest = f.rest;
  cut = ap (λ ls. line ∷ ls) f.cut;
  number = omega (arith, f.number);
  passes = ((readable k line r n is none, f.passes.0), same_misfit k line f.front r n is none ∙ f.passes.1);
}

counted : (k : Knowledge) (e : KernelEvent) → (learned k e).count ≡ k.count + 1
counted k (kernel.SetUp t clock context) = refl
counted k (kernel.Start t soft expires was) = refl
counted k (kernel.Cancel t) = refl
counted k (kernel.Entry t site now) = refl
counted k (kernel.Exit t site) = refl
counted k kernel.Lost = refl

-- a line that passes counts as many events as it tells
one_event : (k : Knowledge) (line : List ℕ) (lines : List (List ℕ)) (r : Result (Option KernelEvent) Unreadable) (n : ℕ) → event_line line ≡ r
    → line_verdict n k r ≡ None → (known_after k r).count + length (events_in lines) ≡ k.count + length (events_in (line ∷ lines))
one_event k line lines (Ok None) n is none = rw is refl
one_event k line lines (Ok (Some event)) n is none = rw is (omega (arith, counted k event))
one_event k line lines (Err what) n is none = absurd cc

-- a line and those behind it have a timer's event where one of them has
abbrev timed_after : Bool → Result (Option KernelEvent) Unreadable → Bool
timed_after timed r = timed || has_timer_event (event_told r)

timed_there : (timed : Bool) (line : List ℕ) (lines : List (List ℕ)) (r : Result (Option KernelEvent) Unreadable) → event_line line ≡ r
    → (timed || has_timer_event (events_in (line ∷ lines))) ≡ (timed_after timed r || has_timer_event (events_in lines))
timed_there true line lines r is = refl
timed_there false line lines (Ok None) is = rw is refl
timed_there false line lines (Ok (Some event)) is = rw is (timed_by (is_of_timer event) (has_timer_event (events_in lines)))
  where
    timed_by : (a b : Bool) → (a || b) ≡ ((a || false) || b)
    timed_by true b = refl
    timed_by false b = refl
timed_there false line lines (Err what) is = rw is refl

-- what an answer to the lines behind one that passes says, with that one before
more : (n : ℕ) (k : Knowledge) (timed : Bool) (line : List ℕ) (lines : List (List ℕ)) (r : Result (Option KernelEvent) Unreadable) (v : Verdict)
    → event_line line ≡ r → line_verdict n k r ≡ None → Says (n + 1) (known_after k r) (timed_after timed r) lines v → Says n k timed (line ∷ lines) v
more n k timed line lines r (verdicts.Fits events) is none s = (
  ((readable k line r n is none, s.0.0), same_misfit k line lines r n is none ∙ s.0.1),
  s.1 ∙ one_event k line lines r n is none,
  timed_there timed line lines r is ∙ s.2,
)
more n k timed line lines r verdicts.NoEvents is none s =
    (((readable k line r n is none, s.0.0), same_misfit k line lines r n is none ∙ s.0.1), timed_there timed line lines r is ∙ s.1)
more n k timed line lines r (verdicts.Refused at cause) is none s = (
  one_more n k line lines r at is none s.0,
  s.1,
  λ no_misfit. s.2 (sym (same_misfit k line (s.0.front ++ s.0.line ∷ []) r n is none) ∙ no_misfit),
)
more n k timed line lines r (verdicts.Unreadable at what) is none s = (one_more n k line lines r at is none s.0, s.1)

-- the first line is the one
abbrev here : (n : ℕ) (k : Knowledge) (line : List ℕ) (lines : List (List ℕ)) → IsFirst n k (line ∷ lines) n
here n k line lines = record { front = []; line = line; rest = lines; cut = refl; number = omega arith; passes = (tt, refl) }

not_none : {n : ℕ} {cause : Misfit} → ◌≡◌ {A = Option (ℕ × Misfit)} (Some (n, cause)) None → ⊥
not_none e = absurd cc

misfit_there : (k : Knowledge) (line : List ℕ) (event : KernelEvent) (cause : Misfit) → event_line line ≡ Ok (Some event) → misfit k event ≡ Some cause
    → first_misfit k (events_in (line ∷ [])) ≡ None → ⊥
misfit_there k line event cause is found no_misfit =
    not_none (subst (λ o. misfit_or o k.count None ≡ None) found (subst (λ r. first_misfit k (event_told r ++ []) ≡ None) is no_misfit))

-- a line is answered itself
told_misfit : (n : ℕ) (k : Knowledge) (timed : Bool) (line : List ℕ) (lines : List (List ℕ)) (event : KernelEvent) (o : Option Misfit) (later : Verdict)
    → event_line line ≡ Ok (Some event) → misfit k event ≡ o → Says (n + 1) (learned k event) (timed_after timed (Ok (Some event))) lines later
    → Says n k timed (line ∷ lines) (verdict_or (option_map (λ cause. verdicts.Refused n cause) o) later)
told_misfit n k timed line lines event (Some cause) later is found s =
    (here n k line lines, rw is refl, λ no_misfit. misfit_there k line event cause is found no_misfit)
told_misfit n k timed line lines event None later is found s =
    more n k timed line lines (Ok (Some event)) later is (ap (λ o. option_map (λ cause. verdicts.Refused n cause) o) found) s

by_line : (n : ℕ) (k : Knowledge) (timed : Bool) (line : List ℕ) (lines : List (List ℕ)) (r : Result (Option KernelEvent) Unreadable) (later : Verdict)
    → event_line line ≡ r → Says (n + 1) (known_after k r) (timed_after timed r) lines later → Says n k timed (line ∷ lines) (verdict_or (line_verdict n k r) later)
by_line n k timed line lines (Ok None) later is s = more n k timed line lines (Ok None) later is refl s
by_line n k timed line lines (Ok (Some event)) later is s = told_misfit n k timed line lines event (misfit k event) later is refl s
by_line n k timed line lines (Err what) later is s = (here n k line lines, is)

says : (n : ℕ) (k : Knowledge) (timed : Bool) (lines : List (List ℕ)) → Says n k timed lines (judged n k timed lines)
says n k true [] = ((tt, refl), omega arith, refl)
says n k false [] = ((tt, refl), refl)
says n k timed (line ∷ lines) =
    let r = event_line line in
    by_line n k timed line lines r (judged (n + 1) (known_after k r) (timed_after timed r) lines) refl (says (n + 1) (known_after k r) (timed_after timed r) lines)

abbrev first_is : (lines : List (List ℕ)) (at : ℕ) → IsFirst 1 (no_knowledge 0) lines at → lines_spec.IsFirst lines at
first_is lines at f = record {
  front = f.front;
  line = f.line;
  rest = f.rest;
  cut = f.cut;
  number = omega (arith, f.number);
  fits = (f.passes.0, fitting_fits (events_in f.front) f.passes.1);
}

means : (lines : List (List ℕ)) (v : Verdict) → Says 1 (no_knowledge 0) false lines v → Means lines v
means lines (verdicts.Fits events) s = ((s.0.0, fitting_fits (events_in lines) s.0.1), omega (arith, s.1), s.2)
means lines verdicts.NoEvents s = ((s.0.0, fitting_fits (events_in lines) s.0.1), s.1)
means lines (verdicts.Refused at cause) s = (
  first_is lines at s.0,
  s.1,
  λ fits. s.2 (fits_without_misfit (events_in (s.0.front ++ s.0.line ∷ [])) fits),
)
means lines (verdicts.Unreadable at what) s = (first_is lines at s.0, s.1)

pub judged_means : (lines : List (List ℕ)) → Means lines (judged 1 (no_knowledge 0) false lines)
judged_means lines = means lines (judged 1 (no_knowledge 0) false lines) (says 1 (no_knowledge 0) false lines)

pub answered : (bytes : List ℕ) (v : Verdict) → verdict_on bytes ≡ v → HasVerdict bytes v
answered bytes v is = (is, subst (λ u. Means (trace_lines bytes) u) is (judged_means (trace_lines bytes)))

-- ---- what fits is answered so

neither : (o : Option Misfit) (n : ℕ) (later : Option (ℕ × Misfit)) → misfit_or o n later ≡ None → (o ≡ None) × (later ≡ None)
neither None n later none = (refl, none)
neither (Some cause) n later none = absurd cc

not_readable : (what : Unreadable) → IsOk {T = Option KernelEvent} (Err what) → ⊥
not_readable what h = absurd cc

fits_by : (n : ℕ) (k : Knowledge) (line : List ℕ) (lines : List (List ℕ)) (r : Result (Option KernelEvent) Unreadable) → event_line line ≡ r
    → Passes k (line ∷ lines) → (line_verdict n k r ≡ None) × Passes (known_after k r) lines
fits_by n k line lines (Ok None) is p = (refl, (p.0.1, subst (λ r. first_misfit k (event_told r ++ events_in lines) ≡ None) is p.1))
fits_by n k line lines (Ok (Some event)) is p =
    let both = neither (misfit k event) k.count _ (subst (λ r. first_misfit k (event_told r ++ events_in lines) ≡ None) is p.1) in
    (ap (λ o. option_map (λ cause. verdicts.Refused n cause) o) both.0, (p.0.1, both.1))
fits_by n k line lines (Err what) is p = absurd (not_readable what (subst (λ r. IsOk r) is p.0.0))

passes_fits : (n : ℕ) (k : Knowledge) (timed : Bool) (lines : List (List ℕ)) → Passes k lines → (events : ℕ)
    × (judged n k timed lines ≡ verdict_at_end (timed || has_timer_event (events_in lines)) events)
passes_fits n k true [] p = (k.count, refl)
passes_fits n k false [] p = (k.count, refl)
passes_fits n k timed (line ∷ lines) p =
    let r = event_line line in
    let first = fits_by n k line lines r refl p in
    let more = passes_fits (n + 1) (known_after k r) (timed_after timed r) lines first.1 in (
      more.0,
      ap (λ v. verdict_or v (judged (n + 1) (known_after k r) (timed_after timed r) lines)) first.0 ∙ more.1
          ∙ ap (λ b. verdict_at_end b more.0) (sym (timed_there timed line lines r refl)),
    )

-- the answer to a text whose lines can all be read and fit
pub fit_verdict : (bytes : List ℕ) → LinesFit (trace_lines bytes) → (events : ℕ)
    × (verdict_on bytes ≡ verdict_at_end (has_timer_event (events_in (trace_lines bytes))) events)
fit_verdict bytes fit = passes_fits 1 (no_knowledge 0) false (trace_lines bytes) (fit.0, fits_without_misfit (events_in (trace_lines bytes)) fit.1)

abbrev IsAnsweredBy : Verdict → Bool → Type 0
IsAnsweredBy v timed = MatchBool timed ((events : ℕ) × (v ≡ verdicts.Fits events)) (v ≡ verdicts.NoEvents)

fit_answer : (v : Verdict) (timed : Bool) (events : ℕ) → v ≡ verdict_at_end timed events → IsAnsweredBy v timed
fit_answer v true events is = (events, is)
fit_answer v false events is = is

pub fit_answered : (bytes : List ℕ) → LinesFit (trace_lines bytes) → IsAnsweredBy (verdict_on bytes) (has_timer_event (events_in (trace_lines bytes)))
fit_answered bytes fit = let found = fit_verdict bytes fit in fit_answer (verdict_on bytes) (has_timer_event (events_in (trace_lines bytes))) found.0 found.1

-- what a text is answered whose lines can all be read and fit, with a timer's event among them and without
pub fits_as : (bytes : List ℕ) (v : Verdict) → verdict_on bytes ≡ v → LinesFit (trace_lines bytes) → has_timer_event (events_in (trace_lines bytes)) ≡ true
    → (events : ℕ) × (v ≡ verdicts.Fits events)
fits_as bytes v is fit timed =
    let found = fit_verdict bytes fit in
    (found.0, sym is ∙ found.1 ∙ ap (λ b. verdict_at_end b found.0) timed)

pub empty_as : (bytes : List ℕ) (v : Verdict) → verdict_on bytes ≡ v → LinesFit (trace_lines bytes) → has_timer_event (events_in (trace_lines bytes)) ≡ false
    → v ≡ verdicts.NoEvents
empty_as bytes v is fit untimed = let found = fit_verdict bytes fit in sym is ∙ found.1 ∙ ap (λ b. verdict_at_end b found.0) untimed
