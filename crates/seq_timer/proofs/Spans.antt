-- Spans along a history: they do not overlap, a running generation is inside its own, and each has one generation.
use Rattle.std.proofs.Common.{◌≡◌, ◌+◌, ◌-◌, ◌<◌, ◌≤◌, ◌⊎◌, ℕ, zero, suc, true, false, Option, Some, None, List, [], ◌∷◌, length, take, slice_get, if◌then◌else◌, arith, sym, ap, ◌∙◌, subst, inl, inr}
use Rattle.std.specs.List.{AllByRecursion}
use Rattle.std.proofs.Math.Logic.{⊎_elim}
use Rattle.std.proofs.lemmas.Option.{same_Some}
use Rattle.seq_timer.specs.declared.context.Declared.{Declared}
use Rattle.seq_timer.specs.declared.context.Terms.{Terms}
use Rattle.seq_timer.specs.Steps.{Timer, opening, after, reply_to}
use Rattle.seq_timer.specs.Histories.{Entry, AreSteps, IsLegal, after_all, claim_in, finish_in, is_finish, next_finish, Span, with_span, spans_from, spans_of, IsInside}
use Rattle.seq_timer.specs.Laws.{AreApart, IsInOne, IsOfOneGeneration}
use Rattle.seq_timer.proofs.StepKinds.{IsClaiming, IsFinishing, IsPassing, kind_of}

-- ---- spans do not overlap

pub all_follow : (P Q : Span → Type 0) → ((s : Span) → P s → Q s) → (spans : List Span) → AllByRecursion P spans → AllByRecursion Q spans
all_follow P Q step [] all = tt
all_follow P Q step (s ∷ ss) all = (step s all.0, all_follow P Q step ss all.1)

-- the spans among entries that are numbered from here begin here or later
pub spans_begin : (number : ℕ) (history : List Entry) → AllByRecursion (λ s. number ≤ s.claim) (spans_from number history)
spans_begin number [] = tt
spans_begin number (e ∷ es) = with (claim_in e.reply) (next_finish (number + 1) es)
    (all_follow (λ s. number + 1 ≤ s.claim) (λ s. number ≤ s.claim) (λ s later. omega arith) (spans_from (number + 1) es) (spans_begin (number + 1) es))
  where
    with : (told : Option ℕ) (finish : ℕ) → AllByRecursion (λ s. number ≤ s.claim) (spans_from (number + 1) es)
        → AllByRecursion (λ s. number ≤ s.claim) (with_span told number finish (spans_from (number + 1) es))
    with None finish rest = rest
    with (Some g) finish rest = (omega arith, rest)

-- the spans after an entry that claims nothing are those of the rest
pub spans-passing : (number : ℕ) (e : Entry) (es : List Entry) → claim_in e.reply ≡ None → spans_from number (e ∷ es) ≡ spans_from (number + 1) es
spans-passing number e es none = ap (λ told. with_span told number (next_finish (number + 1) es) (spans_from (number + 1) es)) none

-- and one more after a claim
pub spans-claiming : (number generation : ℕ) (e : Entry) (es : List Entry) → claim_in e.reply ≡ Some generation
    → spans_from number (e ∷ es) ≡ record { generation = generation; claim = number; finish = next_finish (number + 1) es } ∷ spans_from (number + 1) es
spans-claiming number generation e es told = ap (λ told. with_span told number (next_finish (number + 1) es) (spans_from (number + 1) es)) told

pub next_finish-passing : (number : ℕ) (e : Entry) (es : List Entry) → is_finish e.reply ≡ false → next_finish number (e ∷ es) ≡ next_finish (number + 1) es
next_finish-passing number e es other = ap (λ b. if b then number else next_finish (number + 1) es) other

pub next_finish-here : (number : ℕ) (e : Entry) (es : List Entry) → is_finish e.reply ≡ true → next_finish number (e ∷ es) ≡ number
next_finish-here number e es here = ap (λ b. if b then number else next_finish (number + 1) es) here

-- what the entry tells of its claim
told_by : (t : Timer) (e : Entry) (told : Option ℕ) → e.reply ≡ reply_to t e.event → claim_in (reply_to t e.event) ≡ told → claim_in e.reply ≡ told
told_by t e told replied is = ap claim_in replied ∙ is

-- while a function runs, nothing is claimed before the next finish
pub running_waits : (t : Timer) (number generation : ℕ) (history : List Entry) → t.running ≡ Some generation → AreSteps t history
    → AllByRecursion (λ s. next_finish number history < s.claim) (spans_from number history)
running_waits t number generation [] runs steps = tt
running_waits t number generation (e ∷ es) runs steps =
    let rest = λ (same : (after t e.event).running ≡ Some generation). running_waits (after t e.event) (number + 1) generation es same steps.2 in
    ⊎_elim
    (λ (claiming : IsClaiming t e.event). absurd (cc (runs, claiming.idle)))
    (λ others. ⊎_elim
    (λ (finishing : IsFinishing t e.event). subst (AllByRecursion (λ s. next_finish number (e ∷ es) < s.claim))
    (sym (spans-passing number e es (told_by t e None steps.1 finishing.told)))
    (subst (λ n. AllByRecursion (λ s. n < s.claim) (spans_from (number + 1) es))
    (sym (next_finish-here number e es (ap is_finish steps.1 ∙ finishing.finish)))
    (all_follow (λ s. number + 1 ≤ s.claim) (λ s. number < s.claim) (λ s later. omega arith) (spans_from (number + 1) es)
    (spans_begin (number + 1) es))))
    (λ (passing : IsPassing t e.event). subst (AllByRecursion (λ s. next_finish number (e ∷ es) < s.claim))
    (sym (spans-passing number e es (told_by t e None steps.1 passing.told)))
    (subst (λ n. AllByRecursion (λ s. n < s.claim) (spans_from (number + 1) es))
    (sym (next_finish-passing number e es (ap is_finish steps.1 ∙ passing.no_finish))) (rest (passing.runs ∙ runs))))
    others)
    (kind_of t e.event steps.0)

pub apart_from : (t : Timer) (number : ℕ) (history : List Entry) → AreSteps t history → AreApart (spans_from number history)
apart_from t number [] steps = tt
apart_from t number (e ∷ es) steps =
    let rest = apart_from (after t e.event) (number + 1) es steps.2 in
    ⊎_elim
    (λ (claiming : IsClaiming t e.event). subst AreApart
    (sym (spans-claiming number claiming.generation e es (told_by t e (Some claiming.generation) steps.1 claiming.told)))
    (running_waits (after t e.event) (number + 1) claiming.generation es claiming.runs steps.2, rest))
    (λ others. subst AreApart (sym
    (spans-passing number e es (told_by t e None steps.1
    (⊎_elim (λ (finishing : IsFinishing t e.event). finishing.told) (λ (passing : IsPassing t e.event). passing.told) others)))) rest)
    (kind_of t e.event steps.0)

-- ---- a running generation is inside its span

pub next_finish-from : (number : ℕ) (history : List Entry) → number ≤ next_finish number history
next_finish-from number [] = omega arith
next_finish-from number (e ∷ es) =
    let rest = next_finish-from (number + 1) es in
    elim (is_finish e.reply) as (λ b. number ≤ (if b then number else next_finish (number + 1) es)) [
      | true ↦ omega arith
      | false ↦ omega (arith, rest)
    ]

-- after some entries of a history a generation runs: it ran before and its finish isn't reached, or one of the spans is its
pub runs_inside : (t : Timer) (before count generation : ℕ) (history : List Entry) → AreSteps t history → count ≤ length history
    → (after_all t (take count history)).running ≡ Some generation
    → ((t.running ≡ Some generation) × (before + count < next_finish (before + 1) history)) ⊎ IsInOne generation (before + count)
    (spans_from (before + 1) history)
runs_inside t before zero generation history steps within runs = let from = next_finish-from (before + 1) history in inl (runs, omega (arith, from))
runs_inside t before (suc count) generation [] steps within runs = absurd (omega arith)
runs_inside t before (suc count) generation (e ∷ es) steps within runs =
    let later = runs_inside (after t e.event) (before + 1) count generation es steps.2 (omega arith) runs in
    let same : before + 1 + count ≡ before + suc count = omega arith in
    ⊎_elim
    (λ (claiming : IsClaiming t e.event).
    let spans = spans-claiming (before + 1) claiming.generation e es (told_by t e (Some claiming.generation) steps.1 claiming.told) in
    ⊎_elim
    (λ (still : ((after t e.event).running ≡ Some generation) × (before + 1 + count < next_finish (before + 1 + 1) es)).
    let which : Some claiming.generation ≡ Some generation = sym claiming.runs ∙ still.0 in
    inr (subst (IsInOne generation (before + suc count)) (sym spans)
    (inl (
      same_Some claiming.generation generation which,
      record { claimed = omega arith; unfinished = subst (λ n. n < next_finish (before + 1 + 1) es) same still.1 },
    ))))
    (λ (one : IsInOne generation (before + 1 + count) (spans_from (before + 1 + 1) es)). inr
    (subst (IsInOne generation (before + suc count)) (sym spans) (inr (subst (λ n. IsInOne generation n (spans_from (before + 1 + 1) es)) same one))))
    later)
    (λ others. ⊎_elim
    (λ (finishing : IsFinishing t e.event).
    let spans = spans-passing (before + 1) e es (told_by t e None steps.1 finishing.told) in
    ⊎_elim
    (λ (still : ((after t e.event).running ≡ Some generation) × (before + 1 + count < next_finish (before + 1 + 1) es)). absurd
    (cc (finishing.ended, still.0)))
    (λ (one : IsInOne generation (before + 1 + count) (spans_from (before + 1 + 1) es)). inr
    (subst (IsInOne generation (before + suc count)) (sym spans) (subst (λ n. IsInOne generation n (spans_from (before + 1 + 1) es)) same one)))
    later)
    (λ (passing : IsPassing t e.event).
    let spans = spans-passing (before + 1) e es (told_by t e None steps.1 passing.told) in
    ⊎_elim
    (λ (still : ((after t e.event).running ≡ Some generation) × (before + 1 + count < next_finish (before + 1 + 1) es)). inl (
      sym passing.runs ∙ still.0,
      subst (λ n. before + suc count < n) (sym (next_finish-passing (before + 1) e es (ap is_finish steps.1 ∙ passing.no_finish)))
          (subst (λ n. n < next_finish (before + 1 + 1) es) same still.1),
    ))
    (λ (one : IsInOne generation (before + 1 + count) (spans_from (before + 1 + 1) es)). inr
    (subst (IsInOne generation (before + suc count)) (sym spans) (subst (λ n. IsInOne generation n (spans_from (before + 1 + 1) es)) same one)))
    later)
    others)
    (kind_of t e.event steps.0)

pub legal_runs_inside : (clock : Declared) (terms : Terms) (stamp generation : ℕ) (history : List Entry) → IsLegal clock terms history
    → stamp ≤ length history → (after_all (opening clock terms) (take stamp history)).running ≡ Some generation → IsInOne generation stamp (spans_of history)
legal_runs_inside clock terms stamp generation history legal within runs =
    ⊎_elim
    (λ (before : (None ≡ Some generation) × (0 + stamp < next_finish (0 + 1) history)). absurd (cc before.0))
    (λ (one : IsInOne generation (0 + stamp) (spans_from (0 + 1) history)). subst (λ n. IsInOne generation n (spans_of history)) (plain stamp) one)
    (runs_inside (opening clock terms) 0 stamp generation history legal within runs)
  where
    plain : (n : ℕ) → 0 + n ≡ n
    plain n = omega arith

-- ---- a span has one generation

-- a generation that runs does so until its finish
pub runs_until : (t : Timer) (before count generation : ℕ) (history : List Entry) → AreSteps t history → t.running ≡ Some generation
    → count ≤ length history → before + count < next_finish (before + 1) history → (after_all t (take count history)).running ≡ Some generation
runs_until t before zero generation history steps runs within unfinished = runs
runs_until t before (suc count) generation [] steps runs within unfinished = absurd (omega arith)
runs_until t before (suc count) generation (e ∷ es) steps runs within unfinished =
    ⊎_elim
    (λ (claiming : IsClaiming t e.event). absurd (cc (runs, claiming.idle)))
    (λ others. ⊎_elim
    (λ (finishing : IsFinishing t e.event).
    let here = next_finish-here (before + 1) e es (ap is_finish steps.1 ∙ finishing.finish) in absurd (omega (arith, here, unfinished)))
    (λ (passing : IsPassing t e.event).
    let there = next_finish-passing (before + 1) e es (ap is_finish steps.1 ∙ passing.no_finish) in
    runs_until (after t e.event) (before + 1) count generation es steps.2 (passing.runs ∙ runs) (omega arith) (omega (arith, there, unfinished)))
    others)
    (kind_of t e.event steps.0)

-- the finish that ends the run answers it
pub finishes_as : (t : Timer) (before generation : ℕ) (history : List Entry) (e : Entry) → AreSteps t history → t.running ≡ Some generation
    → slice_get history (next_finish (before + 1) history - (before + 1)) ≡ Some e → finish_in e.reply ≡ Some generation
finishes_as t before generation [] e steps runs found = absurd (cc found)
finishes_as t before generation (x ∷ xs) e steps runs found =
    ⊎_elim
    (λ (claiming : IsClaiming t x.event). absurd (cc (runs, claiming.idle)))
    (λ others. ⊎_elim
    (λ (finishing : IsFinishing t x.event).
    let here = next_finish-here (before + 1) x xs (ap is_finish steps.1 ∙ finishing.finish) in
    let first : next_finish (before + 1) (x ∷ xs) - (before + 1) ≡ 0 = omega (arith, here) in
    let is : Some x ≡ Some e = subst (λ n. slice_get (x ∷ xs) n ≡ Some e) first found in
    subst (λ (y : Entry). finish_in y.reply ≡ Some generation) (same_Some x e is) (ap finish_in steps.1 ∙ finishing.answers generation runs))
    (λ (passing : IsPassing t x.event).
    let there = next_finish-passing (before + 1) x xs (ap is_finish steps.1 ∙ passing.no_finish) in
    let from = next_finish-from (before + 1 + 1) xs in
    let next : next_finish (before + 1) (x ∷ xs) - (before + 1) ≡ suc (next_finish (before + 1 + 1) xs - (before + 1 + 1)) = omega (arith, there, from) in
    finishes_as (after t x.event) (before + 1) generation xs e steps.2 (passing.runs ∙ runs) (subst (λ n. slice_get (x ∷ xs) n ≡ Some e) next found))
    others)
    (kind_of t x.event steps.0)

-- of a span among entries that follow so many others: it begins after them, and its generation alone runs inside it
pub record IsOwn (t : Timer) (before : ℕ) (history : List Entry) (span : Span) : Type 0 where
  pub begins : before < span.claim
  pub runs : (count : ℕ) → IsInside span (before + count) → count ≤ length history → (after_all t (take count history)).running ≡ Some span.generation
  pub finishes : (e : Entry) → slice_get history (span.finish - (before + 1)) ≡ Some e → finish_in e.reply ≡ Some span.generation

pub later_own : (t : Timer) (before : ℕ) (e : Entry) (es : List Entry) (span : Span) → (before + 1 < span.finish)
    → IsOwn (after t e.event) (before + 1) es span → IsOwn t before (e ∷ es) span
later_own t before e es span ends own = record {
  begins = let b = own.begins in omega (arith, b);
  runs = runs;
  finishes = λ x found. let next : span.finish - (before + 1) ≡ suc (span.finish - (before + 1 + 1)) = omega arith in own.finishes x
      (subst (λ n. slice_get (e ∷ es) n ≡ Some x) next found);
}
  where
    runs : (count : ℕ) → IsInside span (before + count) → count ≤ length (e ∷ es) → (after_all t (take count (e ∷ es))).running ≡ Some span.generation
    runs zero inside within = let b = own.begins in let c = inside.claimed in absurd (omega (arith, b, c))
    runs (suc count) inside within =
        let same : before + suc count ≡ before + 1 + count = omega arith in
        own.runs count (subst (IsInside span) same inside) (omega arith)

-- a span of entries ends after it begins
pub spans_end : (number : ℕ) (history : List Entry) → AllByRecursion (λ s. s.claim < s.finish) (spans_from number history)
spans_end number [] = tt
spans_end number (e ∷ es) = with (claim_in e.reply) (spans_end (number + 1) es)
  where
    with : (told : Option ℕ) → AllByRecursion (λ s. s.claim < s.finish) (spans_from (number + 1) es)
        → AllByRecursion (λ s. s.claim < s.finish) (with_span told number (next_finish (number + 1) es) (spans_from (number + 1) es))
    with None rest = rest
    with (Some g) rest = let from = next_finish-from (number + 1) es in (omega (arith, from), rest)

pub all_both : (P Q : Span → Type 0) (spans : List Span) → AllByRecursion P spans → AllByRecursion Q spans → AllByRecursion (λ s. P s × Q s) spans
all_both P Q [] ps qs = tt
all_both P Q (s ∷ ss) ps qs = ((ps.0, qs.0), all_both P Q ss ps.1 qs.1)

pub spans_own : (t : Timer) (before : ℕ) (history : List Entry) → AreSteps t history
    → AllByRecursion (IsOwn t before history) (spans_from (before + 1) history)
spans_own t before [] steps = tt
spans_own t before (e ∷ es) steps =
    let own = spans_own (after t e.event) (before + 1) es steps.2 in
    let rest = all_follow (λ s. IsOwn (after t e.event) (before + 1) es s × (s.claim < s.finish)) (IsOwn t before (e ∷ es))
    (λ s both. later_own t before e es s (let b = both.0.begins in let f = both.1 in omega (arith, b, f)) both.0)
    (spans_from (before + 1 + 1) es)
    (all_both (IsOwn (after t e.event) (before + 1) es) (λ s. s.claim < s.finish) (spans_from (before + 1 + 1) es) own
    (spans_end (before + 1 + 1) es)) in
    ⊎_elim
    (λ (claiming : IsClaiming t e.event). subst (AllByRecursion (IsOwn t before (e ∷ es)))
    (sym (spans-claiming (before + 1) claiming.generation e es (told_by t e (Some claiming.generation) steps.1 claiming.told)))
    (first_own claiming.generation claiming.runs, rest))
    (λ others. subst (AllByRecursion (IsOwn t before (e ∷ es)))
    (sym (spans-passing (before + 1) e es
    (told_by t e None steps.1 (⊎_elim (λ (finishing : IsFinishing t e.event). finishing.told)
    (λ (passing : IsPassing t e.event). passing.told) others)))) rest)
    (kind_of t e.event steps.0)
  where
    inside : (generation : ℕ) → (after t e.event).running ≡ Some generation → (count : ℕ)
        → IsInside (record { generation = generation; claim = before + 1; finish = next_finish (before + 1 + 1) es }) (before + count)
        → count ≤ length (e ∷ es) → (after_all t (take count (e ∷ es))).running ≡ Some generation
    inside generation runs zero within fits = let c = within.claimed in absurd (omega (arith, c))
    inside generation runs (suc count) within fits = let u = within.unfinished in runs_until (after t e.event)
        (before + 1) count generation es steps.2 runs (omega arith) (omega (arith, u))

    first_own : (generation : ℕ) → (after t e.event).running ≡ Some generation
        → IsOwn t before (e ∷ es) (record { generation = generation; claim = before + 1; finish = next_finish (before + 1 + 1) es })
    first_own generation runs = record {
      begins = omega arith;
      runs = inside generation runs;
      finishes = λ x found.
          let from = next_finish-from (before + 1 + 1) es in
          let next : next_finish (before + 1 + 1) es - (before + 1) ≡ suc (next_finish (before + 1 + 1) es - (before + 1 + 1)) = omega (arith, from) in
          finishes_as (after t e.event) (before + 1) generation es x steps.2 runs (subst (λ n. slice_get (e ∷ es) n ≡ Some x) next found);
    }

pub one_generation : (clock : Declared) (terms : Terms) (history : List Entry) → IsLegal clock terms history
    → AllByRecursion (IsOfOneGeneration clock terms history) (spans_of history)
one_generation clock terms history legal =
    all_follow (IsOwn (opening clock terms) 0 history) (IsOfOneGeneration clock terms history)
    (λ s own. record { runs = λ stamp within fits. own.runs stamp (subst (IsInside s) (plain stamp) within) fits; finishes = own.finishes })
    (spans_of history) (spans_own (opening clock terms) 0 history legal)
  where
    plain : (n : ℕ) → n ≡ 0 + n
    plain n = omega arith
