-- A trace fits exactly where none of its events is at misfit.
use Rattle.std.proofs.Common.{◌≡◌, ℕ, ◌+◌, Option, Some, None, List, [], ◌∷◌, take, refl, sym, ap, subst, arith, add-one}
use Rattle.trace_text.specs.declared.event.KernelEvent.{KernelEvent}
use Rattle.trace_text.specs.declared.event.KernelEvent.TheVariants as kernel
use Rattle.trace_check.specs.declared.misfit.Misfit.{Misfit}
use Rattle.trace_check.specs.Fits.{FitsTrace}
use Rattle.trace_check.specs.Knowledge.{first_misfit, Knowledge, learned, misfit, misfit_or, no_knowledge}
use Rattle.trace_check.proofs.Agreement.{Agrees, Sound}
use Rattle.trace_check.proofs.Back.{back, first_of, some_timers}
use Rattle.trace_check.proofs.Forth.{agrees_at_first, forth}
use Rattle.trace_check.proofs.ToPlain.{first_plain, plain_all, plain_history}
use Rattle.trace_check.proofs.FromPlain.{first_timers, model_history, size}
use Rattle.trace_check.proofs.Plain.{Happen, PlainTimers}
use Rattle.trace_check.proofs.Soundness.{sound, sound_at_first}

counted : (k : Knowledge) (e : KernelEvent) → (learned k e).count ≡ k.count + 1
counted k (kernel.SetUp t clock context) = refl
counted k (kernel.Start t soft expires was) = refl
counted k (kernel.Cancel t) = refl
counted k (kernel.Entry t site now) = refl
counted k (kernel.Exit t site) = refl
counted k kernel.Lost = refl

no_misfit : (o : Option Misfit) (n : ℕ) (later : Option (ℕ × Misfit)) → o ≡ None → later ≡ None → misfit_or o n later ≡ None
no_misfit None n later none no_later = no_later
no_misfit (Some cause) n later none no_later = absurd cc

neither : (o : Option Misfit) (n : ℕ) (later : Option (ℕ × Misfit)) → misfit_or o n later ≡ None → (o ≡ None) × (later ≡ None)
neither None n later none = (refl, none)
neither (Some cause) n later none = absurd cc

all_forth : (k : Knowledge) (w : PlainTimers) (es : List KernelEvent) → Sound k → Agrees k w → Happen k.count w es → first_misfit k es ≡ None
all_forth k w [] s a h = refl
all_forth k w (e ∷ es) s a h =
    let goes = forth k e w h.0 s a h.1 in
    no_misfit (misfit k e) k.count (first_misfit (learned k e) es) goes.0
    (all_forth (learned k e) h.0 es (sound k e s goes.0) goes.1 (subst (λ n. Happen n h.0 es) (sym (counted k e)) h.2))

all_back : (k : Knowledge) (es : List KernelEvent) → Sound k → first_misfit k es ≡ None → (w : PlainTimers) × Agrees k w × Happen k.count w es
all_back k [] s none = let w = some_timers k s in (w.0, w.1, tt)
all_back k (e ∷ es) s none =
    let both = neither (misfit k e) k.count (first_misfit (learned k e) es) none in
    let after = all_back (learned k e) es (sound k e s both.0) both.1 in
    let led = back k e after.0 s both.0 after.1 in
    (led.0, led.1, (after.0, led.2, subst (λ n. Happen n after.0 es) (counted k e) after.2))

pub fits_without_misfit : (es : List KernelEvent) → FitsTrace es → first_misfit (no_knowledge 0) es ≡ None
fits_without_misfit es f =
    all_forth (no_knowledge 0) (plain_all f.0) es (sound_at_first 0) (agrees_at_first 0 (plain_all f.0) (first_plain f.0 f.1)) (plain_history 0 f.0 es f.1.still f.2)

pub fitting_fits : (es : List KernelEvent) → first_misfit (no_knowledge 0) es ≡ None → FitsTrace es
fitting_fits es none =
    let led = all_back (no_knowledge 0) es (sound_at_first 0) none in
    let first = first_timers led.0 (size es) (first_of 0 led.0 led.1) in
    (first.0, first.1, model_history 0 first.0 led.0 es first.2 led.2)

-- ---- the first misfit

none_some : {o : Option (ℕ × Misfit)} {p : ℕ × Misfit} → o ≡ None → o ≡ Some p → ⊥
none_some a b = absurd cc

abbrev number_of : ℕ → Option (ℕ × Misfit) → ℕ
number_of n None = n
number_of n (Some p) = p.0

take_next : {X : Type 0} (m : ℕ) (x : X) (xs : List X) → take (m + 1) (x ∷ xs) ≡ x ∷ take m xs
take_next m x xs = rw add-one refl

some_number : (n m : ℕ) (a b : Misfit) → ◌≡◌ {A = Option (ℕ × Misfit)} (Some (n, a)) (Some (m, b)) → n ≡ m
some_number n m a b e = ap (λ o. number_of n o) e

abbrev Cut : Knowledge → List KernelEvent → ℕ → Misfit → Type 0
Cut k es n cause = (m : ℕ) × (n ≡ k.count + m) × (first_misfit k (take m es) ≡ None) × (first_misfit k (take (m + 1) es) ≡ Some (n, cause))

cut_by : (k : Knowledge) (e : KernelEvent) (es : List KernelEvent) (n : ℕ) (cause : Misfit) (o : Option Misfit) → misfit k e ≡ o
    → misfit_or o k.count (first_misfit (learned k e) es) ≡ Some (n, cause) → (first_misfit (learned k e) es ≡ Some (n, cause) → Cut (learned k e) es n cause)
    → Cut k (e ∷ es) n cause
cut_by k e es n cause (Some found) is first later = (0, omega (arith, some_number k.count n found cause first), refl, rw is first)
cut_by k e es n cause None is first later =
    let cut = later first in
    (cut.0 + 1, omega (arith, cut.1, counted k e), rw (take_next cut.0 e es, is) cut.2, rw (take_next (cut.0 + 1) e es, is) cut.3)

-- with no misfit before it
cut_before : (k : Knowledge) (es : List KernelEvent) (n : ℕ) (cause : Misfit) → first_misfit k es ≡ Some (n, cause)
    → (m : ℕ) × (n ≡ k.count + m) × (first_misfit k (take m es) ≡ None) × (first_misfit k (take (m + 1) es) ≡ Some (n, cause))
cut_before k [] n cause is = absurd cc
cut_before k (e ∷ es) n cause is = cut_by k e es n cause (misfit k e) refl is (cut_before (learned k e) es n cause)

pub first_misfit_first : (es : List KernelEvent) (n : ℕ) (cause : Misfit) → first_misfit (no_knowledge 0) es ≡ Some (n, cause)
    → FitsTrace (take n es) × (FitsTrace (take (n + 1) es) → ⊥)
first_misfit_first es n cause is =
    let cut = cut_before (no_knowledge 0) es n cause is in
    let same : n ≡ cut.0 = omega (arith, cut.1) in (
      fitting_fits (take n es) (subst (λ m. first_misfit (no_knowledge 0) (take m es) ≡ None) (sym same) cut.2),
      λ fits. none_some (fits_without_misfit (take (n + 1) es) fits)
          (subst (λ m. first_misfit (no_knowledge 0) (take (m + 1) es) ≡ Some (n, cause)) (sym same) cut.3),
    )
