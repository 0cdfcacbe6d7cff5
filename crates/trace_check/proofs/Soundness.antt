-- What is learned of an event that is not at misfit keeps what holds of all that is known.
use Rattle.std.proofs.Common.{◌≡◌, ◌≢◌, ◌<◌, ℕ, ◌+◌, Bool, true, false, ◌&&◌, if◌then◌else◌, ◌⊎◌, Option, Some, None, List, [], ◌∷◌, refl, sym, ap, subst, ◌∙◌, inl, inr, arith}
use Rattle.std.specs.Prelude.{is_some}
use Rattle.std.specs.List.{AllByRecursion}
use Rattle.std.proofs.lemmas.Bool.{cases_eq}
use Rattle.ktime.specs.declared.clock_id.ClockId.{ClockId}
use Rattle.seq_timer.specs.declared.context.Context.{Context}
use Rattle.seq_timer.specs.Systems.{updated}
use Rattle.seq_timer.specs.declared.context.Context.TheVariants as contexts
use Rattle.seq_timer.proofs.Systems.{updated_here, updated_else}
use Rattle.trace_text.specs.declared.event.KernelEvent.{KernelEvent}
use Rattle.trace_text.specs.declared.event.KernelEvent.TheVariants as kernel
use Rattle.trace_text.specs.declared.event.Site.{Site}
use Rattle.trace_check.specs.declared.known.OrderedExpiry.{OrderedExpiry}
use Rattle.trace_check.specs.declared.known.FunctionKnown.{FunctionKnown}
use Rattle.trace_check.specs.declared.known.FunctionKnown.TheVariants as functions
use Rattle.trace_check.specs.declared.known.HalfKnown.TheVariants as halves
use Rattle.trace_check.specs.declared.known.KnownProcessor.{KnownProcessor}
use Rattle.trace_check.specs.declared.known.KnownTimer.{KnownTimer}
use Rattle.trace_check.specs.Knowledge.{entered_there, exited_there, has_running, home_by, is_inside, Knowledge, known_cancelled, known_entered, known_exited, known_outer, known_set_up, known_started, learned, left_for, misfit, misfits_of, no_knowledge, outer_by, rests, with_outer}
use Rattle.trace_check.specs.Traced.{context_at}
use Rattle.trace_check.proofs.Agreement.{Holds, Sound, SoundAt, SoundFunction, SoundOrder, SoundThere}
use Rattle.trace_check.proofs.Parts.{IsKnown, all_fail, inside_or, line_known, same_some, told_entered, told_left, waits_with}
use Rattle.trace_check.proofs.OnProcessors.{outer_of, unblocked}
use Rattle.trace_check.proofs.Placing.{hard_was, holds_begun, holds_outer, holds_still, not_none, not_there, outer_function, outer_is, outer_same, place_begun, place_else, place_of, place_outer, place_same, places_with, rest_was, rests_not, runs_still, runs_there, same_runs, soft_was, told_soft, untold_taken}

-- ---- one timer changes

each_but : (there : ℕ → KnownProcessor) (n : ℕ) (f : ℕ → KnownTimer) (t : ℕ) (known : KnownTimer) → SoundAt there n t known
    → ((u : ℕ) → u ≢ t → SoundAt there n u (f u)) → (u : ℕ) → SoundAt there n u (updated f t known u)
each_but there n f t known here others u =
    elim (cases_eq u t) [
      | inl same ↦ subst (λ v. SoundAt there n v (updated f t known v)) (sym same) (subst (λ k. SoundAt there n t k) (sym (updated_here f t known)) here)
      | inr other ↦ subst (λ k. SoundAt there n u k) (sym (updated_else f t u known other)) (others u other)
    ]

later_order : (n : ℕ) (known : KnownTimer) (m : ℕ) → SoundOrder n known m → SoundOrder (n + 1) known m
later_order n known m o = record { past = omega (arith, o.past); rests = o.rests; armed = o.armed; clock = o.clock }

later : (there : ℕ → KnownProcessor) (n t : ℕ) (known : KnownTimer) → SoundAt there n t known → SoundAt there (n + 1) t known
later there n t known s = record { function = s.function; told = s.told; order = λ m some. later_order n known m (s.order m some) }

later_claims : (n : ℕ) (claims : List OrderedExpiry) → AllByRecursion (λ q. q.at < n) claims → AllByRecursion (λ q. q.at < n + 1) claims
later_claims n [] all = tt
later_claims n (q ∷ qs) all = (omega (arith, all.0), later_claims n qs all.1)

-- ---- each event

set_up_told : (context : Option Context) → IsKnown context context
set_up_told None = tt
set_up_told (Some x) = refl

pub sound_set_up : (k : Knowledge) (t : ℕ) (clock : Option ClockId) (context : Option Context) → Sound k → misfit k (kernel.SetUp t clock context) ≡ None
    → Sound (learned k (kernel.SetUp t clock context))
sound_set_up k t clock context s none =
    let fails = all_fail (misfits_of k (kernel.SetUp t clock context)) none in
    record {
      each = each_but k.processors (k.count + 1) k.timers t (known_set_up clock context)
          (record { function = tt; told = set_up_told context; order = λ m some. absurd (not_none some) })
          (λ u other. later k.processors k.count u (k.timers u) (s.each u));
      places = λ c. place_else k.timers c (k.processors c) t _ (s.places c) (not_there k.timers c (k.processors c) t (s.places c) fails.1.0);
      past = later_claims k.count k.claims s.past;
    }

pub sound_cancel : (k : Knowledge) (t : ℕ) → Sound k → misfit k (kernel.Cancel t) ≡ None → Sound (learned k (kernel.Cancel t))
sound_cancel k t s none =
    let fails = all_fail (misfits_of k (kernel.Cancel t)) none in
    record {
      each = each_but k.processors (k.count + 1) k.timers t (known_cancelled (k.timers t))
          (record { function = tt; told = (s.each t).told; order = λ m some. absurd (not_none some) })
          (λ u other. later k.processors k.count u (k.timers u) (s.each u));
      places = λ c. place_else k.timers c (k.processors c) t _ (s.places c) (not_there k.timers c (k.processors c) t (s.places c) fails.0);
      past = later_claims k.count k.claims s.past;
    }

runs_order : (n : ℕ) (b : Bool) (f : FunctionKnown) {c : ℕ} → f ≡ functions.Runs c → (if b && rests f then Some n else None) ≡ None
runs_order n true functions.Untold is = refl
runs_order n true functions.Rests is = absurd cc
runs_order n true (functions.Runs c) is = refl
runs_order n false f is = refl

function_started : (there : ℕ → KnownProcessor) (n t soft expires : ℕ) (known : KnownTimer) (f : FunctionKnown) → known.function ≡ f
    → SoundFunction there t known f
    → SoundFunction there t (known_started n soft expires known) f
function_started there n t soft expires known functions.Untold is s = (ap home_by is, rw (s.2) refl, s.2, s.3, s.4)
function_started there n t soft expires known functions.Rests is s = tt
function_started there n t soft expires known (functions.Runs c) is s = (s.0, runs_order n (is_some known.clock) known.function is, inr (ap home_by is))

order_started : (n soft expires : ℕ) (known : KnownTimer) (c : Option ClockId) (f : FunctionKnown) (m : ℕ) → known.clock ≡ c → known.function ≡ f
    → (if is_some c && rests f then Some n else None) ≡ Some m → SoundOrder (n + 1) (known_started n soft expires known) m
order_started n soft expires known (Some c) functions.Rests m clock function is = record {
  past = subst (λ i. i < n + 1) (same_some is) (omega arith);
  rests = function;
  armed = (soft, expires, refl);
  clock = (c, clock);
}
order_started n soft expires known (Some c) functions.Untold m clock function is = absurd (not_none is)
order_started n soft expires known (Some c) (functions.Runs p) m clock function is = absurd (not_none is)
order_started n soft expires known None f m clock function is = absurd (not_none is)

pub sound_start : (k : Knowledge) (t soft expires : ℕ) (was : Option Bool) → Sound k → Sound (learned k (kernel.Start t soft expires was))
sound_start k t soft expires was s =
    let known = k.timers t in
    record {
      each = each_but k.processors (k.count + 1) k.timers t (known_started k.count soft expires known) (record {
        function = function_started k.processors k.count t soft expires known known.function refl (s.each t).function;
        told = (s.each t).told;
        order = λ m some. order_started k.count soft expires known known.clock known.function m refl refl some;
      }) (λ u other. later k.processors k.count u (k.timers u) (s.each u));
      places = λ c. place_same k.timers c (k.processors c) t _ refl refl (s.places c);
      past = later_claims k.count k.claims s.past;
    }

-- ---- an expiry

function_outer : (there : ℕ → KnownProcessor) (t c : ℕ) (known : KnownTimer) (f : FunctionKnown) → f ≡ functions.Runs c → SoundFunction there t known f
    → SoundFunction there t (known_outer known) f
function_outer there t c known functions.Untold is s = absurd cc
function_outer there t c known functions.Rests is s = tt
function_outer there t c known (functions.Runs d) is s = s

order_outer : (n : ℕ) (known : KnownTimer) (m : ℕ) → SoundOrder n known m → SoundOrder n (known_outer known) m
order_outer n known m o = record { past = o.past; rests = o.rests; armed = o.armed; clock = o.clock }

at_outer : (there : ℕ → KnownProcessor) (n c : ℕ) (o : Option ℕ) (f : ℕ → KnownTimer) (v : ℕ) → SoundAt there n v (f v)
    → (o ≡ Some v → ((f v).function ≡ functions.Runs c) × ((f v).context ≡ Some contexts.Hard → ⊥)) → SoundAt there n v (with_outer o f v)
at_outer there n c o f v s outer = elim (cases_outer o v) [
  | inl is ↦ subst (λ k. SoundAt there n v k) (sym (outer_is o f v is)) (record {
    function = function_outer there v c (f v) (f v).function (outer is).0 s.function;
    told = told_soft (f v).told (f v).context s.told (outer is).1;
    order = λ m some. order_outer n (f v) m (s.order m some);
  })
  | inr other ↦ subst (λ k. SoundAt there n v k) (sym (outer_same o f v other)) s
]
  where
    cases_outer : (p : Option ℕ) (i : ℕ) → (p ≡ Some i) ⊎ (p ≡ Some i → ⊥)
    cases_outer None i = inr (λ is. not_none is)
    cases_outer (Some j) i = elim (cases_eq j i) [ inl same ↦ inl (ap Some same) | inr other ↦ inr (λ is. other (same_some is)) ]

-- what is known of another timer, whose function runs on, if it does
function_else : (there : ℕ → KnownProcessor) (c : ℕ) (there' : KnownProcessor) (u : ℕ) (known : KnownTimer) (f : FunctionKnown)
    → (Holds (there c) u → Holds there' u) → SoundFunction there u known f → SoundFunction (updated there c there') u known f
function_else there c there' u known functions.Untold still s = s
function_else there c there' u known functions.Rests still s = tt
function_else there c there' u known (functions.Runs d) still s = (
  elim (cases_eq d c) [
    | inl same ↦ subst (λ p. Holds p u) (sym (updated_here there c there') ∙ ap (λ e. updated there c there' e) (sym same))
        (still (subst (λ e. Holds (there e) u) same s.0))
    | inr other ↦ subst (λ p. Holds p u) (sym (updated_else there c d there' other)) s.0
  ],
  s.1,
  s.2,
)

else_where : (there : ℕ → KnownProcessor) (n c : ℕ) (there' : KnownProcessor) (u : ℕ) (known : KnownTimer) → (Holds (there c) u → Holds there' u)
    → SoundAt there n u known → SoundAt (updated there c there') (n + 1) u known
else_where there n c there' u known still s = record {
  function = function_else there c there' u known known.function still s.function;
  told = s.told;
  order = λ m some. later_order n known m (s.order m some);
}

pub sound_entry : (k : Knowledge) (t : ℕ) (site : Site) (now : ℕ) → Sound k → misfit k (kernel.Entry t site now) ≡ None
    → Sound (learned k (kernel.Entry t site now))
sound_entry k t site now s none =
    let fails = all_fail (misfits_of k (kernel.Entry t site now)) none in
    let known = k.timers t in
    let c = site.processor in
    let there = k.processors c in
    let inside = is_inside there in
    let line = context_at site.context known.told in
    let context = context_at site.context known.context in
    let free = unblocked context (outer_by there.loose k.timers) there fails.1.1.1.1.1.0 in
    let new = known_entered site inside known in
    let f = with_outer there.loose k.timers in
    let new_there = updated k.processors c (entered_there t line there) in
    let not_outer : there.loose ≡ Some t → ⊥ = λ is. runs_still known.function ((s.places c).loose t is) fails.0 in
    let still : has_running (f t).function ≡ false = ap has_running (outer_function there.loose k.timers t) ∙ fails.0 in
    let outer : (d : ℕ) → SoundThere f d (k.processors d) = λ d. place_outer k.timers d (k.processors d) there.loose (s.places d)
    (λ u some hard. free.hard u (subst (λ e. (k.processors e).hard ≡ halves.Taken u)
    (same_runs (sym ((s.places d).hard u hard).0 ∙ (s.places c).loose u some)) hard)) in
    let but : (d : ℕ) → SoundThere (updated f t new) d (k.processors d) = λ d.
    place_else f d (k.processors d) t new (outer d) (not_there f d (k.processors d) t (outer d) still) in
    let line_is : IsKnown line context = line_known site.context known.told known.context fails.1.1.1.0 (s.each t).told in
    let not_soft : inside ≡ true → context ≡ Some contexts.Soft → ⊥ = λ is soft. elim (outer_of there is) [
      | inl by ↦ free.around by.0 soft by.1
      | inr by ↦ free.loose by.0 soft by.1
    ] in
    record {
      each = each_but new_there (k.count + 1) f t new (record {
        function = (subst (λ p. Holds p t) (sym (updated_here k.processors c (entered_there t line there))) (holds_begun inside t line there), refl, inl refl);
        told = told_entered inside line context not_soft line_is;
        order = λ m some. absurd (not_none some);
      }) (λ u other. else_where k.processors k.count c (entered_there t line there) u (f u) (holds_outer inside t u line there refl free.hard)
          (at_outer k.processors k.count c there.loose k.timers u (s.each u) (λ is. (
            (s.places c).loose u is,
            λ hard. free.inside u (ap (λ o. outer_by o k.timers) is ∙ hard) is,
          ))));
      places = places_with (updated f t new) k.processors c (entered_there t line there) (λ d other. but d)
          (place_begun inside (updated f t new) c t line there refl (but c) (record {
            function = ap (λ i. i.function) (updated_here f t new);
            hard = λ is. ap (λ i. i.context) (updated_here f t new) ∙ ap (λ b. inside_or b context) is;
            told = λ is. subst (λ o. IsKnown line o) (sym (ap (λ i. i.context) (updated_here f t new) ∙ ap (λ b. inside_or b context) is)) line_is;
          }));
      past = waits_with k.count c line known.armed known.clock known.order k.claims (λ q. q.at < k.count + 1)
          (later_claims k.count k.claims s.past) (λ y soft expires j clock told until on order. omega arith);
    }

-- ---- a return

pub sound_exit : (k : Knowledge) (t : ℕ) (site : Site) → Sound k → misfit k (kernel.Exit t site) ≡ None → Sound (learned k (kernel.Exit t site))
sound_exit k t site s none =
    let fails = all_fail (misfits_of k (kernel.Exit t site)) none in
    let known = k.timers t in
    let c = site.processor in
    let there = k.processors c in
    let line = context_at site.context known.told in
    let context = context_at site.context known.context in
    let left = left_for known.function there in
    let closing = context_at line left in
    let new = known_exited site there known in
    let new_there = updated k.processors c (exited_there t site known there) in
    let f = updated k.timers t new in
    record {
      each = each_but new_there (k.count + 1) k.timers t new (record {
        function = tt;
        told = told_left line context left (line_known site.context known.told known.context fails.0 (s.each t).told);
        order = λ m some. absurd (rests_not known.function c line there ((s.each t).order m some).rests fails.1.0);
      }) (λ u other. else_where k.processors k.count c (exited_there t site known there) u (k.timers u)
          (holds_still closing t u there other) (s.each u));
      places = places_with f k.processors c (exited_there t site known there)
          (λ d other. place_else k.timers d (k.processors d) t new (s.places d) (λ u held same. other
          (runs_there known.function c d line there
          (ap (λ v. (k.timers v).function) (sym same) ∙ place_of k.timers d (k.processors d) u (s.places d) held) fails.1.0)))
          (record {
            hard = λ u is. let was = hard_was closing t u there is in
                subst (λ i. (i.function ≡ functions.Runs c) × (i.context ≡ Some contexts.Hard)) (sym (updated_else k.timers t u new was.1))
                ((s.places c).hard u was.0);
            soft = λ u is. let was = soft_was closing t u there is in
                subst (λ i. (i.function ≡ functions.Runs c) × (i.context ≡ Some contexts.Soft)) (sym (updated_else k.timers t u new was.1))
                ((s.places c).soft u was.0);
            loose = λ u is. let was = rest_was closing t u there is in
                ap (λ i. i.function) (updated_else k.timers t u new was.1) ∙ (s.places c).loose u was.0;
            apart = λ u v taken loose. (s.places c).apart u v (soft_was closing t u there taken).0 (rest_was closing t v there loose).0;
          });
      past = later_claims k.count k.claims s.past;
    }

-- ---- a beginning

pub sound_at_first : (n : ℕ) → Sound (no_knowledge n)
sound_at_first n = record {
  each = λ t. record { function = (refl, refl, refl, refl, refl); told = tt; order = λ m some. absurd (not_none some) };
  places = λ c. record {
    hard = λ t is. absurd (untold_taken is);
    soft = λ t is. absurd (untold_taken is);
    loose = λ t is. absurd (not_none is);
    apart = λ t u is loose. untold_taken is;
  };
  past = tt;
}

pub sound : (k : Knowledge) (e : KernelEvent) → Sound k → misfit k e ≡ None → Sound (learned k e)
sound k (kernel.SetUp t clock context) s none = sound_set_up k t clock context s none
sound k (kernel.Start t soft expires was) s none = sound_start k t soft expires was s
sound k (kernel.Cancel t) s none = sound_cancel k t s none
sound k (kernel.Entry t site now) s none = sound_entry k t site now s none
sound k (kernel.Exit t site) s none = sound_exit k t site s none
sound k kernel.Lost s none = sound_at_first (k.count + 1)
