-- Before a set-up, a cancel and a start that are no misfits there were timers that agree with what was known.
use Rattle.std.proofs.Common.{◌≡◌, ℕ, Bool, true, false, ◌&&◌, if◌then◌else◌, Option, Some, None, refl, sym, ap, ◌∙◌, inl, inr}
use Rattle.std.specs.Prelude.{IfSome, unwrap_or}
use Rattle.std.proofs.lemmas.Bool.{ltb-false}
use Rattle.ktime.specs.Times.{last_time}
use Rattle.ktime.specs.declared.clock_id.ClockId.{ClockId}
use Rattle.ktime.specs.declared.clock_id.ClockId.TheVariants as clocks
use Rattle.seq_timer.specs.declared.context.Context.{Context}
use Rattle.seq_timer.specs.declared.context.Context.TheVariants as contexts
use Rattle.trace_text.specs.declared.event.KernelEvent.TheVariants as kernel
use Rattle.trace_check.specs.declared.known.ArmedKnown.{ArmedKnown}
use Rattle.trace_check.specs.declared.known.ArmedKnown.TheVariants as arms
use Rattle.trace_check.specs.declared.known.FunctionKnown.{FunctionKnown}
use Rattle.trace_check.specs.declared.known.FunctionKnown.TheVariants as functions
use Rattle.trace_check.specs.declared.known.KnownProcessor.{KnownProcessor}
use Rattle.trace_check.specs.declared.known.KnownTimer.{KnownTimer}
use Rattle.trace_check.specs.Knowledge.{is_armed, is_unarmed, Knowledge, known_cancelled, known_set_up, known_started, learned, misfit, misfits_of, soft_of, tells_armed, tells_unarmed}
use Rattle.trace_check.proofs.Plain.{IsCancelled, IsSetUp, IsStarted, Plain, PlainTimers}
use Rattle.trace_check.proofs.Agreement.{Agrees, ArmedAs, RunsAs, Sound, SoundFunction}
use Rattle.trace_check.proofs.Parts.{all_fail, not_hidden}
use Rattle.trace_check.proofs.OnProcessors.{same_half}
use Rattle.trace_check.proofs.ForthStarts.{order_known, untold_clock}
use Rattle.trace_check.proofs.Before.{Led, agree_before, alone_before, armed_before, at_before, at_place, at_rest, before, clock_of, context_of, else_known, hard_of, here_known, home_is, if_armed, if_unarmed, no_home, no_part, place_of, rest_agrees, spared_before}

-- ---- a set-up

armed_untold : (a : ArmedKnown) (p : Plain) → is_armed a ≡ false → p.armed ≡ false → ArmedAs a p
armed_untold arms.Untold p fails is = tt
armed_untold arms.No p fails is = is
armed_untold (arms.Until soft expires) p fails is = absurd cc

pub back_set_up : (k : Knowledge) (w' : PlainTimers) (t : ℕ) (clock : Option ClockId) (context : Option Context) → Sound k
    → misfit k (kernel.SetUp t clock context) ≡ None → Agrees (learned k (kernel.SetUp t clock context)) w' → Led k (kernel.SetUp t clock context) w'
back_set_up k w' t clock context s none a =
    let fails = all_fail (misfits_of k (kernel.SetUp t clock context)) none in
    let known = k.timers t in
    let new = here_known k.processors k.claims k.timers t (known_set_up clock context) (w' t) (a.each t) in
    let old = at_rest known false (unwrap_or known.clock clocks.Monotonic) (unwrap_or known.context contexts.Hard) (place_of known.home) false in (
      before w' t old,
      agree_before k w' t old
          (rest_agrees k.processors k.claims known false _ _ _ false (armed_untold known.armed old fails.0 refl) fails.1.0 (at_place known.home)
          (clock_of known.clock) (context_of known.context) (λ m some tells. no_part _ tells))
          (λ u other. else_known k.processors k.claims k.timers t u _ (w' u) other (a.each u))
          (alone_before k.processors w' t old (not_hidden (w' t) old refl) a.alone),
      (
        at_before (λ p. IsSetUp clock context p (w' t)) w' t old (record {
          unarmed = refl;
          rests = refl;
          still = new.armed;
          stopped = new.function;
          on = new.clock;
          within = new.context;
          clocked = new.clocked;
          told = new.told;
          order = new.order;
        }),
        spared_before w' t old,
      ),
    )

-- ---- a cancel

pub back_cancel : (k : Knowledge) (w' : PlainTimers) (t : ℕ) → Sound k → misfit k (kernel.Cancel t) ≡ None
    → Agrees (learned k (kernel.Cancel t)) w' → Led k (kernel.Cancel t) w'
back_cancel k w' t s none a =
    let fails = all_fail (misfits_of k (kernel.Cancel t)) none in
    let known = k.timers t in
    let new = here_known k.processors k.claims k.timers t (known_cancelled known) (w' t) (a.each t) in
    let base = place_of known.home in
    let old = at_rest known true (w' t).clock (w' t).context base false in (
      before w' t old,
      agree_before k w' t old
          (rest_agrees k.processors k.claims known true _ _ _ false
          (armed_before known (w' t).clock (w' t).context base false known.armed refl fails.1.0) fails.0
          (at_place known.home) new.clock new.context (λ m some tells. no_part _ tells))
          (λ u other. else_known k.processors k.claims k.timers t u _ (w' u) other (a.each u))
          (alone_before k.processors w' t old (not_hidden (w' t) old refl) a.alone),
      (
        at_before (λ p. IsCancelled p (w' t)) w' t old (record {
          keeps = record { clock = refl; context = refl; clocked = new.clocked };
          told = new.told;
          order = new.order;
          armed = refl;
          rests = refl;
          unarmed = new.armed;
          still = new.function;
        }),
        spared_before w' t old,
      ),
    )

-- ---- a start

abbrev armed_by : ArmedKnown → Option Bool → Bool
armed_by arms.Untold was = unwrap_or was false
armed_by arms.No was = false
armed_by (arms.Until soft expires) was = true

-- a timer as it is known, where it was before a start, that found it running or not
abbrev before_start : KnownTimer → Option Bool → Plain → Plain
before_start known was new = record (at_rest known (armed_by known.armed was) new.clock new.context
    (if new.running then new.base else place_of known.home) false) { running = new.running; shown = new.shown }

start_armed : (known : KnownTimer) (was : Option Bool) (new : Plain) (a : ArmedKnown) → known.armed ≡ a → ArmedAs a (before_start known was new)
start_armed known was new arms.Untold is = tt
start_armed known was new arms.No is = ap (λ a. armed_by a was) is
start_armed known was new (arms.Until soft expires) is = (ap (λ a. armed_by a was) is, ap soft_of is, ap hard_of is)

start_function : (f : FunctionKnown) (known : KnownTimer) (was : Option Bool) (new : Plain) → RunsAs f new → RunsAs f (before_start known was new)
start_function functions.Untold known was new runs_ = runs_
start_function functions.Rests known was new runs_ = runs_
start_function (functions.Runs c) known was new runs_ = (runs_.0, rw runs_.0 (runs_.1), runs_.2)

start_home : (there : ℕ → KnownProcessor) (t : ℕ) (known : KnownTimer) (was : Option Bool) (new : Plain) (f : FunctionKnown)
    → SoundFunction there t known f → RunsAs f new
    → IfSome known.home (λ b. (before_start known was new).armed ≡ true → (before_start known was new).base ≡ b)
start_home there t known was new functions.Untold s runs_ = no_home known.home _ (armed_by known.armed was) s.0
start_home there t known was new functions.Rests s runs_ =
    rw runs_ (if_armed known.home (place_of known.home) (armed_by known.armed was) (at_place known.home))
start_home there t known was new (functions.Runs c) s runs_ = elim s.2 [
  | inl no_arm ↦ if_unarmed known.home _ (armed_by known.armed was) (ap (λ a. armed_by a was) no_arm)
  | inr home ↦ home_is known.home c _ (armed_by known.armed was) home (rw runs_.0 runs_.1)
]

start_was : (a : ArmedKnown) (was : Option Bool) → tells_armed was && is_unarmed a ≡ false → tells_unarmed was && is_armed a ≡ false
    → IfSome was (λ b. armed_by a was ≡ b)
start_was a None told untold = tt
start_was arms.Untold (Some b) told untold = refl
start_was arms.No (Some true) told untold = absurd cc
start_was arms.No (Some false) told untold = refl
start_was (arms.Until soft expires) (Some true) told untold = refl
start_was (arms.Until soft expires) (Some false) told untold = absurd cc

pub back_start : (k : Knowledge) (w' : PlainTimers) (t soft expires : ℕ) (was : Option Bool) → Sound k
    → misfit k (kernel.Start t soft expires was) ≡ None → Agrees (learned k (kernel.Start t soft expires was)) w' → Led k (kernel.Start t soft expires was) w'
back_start k w' t soft expires was s none a =
    let fails = all_fail (misfits_of k (kernel.Start t soft expires was)) none in
    let known = k.timers t in
    let new = here_known k.processors k.claims k.timers t (known_started k.count soft expires known) (w' t) (a.each t) in
    let old = before_start known was (w' t) in
    let function = start_function known.function known was (w' t) new.function in
    let same_base : old.running ≡ true → (w' t).base ≡ old.base = λ run. rw run refl in (
      before w' t old,
      agree_before k w' t old
          (record {
            armed = start_armed known was (w' t) known.armed refl;
            function = function;
            home = start_home k.processors t known was (w' t) known.function (s.each t).function new.function;
            clock = new.clock;
            clocked = refl;
            context = new.context;
            told = refl;
            order = refl;
            hidden = λ run shown. same_half k.processors (sym (same_base run)) refl ∙ new.hidden run shown;
            waits = λ m some tells. no_part _ tells;
          })
          (λ u other. else_known k.processors k.claims k.timers t u _ (w' u) other (a.each u))
          (alone_before k.processors w' t old (λ c hidden. record {
            runs = record { running = hidden.runs.running; at = same_base hidden.runs.running ∙ hidden.runs.at };
            shown = hidden.shown;
          }) a.alone),
      (
        at_before (λ p. IsStarted k.count soft expires was p (w' t)) w' t old (record {
          keeps = record { clock = refl; context = refl; clocked = new.clocked };
          told = new.told;
          order = new.order ∙ sym (order_known k.count known.clock known.function old function
              (untold_clock k.processors t known known.function (s.each t).function) refl);
          early = ltb-false expires soft fails.0;
          late = ltb-false last_time expires fails.1.0;
          was = start_was known.armed was fails.1.1.0 fails.1.1.1.0;
          armed = new.armed.0;
          from_soft = new.armed.1;
          to_hard = new.armed.2;
          running = refl;
          base = same_base;
          shown = refl;
        }),
        spared_before w' t old,
      ),
    )
