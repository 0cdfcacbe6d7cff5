-- Before each event that is no misfit there were timers that agree with what was known, and from which it led to these.
use Rattle.std.proofs.Common.{◌≡◌, ℕ, ◌+◌, true, false, None, refl, ap, inl, inr}
use Rattle.std.specs.Prelude.{IfSome, unwrap_or}
use Rattle.ktime.specs.declared.clock_id.ClockId.TheVariants as clocks
use Rattle.std.proofs.lemmas.Bool.{both_ways}
use Rattle.seq_timer.specs.declared.context.Context.TheVariants as contexts
use Rattle.trace_text.specs.declared.event.KernelEvent.{KernelEvent}
use Rattle.trace_text.specs.declared.event.KernelEvent.TheVariants as kernel
use Rattle.trace_check.specs.declared.known.ArmedKnown.{ArmedKnown}
use Rattle.trace_check.specs.declared.known.ArmedKnown.TheVariants as arms
use Rattle.trace_check.specs.declared.known.FunctionKnown.{FunctionKnown}
use Rattle.trace_check.specs.declared.known.FunctionKnown.TheVariants as functions
use Rattle.trace_check.specs.declared.known.KnownProcessor.{KnownProcessor}
use Rattle.trace_check.specs.declared.known.KnownTimer.{KnownTimer}
use Rattle.trace_check.specs.Knowledge.{has_running, is_armed, Knowledge, learned, misfit, no_knowledge, soft_of}
use Rattle.trace_check.proofs.Plain.{IsBeginning, Plain, PlainTimers}
use Rattle.trace_check.proofs.Agreement.{Agrees, ArmedAs, RunsAs, Sound, SoundFunction}
use Rattle.trace_check.proofs.Before.{Led, at_place, at_rest, clock_of, context_of, hard_of, home_is, if_armed, if_unarmed, no_part, place_of}
use Rattle.trace_check.proofs.BackStarts.{back_cancel, back_set_up, back_start}
use Rattle.trace_check.proofs.BackEntries.{back_entry}
use Rattle.trace_check.proofs.BackReturns.{back_exit}

-- ---- a beginning

-- a timer as it is known
abbrev base_of : FunctionKnown → ℕ → ℕ
base_of functions.Untold base = base
base_of functions.Rests base = base
base_of (functions.Runs c) base = c

abbrev some_plain : KnownTimer → Plain
some_plain known = record (at_rest known (is_armed known.armed) (unwrap_or known.clock clocks.Monotonic) (unwrap_or known.context contexts.Hard)
    (base_of known.function (place_of known.home)) false) { running = has_running known.function; shown = has_running known.function }

some_armed : (known : KnownTimer) (a : ArmedKnown) → known.armed ≡ a → ArmedAs a (some_plain known)
some_armed known arms.Untold is = tt
some_armed known arms.No is = ap is_armed is
some_armed known (arms.Until soft expires) is = (ap is_armed is, ap soft_of is, ap hard_of is)

some_function : (known : KnownTimer) (f : FunctionKnown) → known.function ≡ f → RunsAs f (some_plain known)
some_function known functions.Untold is = λ run. ap has_running is
some_function known functions.Rests is = ap has_running is
some_function known (functions.Runs c) is = (ap has_running is, ap (λ f. base_of f (place_of known.home)) is, ap has_running is)

some_home : (there : ℕ → KnownProcessor) (t : ℕ) (known : KnownTimer) (f : FunctionKnown) → SoundFunction there t known f
    → IfSome known.home (λ b. is_armed known.armed ≡ true → base_of f (place_of known.home) ≡ b)
some_home there t known functions.Untold s = if_armed known.home (place_of known.home) (is_armed known.armed) (at_place known.home)
some_home there t known functions.Rests s = if_armed known.home (place_of known.home) (is_armed known.armed) (at_place known.home)
some_home there t known (functions.Runs c) s = elim s.2 [
  | inl no_arm ↦ if_unarmed known.home c (is_armed known.armed) (ap is_armed no_arm)
  | inr home ↦ home_is known.home c c (is_armed known.armed) home refl
]

-- there are timers that agree with what is known
pub some_timers : (k : Knowledge) → Sound k → (w : PlainTimers) × Agrees k w
some_timers k s = (
  λ t. some_plain (k.timers t),
  record {
    each = λ t.
        let known = k.timers t in
        record {
          armed = some_armed known known.armed refl;
          function = some_function known known.function refl;
          home = some_home k.processors t known known.function (s.each t).function;
          clock = clock_of known.clock;
          clocked = refl;
          context = context_of known.context;
          told = refl;
          order = refl;
          hidden = λ run shown. absurd (both_ways (has_running known.function) shown run);
          waits = λ m some tells. no_part _ tells;
        };
    alone = λ c u v told hidden_u hidden_v. absurd (both_ways (has_running (k.timers u).function) hidden_u.shown hidden_u.runs.running);
  },
)

pub first_of : (n : ℕ) (w : PlainTimers) → Agrees (no_knowledge n) w → IsBeginning w
first_of n w a = record {
  clocked = λ t. (a.each t).clocked;
  told = λ t. (a.each t).told;
  order = λ t. (a.each t).order;
  shown = λ t. (a.each t).function;
}

pub back : (k : Knowledge) (e : KernelEvent) (w' : PlainTimers) → Sound k → misfit k e ≡ None → Agrees (learned k e) w' → Led k e w'
back k (kernel.SetUp t clock context) w' s none a = back_set_up k w' t clock context s none a
back k (kernel.Start t soft expires was) w' s none a = back_start k w' t soft expires was s none a
back k (kernel.Cancel t) w' s none a = back_cancel k w' t s none a
back k (kernel.Entry t site now) w' s none a = back_entry k w' t site now s none a
back k (kernel.Exit t site) w' s none a = back_exit k w' t site s none a
back k kernel.Lost w' s none a = let w = some_timers k s in (w.0, w.1, first_of (k.count + 1) w' a)
