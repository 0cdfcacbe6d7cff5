-- What a history shows of a set-up, a start and a cancel is never at misfit, and what is learned agrees with it.
use Rattle.std.proofs.Common.{◌≡◌, ◌<◌, ℕ, Bool, true, false, ◌&&◌, if◌then◌else◌, Option, Some, None, List, [], ◌∷◌, refl, sym, ◌∙◌, arith}
use Rattle.std.specs.Prelude.{IfSome, is_some}
use Rattle.std.specs.List.{AllByRecursion}
use Rattle.std.proofs.lemmas.Bool.{both_ways, le-ltb}
use Rattle.ktime.specs.Times.{last_time}
use Rattle.ktime.specs.declared.clock_id.ClockId.{ClockId}
use Rattle.seq_timer.specs.declared.context.Context.{Context}
use Rattle.trace_text.specs.declared.event.KernelEvent.{KernelEvent}
use Rattle.trace_text.specs.declared.event.KernelEvent.TheVariants as kernel
use Rattle.trace_check.specs.declared.known.ArmedKnown.{ArmedKnown}
use Rattle.trace_check.specs.declared.known.OrderedExpiry.{OrderedExpiry}
use Rattle.trace_check.specs.declared.known.FunctionKnown.{FunctionKnown}
use Rattle.trace_check.specs.declared.known.FunctionKnown.TheVariants as functions
use Rattle.trace_check.specs.declared.known.KnownProcessor.{KnownProcessor}
use Rattle.trace_check.specs.declared.known.KnownTimer.{KnownTimer}
use Rattle.trace_check.specs.Fits.{order_of}
use Rattle.trace_check.specs.Knowledge.{home_by, is_armed, is_unarmed, Knowledge, known_set_up, known_started, learned, misfit, misfits_of, rests, tells_armed, tells_unarmed}
use Rattle.trace_check.proofs.Plain.{IsCancelled, IsSetUp, IsStarted, Plain, PlainTimers, Spared}
use Rattle.trace_check.proofs.Agreement.{Agrees, ArmedAs, HasTurnBefore, RunsAs, Sound, SoundFunction}
use Rattle.trace_check.proofs.Parts.{alone_still, each_but, no_cause, not_armed, not_hidden, not_runs, not_unarmed}
use Rattle.trace_check.proofs.OnProcessors.{none_some, same_half}

-- no misfit, and what is then learned agrees
abbrev pub Goes : Knowledge → KernelEvent → PlainTimers → Type 0
Goes k e w' = (misfit k e ≡ None) × Agrees (learned k e) w'

-- ---- a set-up

pub forth_set_up : (k : Knowledge) (w w' : PlainTimers) (t : ℕ) (clock : Option ClockId) (context : Option Context) → Agrees k w
    → IsSetUp clock context (w t) (w' t) → Spared t w w' → Goes k (kernel.SetUp t clock context) w'
forth_set_up k w w' t clock context a s spared = (
  no_cause (misfits_of k (kernel.SetUp t clock context)) (not_armed _ (w t) (a.each t).armed s.unarmed, (not_runs _ (w t) (a.each t).function s.rests, tt)),
  record {
    each = each_but k.processors k.claims k.timers t (known_set_up clock context) w w' spared (record {
      armed = s.still;
      function = s.stopped;
      home = tt;
      clock = s.on;
      clocked = s.clocked;
      context = s.within;
      told = s.told;
      order = s.order;
      hidden = λ runs shown. absurd (both_ways (w' t).running s.stopped runs);
      waits = λ m some tells. absurd (none_some s.order some);
    }) (λ u other. a.each u);
    alone = alone_still k.processors t w w' spared (not_hidden (w t) (w' t) s.stopped) a.alone;
  },
)

-- ---- a start

was_not : (was : Option Bool) (a : ArmedKnown) (p : Plain) → ArmedAs a p → IfSome was (λ b. p.armed ≡ b) → tells_armed was && is_unarmed a ≡ false
was_not None a p h same = refl
was_not (Some false) a p h same = refl
was_not (Some true) a p h same = not_unarmed a p h same

was_so : (was : Option Bool) (a : ArmedKnown) (p : Plain) → ArmedAs a p → IfSome was (λ b. p.armed ≡ b) → tells_unarmed was && is_armed a ≡ false
was_so None a p h same = refl
was_so (Some true) a p h same = refl
was_so (Some false) a p h same = not_armed a p h same

-- the number of a start, by what is known and by what is so
pub order_known : (n : ℕ) (clock : Option ClockId) (f : FunctionKnown) (p : Plain) → RunsAs f p → (f ≡ functions.Untold → clock ≡ None)
    → p.clocked ≡ is_some clock → order_of n p.clocked p.running ≡ (if is_some clock && rests f then Some n else None)
order_known n None f p runs untold clocked = rw clocked refl
order_known n (Some c) functions.Untold p runs untold clocked = absurd (none_some (untold refl) refl)
order_known n (Some c) functions.Rests p runs untold clocked = rw (clocked, runs) refl
order_known n (Some c) (functions.Runs processor) p runs untold clocked = rw (clocked, runs.0) refl

-- a timer that is known_started while its function runs stays there
home_kept : (f : FunctionKnown) (old new : Plain) → RunsAs f old → (old.running ≡ true → new.base ≡ old.base)
    → IfSome (home_by f) (λ b. new.armed ≡ true → new.base ≡ b)
home_kept functions.Untold old new runs stays = tt
home_kept functions.Rests old new runs stays = tt
home_kept (functions.Runs processor) old new runs stays = λ armed. stays runs.0 ∙ runs.1

function_kept : (f : FunctionKnown) (old new : Plain) → RunsAs f old → new.running ≡ old.running → (old.running ≡ true → new.base ≡ old.base)
    → new.shown ≡ old.shown → RunsAs f new
function_kept functions.Untold old new runs same stays shown = λ running. shown ∙ runs (sym same ∙ running)
function_kept functions.Rests old new runs same stays shown = same ∙ runs
function_kept (functions.Runs processor) old new runs same stays shown = (same ∙ runs.0, stays runs.0 ∙ runs.1, shown ∙ runs.2)

pub untold_clock : (there : ℕ → KnownProcessor) (t : ℕ) (known : KnownTimer) (f : FunctionKnown) → SoundFunction there t known f → f ≡ functions.Untold
    → known.clock ≡ None
untold_clock there t known functions.Untold sound is = sound.2
untold_clock there t known functions.Rests sound is = absurd cc
untold_clock there t known (functions.Runs processor) sound is = absurd cc

pub clock_kept : (c : Option ClockId) (old new : Plain) → IfSome c (λ x. old.clock ≡ x) → new.clock ≡ old.clock → IfSome c (λ x. new.clock ≡ x)
clock_kept None old new h same = tt
clock_kept (Some x) old new h same = same ∙ h

context_kept : (c : Option Context) (old new : Plain) → IfSome c (λ x. old.context ≡ x) → new.context ≡ old.context → IfSome c (λ x. new.context ≡ x)
context_kept None old new h same = tt
context_kept (Some x) old new h same = same ∙ h

-- no expiry so far came after now
none_waited : (claims : List OrderedExpiry) (p : Plain) (n m : ℕ) → n ≡ m → AllByRecursion (λ q. q.at < n) claims
    → AllByRecursion (λ q. HasTurnBefore q p m) claims
none_waited [] p n m same past = tt
none_waited (q ∷ qs) p n m same past = (λ at context clock later. absurd (omega (arith, same, past.0, later)), none_waited qs p n m same past.1)

order_then : (b : Bool) (n m : ℕ) → (if b then Some n else None) ≡ Some m → n ≡ m
order_then true n m e = cc
order_then false n m e = absurd cc

pub forth_start : (k : Knowledge) (w w' : PlainTimers) (t soft expires : ℕ) (was : Option Bool) → Sound k → Agrees k w
    → IsStarted k.count soft expires was (w t) (w' t) → Spared t w w' → Goes k (kernel.Start t soft expires was) w'
forth_start k w w' t soft expires was sound a s spared =
    let known = k.timers t in
    let order : (w' t).order ≡ (if is_some known.clock && rests known.function then Some k.count else None) =
    s.order ∙ order_known k.count known.clock known.function (w t) (a.each t).function
    (untold_clock k.processors t known known.function (sound.each t).function)
    (a.each t).clocked in (
      no_cause (misfits_of k (kernel.Start t soft expires was)) (
        le-ltb expires soft s.early,
        (
          le-ltb last_time expires s.late,
          (was_not was known.armed (w t) (a.each t).armed s.was, (was_so was known.armed (w t) (a.each t).armed s.was, tt)),
        ),
      ),
      record {
        each = each_but k.processors k.claims k.timers t (known_started k.count soft expires known) w w' spared (record {
          armed = (s.armed, s.from_soft, s.to_hard);
          function = function_kept known.function (w t) (w' t) (a.each t).function s.running s.base s.shown;
          home = home_kept known.function (w t) (w' t) (a.each t).function s.base;
          clock = clock_kept known.clock (w t) (w' t) (a.each t).clock s.keeps.clock;
          clocked = s.keeps.clocked ∙ (a.each t).clocked;
          context = context_kept known.context (w t) (w' t) (a.each t).context s.keeps.context;
          told = s.told ∙ (a.each t).told;
          order = order;
          hidden = λ runs shown. let old = sym s.running ∙ runs in
              same_half k.processors (s.base old) s.keeps.context ∙ (a.each t).hidden old (sym s.shown ∙ shown);
          waits = λ m some tells. none_waited k.claims (w' t) k.count m
              (order_then (is_some known.clock && rests known.function) k.count m (sym order ∙ some)) sound.past;
        }) (λ u other. a.each u);
        alone = alone_still k.processors t w w' spared (λ c hidden. let old = sym s.running ∙ hidden.runs.running in record {
          runs = record { running = old; at = sym (s.base old) ∙ hidden.runs.at };
          shown = sym s.shown ∙ hidden.shown;
        }) a.alone;
      },
    )

-- ---- a cancel

pub forth_cancel : (k : Knowledge) (w w' : PlainTimers) (t : ℕ) → Agrees k w → IsCancelled (w t) (w' t) → Spared t w w' → Goes k (kernel.Cancel t) w'
forth_cancel k w w' t a s spared =
    let known = k.timers t in (
      no_cause (misfits_of k (kernel.Cancel t)) (not_runs _ (w t) (a.each t).function s.rests, (not_unarmed _ (w t) (a.each t).armed s.armed, tt)),
      record {
        each = each_but k.processors k.claims k.timers t _ w w' spared (record {
          armed = s.unarmed;
          function = s.still;
          home = tt;
          clock = clock_kept known.clock (w t) (w' t) (a.each t).clock s.keeps.clock;
          clocked = s.keeps.clocked ∙ (a.each t).clocked;
          context = context_kept known.context (w t) (w' t) (a.each t).context s.keeps.context;
          told = s.told ∙ (a.each t).told;
          order = s.order;
          hidden = λ runs shown. absurd (both_ways (w' t).running s.still runs);
          waits = λ m some tells. absurd (none_some s.order some);
        }) (λ u other. a.each u);
        alone = alone_still k.processors t w w' spared (not_hidden (w t) (w' t) s.still) a.alone;
      },
    )
