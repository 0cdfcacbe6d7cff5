-- A timer as it rests, and one timer before an event, as what is known allows.
use Rattle.std.proofs.Common.{◌≡◌, ◌≢◌, ℕ, Bool, true, false, Option, Some, None, List, refl, sym, ap, subst, ◌∙◌, inl, inr}
use Rattle.std.specs.Prelude.{IfSome, is_some, unwrap_or}
use Rattle.std.specs.List.{AllByRecursion}
use Rattle.std.proofs.lemmas.Bool.{both_ways, cases_eq}
use Rattle.ktime.specs.declared.clock_id.ClockId.{ClockId}
use Rattle.ktime.specs.declared.clock_id.ClockId.TheVariants as clocks
use Rattle.seq_timer.specs.declared.context.Context.{Context}
use Rattle.seq_timer.specs.declared.context.Context.TheVariants as contexts
use Rattle.seq_timer.specs.Systems.{updated}
use Rattle.seq_timer.proofs.Systems.{updated_here, updated_else}
use Rattle.trace_text.specs.declared.event.KernelEvent.{KernelEvent}
use Rattle.trace_check.specs.declared.known.ArmedKnown.{ArmedKnown}
use Rattle.trace_check.specs.declared.known.ArmedKnown.TheVariants as arms
use Rattle.trace_check.specs.declared.known.OrderedExpiry.{OrderedExpiry}
use Rattle.trace_check.specs.declared.known.FunctionKnown.{FunctionKnown}
use Rattle.trace_check.specs.declared.known.FunctionKnown.TheVariants as functions
use Rattle.trace_check.specs.declared.known.KnownProcessor.{KnownProcessor}
use Rattle.trace_check.specs.declared.known.KnownTimer.{KnownTimer}
use Rattle.trace_check.specs.Knowledge.{has_running, is_unarmed, Knowledge, soft_of}
use Rattle.trace_check.proofs.Plain.{Plain, PlainTimers, ShowsEvent, Spared}
use Rattle.trace_check.proofs.Agreement.{Agrees, AgreesAt, AreAlone, ArmedAs, HasTurnBefore, RunsAs}
use Rattle.trace_check.proofs.Parts.{Moves, alone_still, same_some}

-- ---- a timer that rests

-- where a timer waits, as far as it is known
abbrev pub place_of : Option ℕ → ℕ
place_of None = 0
place_of (Some b) = b

pub at_place : (home : Option ℕ) → IfSome home (λ b. place_of home ≡ b)
at_place None = tt
at_place (Some b) = refl

pub if_armed : (home : Option ℕ) (base : ℕ) (armed : Bool) → IfSome home (λ b. base ≡ b) → IfSome home (λ b. armed ≡ true → base ≡ b)
if_armed None base armed h = tt
if_armed (Some b) base armed h = λ is. h

pub if_unarmed : (home : Option ℕ) (base : ℕ) (armed : Bool) → armed ≡ false → IfSome home (λ b. armed ≡ true → base ≡ b)
if_unarmed None base armed not_armed = tt
if_unarmed (Some b) base armed not_armed = λ is. absurd (both_ways armed not_armed is)

-- where a home is known, the timer waits there
pub home_is : (home : Option ℕ) (c base : ℕ) (armed : Bool) → home ≡ Some c → base ≡ c → IfSome home (λ b. armed ≡ true → base ≡ b)
home_is None c base armed is at = tt
home_is (Some b) c base armed is at = λ armed_. at ∙ sym (same_some is)

pub no_home : (home : Option ℕ) (base : ℕ) (armed : Bool) → home ≡ None → IfSome home (λ b. armed ≡ true → base ≡ b)
no_home None base armed is = tt
no_home (Some b) base armed is = absurd cc

abbrev pub hard_of : ArmedKnown → ℕ
hard_of arms.Untold = 0
hard_of arms.No = 0
hard_of (arms.Until soft expires) = expires

-- a timer that rests, as it is known, and of which a line tells the context when it expires next or not
abbrev pub at_rest : KnownTimer → Bool → ClockId → Context → ℕ → Bool → Plain
at_rest known armed clock context base tells = record {
  armed = armed;
  soft = soft_of known.armed;
  expires = hard_of known.armed;
  clock = clock;
  base = base;
  running = false;
  context = context;
  clocked = is_some known.clock;
  told = known.told;
  order = known.order;
  tells = tells;
  shown = false;
}

pub armed_before : (known : KnownTimer) (clock : ClockId) (context : Context) (base : ℕ) (tells : Bool) (a : ArmedKnown) → known.armed ≡ a
    → is_unarmed a ≡ false
    → ArmedAs a (at_rest known true clock context base tells)
armed_before known clock context base tells arms.Untold is fails = tt
armed_before known clock context base tells arms.No is fails = absurd cc
armed_before known clock context base tells (arms.Until soft expires) is fails = (refl, ap soft_of is, ap hard_of is)

pub not_running : false ≡ true → ⊥
not_running e = absurd cc

rests_as : (f : FunctionKnown) (p : Plain) → has_running f ≡ false → p.running ≡ false → RunsAs f p
rests_as functions.Untold p still is = λ run. absurd (both_ways p.running is run)
rests_as functions.Rests p still is = is
rests_as (functions.Runs c) p still is = absurd cc

pub rest_agrees : (there : ℕ
    → KnownProcessor) (claims : List OrderedExpiry) (known : KnownTimer) (armed : Bool) (clock : ClockId) (context : Context) (base : ℕ)
    (tells : Bool) → ArmedAs known.armed (at_rest known armed clock context base tells) → has_running known.function ≡ false → IfSome known.home (λ b. base ≡ b)
    → IfSome known.clock (λ c. clock ≡ c) → IfSome known.context (λ x. context ≡ x)
    → ((m : ℕ) → known.order ≡ Some m → tells ≡ true → AllByRecursion (λ q. HasTurnBefore q (at_rest known armed clock context base tells) m) claims)
    → AgreesAt there claims known (at_rest known armed clock context base tells)
rest_agrees there claims known armed clock context base tells is still at on within waits = record {
  armed = is;
  function = rests_as known.function _ still refl;
  home = if_armed known.home base armed at;
  clock = on;
  clocked = refl;
  context = within;
  told = refl;
  order = refl;
  hidden = λ run shown. absurd (not_running run);
  waits = waits;
}

-- of which no line tells the context, so that it takes part in no order
pub no_part : (P : Type 0) → false ≡ true → P
no_part P e = absurd (not_running e)

pub clock_of : (c : Option ClockId) → IfSome c (λ x. unwrap_or c clocks.Monotonic ≡ x)
clock_of None = tt
clock_of (Some x) = refl

pub context_of : (c : Option Context) → IfSome c (λ x. unwrap_or c contexts.Hard ≡ x)
context_of None = tt
context_of (Some x) = refl

-- ---- one timer was another

abbrev pub before : PlainTimers → ℕ → Plain → PlainTimers
before w' t old = updated w' t old

-- there were such timers, and an event led from them to these
abbrev pub Led : Knowledge → KernelEvent → PlainTimers → Type 0
Led k e w' = (w : PlainTimers) × Agrees k w × ShowsEvent k.count e w w'

pub spared_before : (w' : PlainTimers) (t : ℕ) (old : Plain) → Spared t (before w' t old) w'
spared_before w' t old u other = sym (updated_else w' t u old other)

pub here_known : (there : ℕ → KnownProcessor) (claims : List OrderedExpiry) (f : ℕ → KnownTimer) (t : ℕ) (known : KnownTimer) (p : Plain)
    → AgreesAt there claims (updated f t known t) p → AgreesAt there claims known p
here_known there claims f t known p a = subst (λ k. AgreesAt there claims k p) (updated_here f t known) a

pub else_known : (there : ℕ → KnownProcessor) (claims : List OrderedExpiry) (f : ℕ → KnownTimer) (t u : ℕ) (known : KnownTimer) (p : Plain) → u ≢ t
    → AgreesAt there claims (updated f t known u) p → AgreesAt there claims (f u) p
else_known there claims f t u known p other a = subst (λ k. AgreesAt there claims k p) (updated_else f t u known other) a

pub agree_before : (k : Knowledge) (w' : PlainTimers) (t : ℕ) (old : Plain) → AgreesAt k.processors k.claims (k.timers t) old
    → ((u : ℕ) → u ≢ t → AgreesAt k.processors k.claims (k.timers u) (w' u)) → AreAlone k.processors (before w' t old) → Agrees k (before w' t old)
agree_before k w' t old here others alone = record {
  each = λ u. elim (cases_eq u t) [
    | inl same ↦ subst (λ v. AgreesAt k.processors k.claims (k.timers v) (before w' t old v)) (sym same)
        (subst (λ p. AgreesAt k.processors k.claims (k.timers t) p) (sym (updated_here w' t old)) here)
    | inr other ↦ subst (λ p. AgreesAt k.processors k.claims (k.timers u) p) (sym (updated_else w' t u old other)) (others u other)
  ];
  alone = alone;
}

pub alone_before : (there : ℕ → KnownProcessor) (w' : PlainTimers) (t : ℕ) (old : Plain) → Moves (w' t) old → AreAlone there w'
    → AreAlone there (before w' t old)
alone_before there w' t old moves alone =
    alone_still there t w' (before w' t old) (λ u other. updated_else w' t u old other) (subst (λ p. Moves (w' t) p) (sym (updated_here w' t old)) moves) alone

pub at_before : (P : Plain → Type 0) (w' : PlainTimers) (t : ℕ) (old : Plain) → P old → P (before w' t old t)
at_before P w' t old h = subst P (sym (updated_here w' t old)) h
