-- How what is known stands to the timers behind a trace, and what holds of all that is known.
use Rattle.std.proofs.Common.{◌≡◌, ◌<◌, ℕ, ◌&&◌, Bool, true, false, Some, None, List, ◌⊎◌}
use Rattle.std.specs.Prelude.{IfSome, is_some}
use Rattle.std.specs.List.{AllByRecursion}
use Rattle.ktime.specs.declared.clock_id.ClockId.{ClockId}
use Rattle.seq_timer.specs.declared.context.Context.{Context}
use Rattle.seq_timer.specs.declared.context.Context.TheVariants as contexts
use Rattle.seq_timer.specs.Tables.{rank}
use Rattle.trace_check.specs.declared.known.ArmedKnown.{ArmedKnown}
use Rattle.trace_check.specs.declared.known.ArmedKnown.TheVariants as arms
use Rattle.trace_check.specs.declared.known.OrderedExpiry.{OrderedExpiry}
use Rattle.trace_check.specs.declared.known.FunctionKnown.{FunctionKnown}
use Rattle.trace_check.specs.declared.known.FunctionKnown.TheVariants as functions
use Rattle.trace_check.specs.declared.known.HalfKnown.{HalfKnown}
use Rattle.trace_check.specs.declared.known.HalfKnown.TheVariants as halves
use Rattle.trace_check.specs.declared.known.KnownProcessor.{KnownProcessor}
use Rattle.trace_check.specs.declared.known.KnownTimer.{KnownTimer}
use Rattle.trace_check.specs.Knowledge.{is_untold, Knowledge}
use Rattle.trace_check.specs.Traced.{is_ahead}
use Rattle.trace_check.proofs.Plain.{IsHidden, Plain, PlainTimers}

abbrev pub ArmedAs : ArmedKnown → Plain → Type 0
ArmedAs arms.Untold p = Unit {0}
ArmedAs arms.No p = p.armed ≡ false
ArmedAs (arms.Until soft expires) p = (p.armed ≡ true) × (p.soft ≡ soft) × (p.expires ≡ expires)

abbrev pub RunsAs : FunctionKnown → Plain → Type 0
RunsAs functions.Untold p = p.running ≡ true → p.shown ≡ false
RunsAs functions.Rests p = p.running ≡ false
RunsAs (functions.Runs processor) p = (p.running ≡ true) × (p.base ≡ processor) × (p.shown ≡ true)

-- what is known of a processor's half
abbrev pub half_of : KnownProcessor → Context → HalfKnown
half_of there contexts.Hard = there.hard
half_of there contexts.Soft = there.soft

-- no line has told anything of a processor: any functions may run there since the recording began
abbrev pub is_open : KnownProcessor → Bool
is_open there = is_untold there.hard && is_untold there.soft

-- an expiry that came while a timer waited in its queue, armed by event m, had its turn before it
abbrev pub HasTurnBefore : OrderedExpiry → Plain → ℕ → Type 0
HasTurnBefore q p m = q.processor ≡ p.base → q.context ≡ p.context → rank q.clock ≡ rank p.clock → m < q.at → is_ahead q.expires q.order p.expires m ≡ true

-- a timer is as it is known
pub record AgreesAt (there : ℕ → KnownProcessor) (claims : List OrderedExpiry) (known : KnownTimer) (p : Plain) : Type 0 where
  pub armed : ArmedAs known.armed p
  pub function : RunsAs known.function p
  pub home : IfSome known.home (λ b. p.armed ≡ true → p.base ≡ b)
  pub clock : IfSome known.clock (λ c. p.clock ≡ c)
  pub clocked : p.clocked ≡ is_some known.clock
  pub context : IfSome known.context (λ x. p.context ≡ x)
  pub told : p.told ≡ known.told
  pub order : p.order ≡ known.order
  pub hidden : p.running ≡ true → p.shown ≡ false → half_of (there p.base) p.context ≡ halves.Untold
  pub waits : (m : ℕ) → p.order ≡ Some m → p.tells ≡ true → AllByRecursion (λ q. HasTurnBefore q p m) claims

-- where a line has told of a processor, at most one function runs there since the recording began
abbrev pub AreAlone : (ℕ → KnownProcessor) → PlainTimers → Type 0
AreAlone there w = (c u v : ℕ) → is_open (there c) ≡ false → IsHidden c (w u) → IsHidden c (w v) → u ≡ v

pub record Agrees (k : Knowledge) (w : PlainTimers) : Type 0 where
  pub each : (t : ℕ) → AgreesAt k.processors k.claims (k.timers t) (w t)
  pub alone : AreAlone k.processors w

-- a timer's function runs in one of a processor's places
abbrev pub Holds : KnownProcessor → ℕ → Type 0
Holds there t = (there.hard ≡ halves.Taken t) ⊎ ((there.soft ≡ halves.Taken t) ⊎ (there.loose ≡ Some t))

-- what a known function says of the rest that is known of its timer
abbrev pub SoundFunction : (ℕ → KnownProcessor) → ℕ → KnownTimer → FunctionKnown → Type 0
SoundFunction there t known functions.Untold = (known.home ≡ None) × (known.order ≡ None) × (known.clock ≡ None) × (known.told ≡ None) × (known.context ≡ None)
SoundFunction there t known functions.Rests = Unit {0}
SoundFunction there t known (functions.Runs processor) =
    Holds (there processor) t × (known.order ≡ None) × ((known.armed ≡ arms.No) ⊎ (known.home ≡ Some processor))

-- what taking part in an order says
pub record SoundOrder (n : ℕ) (known : KnownTimer) (m : ℕ) : Type 0 where
  pub past : m < n
  pub rests : known.function ≡ functions.Rests
  pub armed : (soft : ℕ) × (expires : ℕ) × (known.armed ≡ arms.Until soft expires)
  pub clock : (c : ClockId) × (known.clock ≡ Some c)

pub record SoundAt (there : ℕ → KnownProcessor) (n t : ℕ) (known : KnownTimer) : Type 0 where
  pub function : SoundFunction there t known known.function
  pub told : IfSome known.told (λ x. known.context ≡ Some x)
  pub order : (m : ℕ) → known.order ≡ Some m → SoundOrder n known m

-- who runs in a processor's places is known to
pub record SoundThere (timers : ℕ → KnownTimer) (c : ℕ) (there : KnownProcessor) : Type 0 where
  pub hard : (t : ℕ) → there.hard ≡ halves.Taken t → ((timers t).function ≡ functions.Runs c) × ((timers t).context ≡ Some contexts.Hard)
  pub soft : (t : ℕ) → there.soft ≡ halves.Taken t → ((timers t).function ≡ functions.Runs c) × ((timers t).context ≡ Some contexts.Soft)
  pub loose : (t : ℕ) → there.loose ≡ Some t → (timers t).function ≡ functions.Runs c
  pub apart : (t u : ℕ) → there.soft ≡ halves.Taken t → there.loose ≡ Some u → ⊥

-- what holds of all that is known
pub record Sound (k : Knowledge) : Type 0 where
  pub each : (t : ℕ) → SoundAt k.processors k.count t (k.timers t)
  pub places : (c : ℕ) → SoundThere k.timers c (k.processors c)
  pub past : AllByRecursion (λ q. q.at < k.count) k.claims
