-- TracedTimers of a trace without stamps and generations: what each event is between two moments of them.
use Rattle.std.proofs.Common.{◌≡◌, ◌≢◌, ◌≤◌, ℕ, ◌+◌, ◌||◌, Bool, true, false, Option, Some, None, List, [], ◌∷◌}
use Rattle.std.specs.Prelude.{IfSome, is_some}
use Rattle.ktime.specs.Times.{last_time}
use Rattle.ktime.specs.declared.clock_id.ClockId.{ClockId}
use Rattle.seq_timer.specs.declared.context.Context.{Context}
use Rattle.seq_timer.specs.declared.context.Context.TheVariants as contexts
use Rattle.seq_timer.specs.Tables.{rank}
use Rattle.trace_text.specs.declared.event.KernelEvent.{KernelEvent}
use Rattle.trace_text.specs.declared.event.KernelEvent.TheVariants as kernel
use Rattle.trace_text.specs.declared.event.Site.{Site}
use Rattle.trace_check.specs.Fits.{order_of}
use Rattle.trace_check.specs.Traced.{is_ahead, context_at}

pub record Plain : Type 0 where
  pub armed : Bool
  pub soft : ℕ
  pub expires : ℕ
  pub clock : ClockId
  pub base : ℕ
  pub running : Bool
  pub context : Context
  pub clocked : Bool
  pub told : Option Context
  pub order : Option ℕ
  pub tells : Bool
  pub shown : Bool

abbrev pub PlainTimers : Type 0
PlainTimers = ℕ → Plain

abbrev pub Spared : ℕ → PlainTimers → PlainTimers → Type 0
Spared t w w' = (u : ℕ) → u ≢ t → w' u ≡ w u

-- a function runs on a processor
pub record RunsOn (processor : ℕ) (p : Plain) : Type 0 where
  pub running : p.running ≡ true
  pub at : p.base ≡ processor

-- one that ran there when the recording began
pub record IsHidden (processor : ℕ) (p : Plain) : Type 0 where
  pub runs : RunsOn processor p
  pub shown : p.shown ≡ false

pub record HasTurn (w : PlainTimers) (line : Option Context) (processor t : ℕ) : Type 0 where
  pub alone : (u v : ℕ) → RunsOn processor (w u) → RunsOn processor (w v) → u ≡ v
  pub inside : (u : ℕ) → RunsOn processor (w u) → (w u).context ≡ contexts.Soft
  pub within : (u : ℕ) → RunsOn processor (w u) → (w u).shown || is_some line ≡ true → (w t).context ≡ contexts.Hard
  pub first : (u m n : ℕ) → u ≢ t → is_some line ≡ true → (w u).tells ≡ true → (w t).order ≡ Some m → (w u).order ≡ Some n
      → (w u).context ≡ (w t).context → (w u).armed ≡ true → (w u).base ≡ processor → rank (w u).clock ≡ rank (w t).clock
      → is_ahead (w t).expires m (w u).expires n ≡ true

pub record LeavesOne (w : PlainTimers) (line : Option Context) (processor t : ℕ) : Type 0 where
  pub other : (u : ℕ) → is_some line ≡ true → u ≢ t → IsHidden processor (w u) → (w u).context ≡ (w t).context → ⊥
  pub alone : (u v : ℕ) → is_some line ≡ true → u ≢ t → v ≢ t → IsHidden processor (w u) → IsHidden processor (w v) → u ≡ v

pub record IsBeginning (w : PlainTimers) : Type 0 where
  pub clocked : (t : ℕ) → (w t).clocked ≡ false
  pub told : (t : ℕ) → (w t).told ≡ None
  pub order : (t : ℕ) → (w t).order ≡ None
  pub shown : (t : ℕ) → (w t).running ≡ true → (w t).shown ≡ false

-- what a timer is set up with stays
pub record Keeps (old new : Plain) : Type 0 where
  pub clock : new.clock ≡ old.clock
  pub context : new.context ≡ old.context
  pub clocked : new.clocked ≡ old.clocked

pub record IsSetUp (clock : Option ClockId) (context : Option Context) (old new : Plain) : Type 0 where
  pub unarmed : old.armed ≡ false
  pub rests : old.running ≡ false
  pub still : new.armed ≡ false
  pub stopped : new.running ≡ false
  pub on : IfSome clock (λ c. new.clock ≡ c)
  pub within : IfSome context (λ x. new.context ≡ x)
  pub clocked : new.clocked ≡ is_some clock
  pub told : new.told ≡ context
  pub order : new.order ≡ None

pub record IsStarted (n soft expires : ℕ) (was_armed : Option Bool) (old new : Plain) : Type 0 where
  pub keeps : Keeps old new
  pub told : new.told ≡ old.told
  pub order : new.order ≡ order_of n old.clocked old.running
  pub early : soft ≤ expires
  pub late : expires ≤ last_time
  pub was : IfSome was_armed (λ was. old.armed ≡ was)
  pub armed : new.armed ≡ true
  pub from_soft : new.soft ≡ soft
  pub to_hard : new.expires ≡ expires
  pub running : new.running ≡ old.running
  pub base : old.running ≡ true → new.base ≡ old.base
  pub shown : new.shown ≡ old.shown

pub record IsCancelled (old new : Plain) : Type 0 where
  pub keeps : Keeps old new
  pub told : new.told ≡ old.told
  pub order : new.order ≡ None
  pub armed : old.armed ≡ true
  pub rests : old.running ≡ false
  pub unarmed : new.armed ≡ false
  pub still : new.running ≡ false

pub record IsEntered (site : Site) (now : ℕ) (old new : Plain) : Type 0 where
  pub keeps : Keeps old new
  pub told : new.told ≡ context_at site.context old.told
  pub order : new.order ≡ None
  pub tells : old.tells ≡ is_some (context_at site.context old.told)
  pub shown : new.shown ≡ true
  pub context : IfSome (context_at site.context old.told) (λ x. old.context ≡ x)
  pub armed : old.armed ≡ true
  pub rests : old.running ≡ false
  pub at : old.base ≡ site.processor
  pub reached : old.soft ≤ now
  pub unarmed : new.armed ≡ false
  pub runs : new.running ≡ true
  pub base : new.base ≡ site.processor

-- an armed timer stays as it is queued
pub record Stays (old new : Plain) : Type 0 where
  pub base : new.base ≡ old.base
  pub soft : new.soft ≡ old.soft
  pub expires : new.expires ≡ old.expires

pub record IsExited (site : Site) (old new : Plain) : Type 0 where
  pub keeps : Keeps old new
  pub told : new.told ≡ context_at site.context old.told
  pub order : new.order ≡ old.order
  pub context : IfSome (context_at site.context old.told) (λ x. old.context ≡ x)
  pub runs : old.running ≡ true
  pub at : old.base ≡ site.processor
  pub still : new.running ≡ false
  pub armed : new.armed ≡ old.armed
  pub stays : new.armed ≡ true → Stays old new

abbrev pub ShowsEvent : ℕ → KernelEvent → PlainTimers → PlainTimers → Type 0
ShowsEvent n (kernel.SetUp t clock context) w w' = IsSetUp clock context (w t) (w' t) × Spared t w w'
ShowsEvent n (kernel.Start t soft expires was_armed) w w' = IsStarted n soft expires was_armed (w t) (w' t) × Spared t w w'
ShowsEvent n (kernel.Cancel t) w w' = IsCancelled (w t) (w' t) × Spared t w w'
ShowsEvent n (kernel.Entry t site now) w w' = IsEntered site now (w t) (w' t) × HasTurn w (context_at site.context (w t).told) site.processor t
    × Spared t w w'
ShowsEvent n (kernel.Exit t site) w w' = IsExited site (w t) (w' t) × LeavesOne w (context_at site.context (w t).told) site.processor t × Spared t w w'
ShowsEvent n kernel.Lost w w' = IsBeginning w'

abbrev pub Happen : ℕ → PlainTimers → List KernelEvent → Type 0
Happen n w [] = Unit {0}
Happen n w (e ∷ es) = (w' : PlainTimers) × ShowsEvent n e w w' × Happen (n + 1) w' es
