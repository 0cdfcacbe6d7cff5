-- What it means that a kernel's trace fits: there is a history that the model gives, and it shows these lines.
use Rattle.std.specs.Prelude.{ℕ, ◌≡◌, ◌+◌, ◌-◌, Bool, true, false, not, ◌&&◌, is_some, if◌then◌else◌, Option, Some, None, IfSome, IsSome, IsNone, List, [], ◌∷◌}
use Rattle.ktime.specs.declared.clock_id.ClockId.{ClockId}
use Rattle.ktime.specs.declared.mode.Mode.TheVariants as modes
use Rattle.ktime.specs.Readings.{ClockReading, value_of}
use Rattle.seq_timer.specs.declared.context.Context.{Context}
use Rattle.seq_timer.specs.declared.context.Declared.{Declared}
use Rattle.seq_timer.specs.declared.event.EventBy.TheVariants as events
use Rattle.seq_timer.specs.Calls.{asked_for, start_events}
use Rattle.seq_timer.specs.Steps.{opening, limited}
use Rattle.trace_text.specs.declared.event.KernelEvent.{KernelEvent}
use Rattle.trace_text.specs.declared.event.KernelEvent.TheVariants as kernel
use Rattle.trace_text.specs.declared.event.Site.{Site}
use Rattle.trace_check.specs.Traced.{Traced, TracedTimers, Spares, Goes, IsNextThere, LeavesOne, context_at}

-- where a recording begins, or goes on after a loss, nothing is told: a timer may be armed, and its function may run
pub record IsBeginning (w : TracedTimers) : Type 0 where
  pub still : (t : ℕ) → (w t).timer.moving ≡ false
  pub clocked : (t : ℕ) → (w t).clocked ≡ false
  pub told : (t : ℕ) → (w t).told ≡ None
  pub order : (t : ℕ) → (w t).order ≡ None
  pub shown : (t : ℕ) → IsSome (w t).timer.running → (w t).shown ≡ false

-- A set-up, of a timer that rests, begins another timer at its address: on the clock and in the context that are told, or in any.
pub record IsSetUp (clock : Option ClockId) (context : Option Context) (old new : Traced) : Type 0 where
  pub unarmed : IsNone old.timer.armed
  pub rests : IsNone old.timer.running
  pub fresh : (declared : Declared) × (limit : ℕ) × (new.timer ≡ opening declared (limited limit))
  pub on : IfSome clock (λ c. new.timer.clock ≡ c)
  pub within : IfSome context (λ x. new.timer.declared.context ≡ x)
  pub clocked : new.clocked ≡ is_some clock
  pub told : new.told ≡ context
  pub order : new.order ≡ None

-- the number of a start, where its timer takes part in the order of its queue
abbrev pub order_of : ℕ → Bool → Bool → Option ℕ
order_of n clocked running = if clocked && not running then Some n else None

-- A start, as the model's that keeps its timer's clock, on some processor: a timer whose function runs stays where it is.
pub record IsStarted (n soft expires : ℕ) (was_armed : Option Bool) (old new : Traced) : Type 0 where
  pub goes : (processor : ℕ) × (reading : ClockReading) × Goes old.timer
      (start_events old.timer (asked_for modes.Keep soft (expires - soft) processor reading)) new.timer
  pub from_soft : new.timer.soft ≡ soft
  pub to_hard : new.timer.expires ≡ expires
  pub was : IfSome was_armed (λ was. is_some old.timer.armed ≡ was)
  pub clocked : new.clocked ≡ old.clocked
  pub told : new.told ≡ old.told
  pub order : new.order ≡ order_of n old.clocked (is_some old.timer.running)
  pub shown : new.shown ≡ old.shown

-- a cancel
pub record IsCancelled (old new : Traced) : Type 0 where
  pub goes : Goes old.timer (events.Cancel ∷ []) new.timer
  pub clocked : new.clocked ≡ old.clocked
  pub told : new.told ≡ old.told
  pub order : new.order ≡ None

-- an expiry, as the model's claim by a reading in which the timer's clock shows this time
pub record IsEntered (site : Site) (now : ℕ) (old new : Traced) : Type 0 where
  pub goes : (reading : ClockReading) × (value_of old.timer.clock reading ≡ now) × Goes old.timer (events.Claim site.processor reading ∷ []) new.timer
  pub context : IfSome (context_at site.context old.told) (λ x. old.timer.declared.context ≡ x)
  pub clocked : new.clocked ≡ old.clocked
  pub told : new.told ≡ context_at site.context old.told
  pub order : new.order ≡ None
  pub tells : old.tells ≡ is_some (context_at site.context old.told)
  pub shown : new.shown ≡ true

-- the return of a function, as the model's finish; a restart is told by the start behind it
pub record IsExited (site : Site) (old new : Traced) : Type 0 where
  pub goes : Goes old.timer (events.Finish false ∷ []) new.timer
  pub base : old.timer.base ≡ site.processor
  pub context : IfSome (context_at site.context old.told) (λ x. old.timer.declared.context ≡ x)
  pub clocked : new.clocked ≡ old.clocked
  pub told : new.told ≡ context_at site.context old.told
  pub order : new.order ≡ old.order

-- an event of this number is what happened between two moments
abbrev pub ShowsEvent : ℕ → KernelEvent → TracedTimers → TracedTimers → Type 0
ShowsEvent n (kernel.SetUp t clock context) w w' = IsSetUp clock context (w t) (w' t) × Spares t w w'
ShowsEvent n (kernel.Start t soft expires was_armed) w w' = IsStarted n soft expires was_armed (w t) (w' t) × Spares t w w'
ShowsEvent n (kernel.Cancel t) w w' = IsCancelled (w t) (w' t) × Spares t w w'
ShowsEvent n (kernel.Entry t site now) w w' = IsEntered site now (w t) (w' t) × IsNextThere w (context_at site.context (w t).told) site.processor t
    × Spares t w w'
ShowsEvent n (kernel.Exit t site) w w' = IsExited site (w t) (w' t) × LeavesOne w (context_at site.context (w t).told) site.processor t × Spares t w w'
ShowsEvent n kernel.Lost w w' = IsBeginning w'

-- from here on these events are what happened, one after the other; they are numbered on from `n`
abbrev pub Happen : ℕ → TracedTimers → List KernelEvent → Type 0
Happen n w [] = Unit {0}
Happen n w (e ∷ es) = (w' : TracedTimers) × ShowsEvent n e w w' × Happen (n + 1) w' es

-- a trace fits: there are timers with which it begins, and a history that shows its events
abbrev pub FitsTrace : List KernelEvent → Type 0
FitsTrace es = (w : TracedTimers) × IsBeginning w × Happen 0 w es
