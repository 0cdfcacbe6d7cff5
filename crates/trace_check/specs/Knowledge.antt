-- What the lines of a trace so far tell, and why no history shows a line behind them.
use Rattle.std.specs.Prelude.{ℕ, ◌+◌, Bool, true, false, not, ◌&&◌, ◌||◌, nat_eq, nat_lt, is_some, unwrap_or, if◌then◌else◌, Option, Some, None, List, [], ◌∷◌}
use Rattle.std.specs.List.{list_any}
use Rattle.std.specs.Option.{option_or}
use Rattle.ktime.specs.Times.{last_time}
use Rattle.ktime.specs.declared.clock_id.ClockId.{ClockId}
use Rattle.seq_timer.specs.declared.context.Context.{Context}
use Rattle.seq_timer.specs.declared.context.Context.TheVariants as contexts
use Rattle.seq_timer.specs.Systems.{updated}
use Rattle.seq_timer.specs.Tables.{is_context, rank}
use Rattle.trace_text.specs.declared.event.KernelEvent.{KernelEvent}
use Rattle.trace_text.specs.declared.event.KernelEvent.TheVariants as kernel
use Rattle.trace_text.specs.declared.event.Site.{Site}
use Rattle.trace_check.specs.declared.misfit.Misfit.{Misfit}
use Rattle.trace_check.specs.declared.misfit.Misfit.TheVariants as causes
use Rattle.trace_check.specs.declared.known.ArmedKnown.{ArmedKnown}
use Rattle.trace_check.specs.declared.known.ArmedKnown.TheVariants as arms
use Rattle.trace_check.specs.declared.known.OrderedExpiry.{OrderedExpiry}
use Rattle.trace_check.specs.declared.known.FunctionKnown.{FunctionKnown}
use Rattle.trace_check.specs.declared.known.FunctionKnown.TheVariants as functions
use Rattle.trace_check.specs.declared.known.HalfKnown.{HalfKnown}
use Rattle.trace_check.specs.declared.known.HalfKnown.TheVariants as halves
use Rattle.trace_check.specs.declared.known.KnownProcessor.{KnownProcessor}
use Rattle.trace_check.specs.declared.known.KnownTimer.{KnownTimer}
use Rattle.trace_check.specs.Traced.{is_ahead, context_at}

-- what is known of each timer and of each processor, the expiries so far that took part in an order, and how many events there were
pub record Knowledge : Type 0 where
  pub timers : ℕ → KnownTimer
  pub processors : ℕ → KnownProcessor
  pub claims : List OrderedExpiry
  pub count : ℕ

-- nothing is known of a timer
abbrev pub unknown : KnownTimer
unknown = record { armed = arms.Untold; function = functions.Untold; clock = None; told = None; context = None; home = None; order = None }

-- nothing is known of a processor
abbrev pub nothing_there : KnownProcessor
nothing_there = record { hard = halves.Untold; soft = halves.Untold; loose = None }

-- nothing is known, after so many events
abbrev pub no_knowledge : ℕ → Knowledge
no_knowledge n = record { timers = λ t. unknown; processors = λ p. nothing_there; claims = []; count = n }

-- ---- what a line tells

-- a function runs in a half
abbrev pub is_taken : HalfKnown → Bool
is_taken halves.Untold = false
is_taken halves.Free = false
is_taken (halves.Taken timer) = true

abbrev pub is_untold : HalfKnown → Bool
is_untold halves.Untold = true
is_untold halves.Free = false
is_untold (halves.Taken timer) = false

-- where a start queues a timer, as far as that is known: where its function runs, if it does
abbrev pub home_by : FunctionKnown → Option ℕ
home_by functions.Untold = None
home_by functions.Rests = None
home_by (functions.Runs processor) = Some processor

-- it is known that the function rests
abbrev pub rests : FunctionKnown → Bool
rests functions.Untold = false
rests functions.Rests = true
rests (functions.Runs processor) = false

-- what is known of a timer that was set up
abbrev pub known_set_up : Option ClockId → Option Context → KnownTimer
known_set_up clock context = record { armed = arms.No; function = functions.Rests; clock = clock; told = context; context = context; home = None; order = None }

-- that was started by event n
abbrev pub known_started : ℕ → ℕ → ℕ → KnownTimer → KnownTimer
known_started n soft expires k = record k {
  armed = arms.Until soft expires;
  home = home_by k.function;
  order = (if is_some k.clock && rests k.function then Some n else None);
}

-- that was cancelled
abbrev pub known_cancelled : KnownTimer → KnownTimer
known_cancelled k = record k { armed = arms.No; function = functions.Rests; home = None; order = None }

-- that has expired, so that its function runs: in the hard context, where it began inside another one
abbrev pub known_entered : Site → Bool → KnownTimer → KnownTimer
known_entered site inside k = record k {
  armed = arms.No;
  function = functions.Runs site.processor;
  told = context_at site.context k.told;
  context = (if inside then Some contexts.Hard else context_at site.context k.context);
  home = None;
  order = None;
}

-- inside whose function another one began: it runs in the soft context
abbrev pub known_outer : KnownTimer → KnownTimer
known_outer k = record k { context = Some contexts.Soft }

-- where a timer is queued whose function has returned: if nothing had told that it ran, it was armed meanwhile, if at all
abbrev pub home_after : ℕ → FunctionKnown → Option ℕ → Option ℕ
home_after processor functions.Untold home = Some processor
home_after processor functions.Rests home = home
home_after processor (functions.Runs at) home = home

-- the context of a function that ran when the recording began, where no line tells it: the one that is left for it, if only one is
abbrev pub context_left : HalfKnown → HalfKnown → Option Context
context_left hard soft = if is_untold hard then (if is_untold soft then None else Some contexts.Hard) else Some contexts.Soft

abbrev pub left_for : FunctionKnown → KnownProcessor → Option Context
left_for functions.Untold there = context_left there.hard there.soft
left_for functions.Rests there = None
left_for (functions.Runs processor) there = None

-- whose function has returned
abbrev pub known_exited : Site → KnownProcessor → KnownTimer → KnownTimer
known_exited site there k = record k {
  function = functions.Rests;
  told = context_at site.context k.told;
  context = context_at (context_at site.context k.context) (left_for k.function there);
  home = home_after site.processor k.function k.home;
}

-- an expiry by event n, where it takes part in the order of its queue
abbrev pub claim_by : ℕ → ℕ → Option Context → ArmedKnown → Option ClockId → Option ℕ → Option OrderedExpiry
claim_by n processor (Some context) (arms.Until soft expires) (Some clock) (Some order) = Some (record {
  processor = processor;
  context = context;
  clock = clock;
  expires = expires;
  order = order;
  at = n;
})
claim_by n processor context armed clock order = None

-- the expiry of a timer of which this is known, where it takes part
abbrev pub claim_of : ℕ → Site → KnownTimer → Option OrderedExpiry
claim_of n site k = claim_by n site.processor (context_at site.context k.told) k.armed k.clock k.order

-- one more expiry, if it takes part
abbrev pub with_claim : Option OrderedExpiry → List OrderedExpiry → List OrderedExpiry
with_claim None claims = claims
with_claim (Some claim) claims = claim ∷ claims

-- with this known of a timer, after one more event
abbrev pub with_known : Knowledge → ℕ → KnownTimer → Knowledge
with_known k t known = record k { timers = updated k.timers t known; count = k.count + 1 }

-- no function that ran in a half when the recording began is left
abbrev pub closed : HalfKnown → HalfKnown
closed halves.Untold = halves.Free
closed halves.Free = halves.Free
closed (halves.Taken t) = halves.Taken t

-- a function runs on a processor inside which another one may begin
abbrev pub is_inside : KnownProcessor → Bool
is_inside there = is_taken there.soft || is_some there.loose

-- what is known of a processor where a function begins, by a line that tells this context
abbrev pub begun : ℕ → Option Context → KnownProcessor → KnownProcessor
begun t None there = record { hard = halves.Free; soft = there.soft; loose = Some t }
begun t (Some contexts.Hard) there = record { hard = halves.Taken t; soft = there.soft; loose = there.loose }
begun t (Some contexts.Soft) there = record { hard = halves.Free; soft = halves.Taken t; loose = there.loose }

abbrev pub entered_there : ℕ → Option Context → KnownProcessor → KnownProcessor
entered_there t line there =
    if is_inside there then record { hard = halves.Taken t; soft = closed there.soft; loose = there.loose } else begun t line there

-- what is known of a half, and of what runs in an untold context, where a timer's function has returned
abbrev pub half_without : ℕ → HalfKnown → HalfKnown
half_without t halves.Untold = halves.Untold
half_without t halves.Free = halves.Free
half_without t (halves.Taken u) = if nat_eq u t then halves.Free else halves.Taken u

abbrev pub loose_without : ℕ → Option ℕ → Option ℕ
loose_without t None = None
loose_without t (Some u) = if nat_eq u t then None else Some u

abbrev pub vacated : ℕ → KnownProcessor → KnownProcessor
vacated t there = record { hard = half_without t there.hard; soft = half_without t there.soft; loose = loose_without t there.loose }

-- what is known of a processor where the half of this context, if it is one, has nothing from before the recording
abbrev pub closed_in : Option Context → KnownProcessor → KnownProcessor
closed_in None there = there
closed_in (Some contexts.Hard) there = record there { hard = closed there.hard }
closed_in (Some contexts.Soft) there = record there { soft = closed there.soft }

-- what is known of it where the function of a timer of which this is known has returned
abbrev pub exited_there : ℕ → Site → KnownTimer → KnownProcessor → KnownProcessor
exited_there t site k there = closed_in (context_at (context_at site.context k.told) (left_for k.function there)) (vacated t there)

-- where a function begins inside one of an untold context, that one is soft
abbrev pub with_outer : Option ℕ → (ℕ → KnownTimer) → ℕ → KnownTimer
with_outer None f = f
with_outer (Some u) f = updated f u (known_outer (f u))

-- what is known after one more event, which some history shows
abbrev pub learned : Knowledge → KernelEvent → Knowledge
learned k (kernel.SetUp t clock context) = with_known k t (known_set_up clock context)
learned k (kernel.Start t soft expires was_armed) = with_known k t (known_started k.count soft expires (k.timers t))
learned k (kernel.Cancel t) = with_known k t (known_cancelled (k.timers t))
learned k (kernel.Entry t site now) = record k {
  timers = updated (with_outer (k.processors site.processor).loose k.timers) t
      (known_entered site (is_inside (k.processors site.processor)) (k.timers t));
  processors = updated k.processors site.processor (entered_there t (context_at site.context (k.timers t).told) (k.processors site.processor));
  claims = with_claim (claim_of k.count site (k.timers t)) k.claims;
  count = k.count + 1;
}
learned k (kernel.Exit t site) = record (with_known k t (known_exited site (k.processors site.processor) (k.timers t))) {
  processors = updated k.processors site.processor (exited_there t site (k.timers t) (k.processors site.processor));
}
learned k kernel.Lost = no_knowledge (k.count + 1)

-- ---- why no history shows an event

-- the first of these tests that holds tells the cause
abbrev pub first_that_holds : List (Bool × Misfit) → Option Misfit
first_that_holds [] = None
first_that_holds (p ∷ ps) = if p.0 then Some p.1 else first_that_holds ps

abbrev pub is_unarmed : ArmedKnown → Bool
is_unarmed arms.Untold = false
is_unarmed arms.No = true
is_unarmed (arms.Until soft expires) = false

abbrev pub is_armed : ArmedKnown → Bool
is_armed arms.Untold = false
is_armed arms.No = false
is_armed (arms.Until soft expires) = true

abbrev pub has_running : FunctionKnown → Bool
has_running functions.Untold = false
has_running functions.Rests = false
has_running (functions.Runs processor) = true

-- the soft expiry, where it is known
abbrev pub soft_of : ArmedKnown → ℕ
soft_of arms.Untold = 0
soft_of arms.No = 0
soft_of (arms.Until soft expires) = soft

-- it was told, and is another one
abbrev pub is_other_processor : ℕ → Option ℕ → Bool
is_other_processor processor None = false
is_other_processor processor (Some known) = not (nat_eq known processor)

abbrev pub is_other_context : Option Context → Option Context → Bool
is_other_context (Some context) (Some known) = not (is_context known context)
is_other_context context known = false

-- it is known to be this one
abbrev pub is_known : Context → Option Context → Bool
is_known context None = false
is_known context (Some known) = is_context known context

-- it was told whether the timer was armed, and that was not so
abbrev pub tells_armed : Option Bool → Bool
tells_armed None = false
tells_armed (Some was) = was

abbrev pub tells_unarmed : Option Bool → Bool
tells_unarmed None = false
tells_unarmed (Some was) = not was

-- the timer whose function runs in a half
abbrev pub runner : HalfKnown → Option ℕ
runner halves.Untold = None
runner halves.Free = None
runner (halves.Taken timer) = Some timer

-- The timer inside whose function another one can't begin, whose context is known so: one that runs in the hard context, or any where the other is soft.
-- `outer` is what is known of the context of the function that no line has told it of.
abbrev pub blocker : Option Context → Option Context → KnownProcessor → Option ℕ
blocker context outer there = option_or (runner there.hard) (option_or
    (if is_known contexts.Soft context then option_or (runner there.soft) there.loose else None)
    (if is_known contexts.Hard outer then there.loose else None))

-- what is known of the context of the function that no line has told it of
abbrev pub outer_by : Option ℕ → (ℕ → KnownTimer) → Option Context
outer_by None timers = None
outer_by (Some u) timers = (timers u).context

-- a function that ran when the recording began may return there, by a line that tells this context
abbrev pub may_be_left : Option Context → KnownProcessor → Bool
may_be_left None there = is_untold there.hard || is_untold there.soft
may_be_left (Some contexts.Hard) there = is_untold there.hard
may_be_left (Some contexts.Soft) there = is_untold there.soft

-- a timer's function may run there: it is known to, or nothing is known of it and it may be left from before the recording
abbrev pub may_run : ℕ → Option Context → KnownProcessor → FunctionKnown → Bool
may_run processor line there functions.Untold = may_be_left line there
may_run processor line there functions.Rests = false
may_run processor line there (functions.Runs at) = nat_eq at processor

-- an earlier expiry of the same queue that came while this one waited, and had no turn before it
abbrev pub passes : OrderedExpiry → OrderedExpiry → Bool
passes earlier claim =
    nat_eq earlier.processor claim.processor && is_context earlier.context claim.context && nat_eq (rank earlier.clock) (rank claim.clock)
    && (nat_lt claim.order earlier.at && not (is_ahead earlier.expires earlier.order claim.expires claim.order))

abbrev pub is_passed : List OrderedExpiry → Option OrderedExpiry → Bool
is_passed claims None = false
is_passed claims (Some claim) = list_any (λ earlier. passes earlier claim) claims

-- what is wrong with a set-up, a start and a cancel of a timer of which this is known
abbrev pub misfits_of_set_up : KnownTimer → List (Bool × Misfit)
misfits_of_set_up k = (is_armed k.armed, causes.SetUpArmed) ∷ (has_running k.function, causes.SetUpRunning) ∷ []

abbrev pub misfits_of_start : ℕ → ℕ → Option Bool → KnownTimer → List (Bool × Misfit)
misfits_of_start soft expires was_armed k =
    (nat_lt expires soft, causes.SoftAfterHard)
    ∷ (nat_lt last_time expires, causes.PastTime)
    ∷ (tells_armed was_armed && is_unarmed k.armed, causes.WasNotArmed)
    ∷ (tells_unarmed was_armed && is_armed k.armed, causes.WasArmed)
    ∷ []

abbrev pub misfits_of_cancel : KnownTimer → List (Bool × Misfit)
misfits_of_cancel k = (has_running k.function, causes.Running) ∷ (is_unarmed k.armed, causes.NotArmed) ∷ []

-- what is wrong with an expiry, where this is known of its timer, of its processor, and of the context of what runs there, and whether it was passed
abbrev pub misfits_of_entry : Site → ℕ → KnownTimer → KnownProcessor → Option Context → Bool → List (Bool × Misfit)
misfits_of_entry site now k there outer passed =
    (has_running k.function, causes.Running)
    ∷ (is_unarmed k.armed, causes.NotArmed)
    ∷ (is_other_processor site.processor k.home, causes.OtherProcessor)
    ∷ (is_other_context site.context k.context, causes.OtherContext)
    ∷ (nat_lt now (soft_of k.armed), causes.TooEarly (soft_of k.armed) now)
    ∷ (
      is_some (blocker (context_at site.context k.context) outer there),
      causes.SecondFunction (unwrap_or (blocker (context_at site.context k.context) outer there) 0),
    )
    ∷ (passed, causes.OutOfOrder)
    ∷ []

-- what is wrong with a return
abbrev pub misfits_of_exit : Site → KnownTimer → KnownProcessor → List (Bool × Misfit)
misfits_of_exit site k there =
    (is_other_context site.context k.context, causes.OtherContext)
    ∷ (not (may_run site.processor (context_at site.context k.told) there k.function), causes.NotRunning)
    ∷ []

-- what may be wrong with an event, in the order in which it is looked for
abbrev pub misfits_of : Knowledge → KernelEvent → List (Bool × Misfit)
misfits_of k (kernel.SetUp t clock context) = misfits_of_set_up (k.timers t)
misfits_of k (kernel.Start t soft expires was_armed) = misfits_of_start soft expires was_armed (k.timers t)
misfits_of k (kernel.Cancel t) = misfits_of_cancel (k.timers t)
misfits_of k (kernel.Entry t site now) =
    misfits_of_entry site now (k.timers t) (k.processors site.processor) (outer_by (k.processors site.processor).loose k.timers)
    (is_passed k.claims (claim_of k.count site (k.timers t)))
misfits_of k (kernel.Exit t site) = misfits_of_exit site (k.timers t) (k.processors site.processor)
misfits_of k kernel.Lost = []

-- why no history shows the events so far with this one behind them, where there is none
abbrev pub misfit : Knowledge → KernelEvent → Option Misfit
misfit k e = first_that_holds (misfits_of k e)

-- a misfit of event n, or a later one
abbrev pub misfit_or : Option Misfit → ℕ → Option (ℕ × Misfit) → Option (ℕ × Misfit)
misfit_or None n later = later
misfit_or (Some cause) n later = Some (n, cause)

-- the number of the first event that no history shows behind those before it, and why
abbrev pub first_misfit : Knowledge → List KernelEvent → Option (ℕ × Misfit)
first_misfit k [] = None
first_misfit k (e ∷ es) = misfit_or (misfit k e) k.count (first_misfit (learned k e) es)
