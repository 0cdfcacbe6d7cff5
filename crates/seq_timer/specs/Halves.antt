-- What a base has for one context: a queue for each clock, and the timer whose function runs there; what each event makes of it; and that it agrees
-- with the timers.
use Rattle.std.specs.Prelude.{ℕ, ◌≡◌, Option, Some, None, List, [], ◌∷◌, map, nat_eq, nat_le, if◌then◌else◌, unwrap_or}
use Rattle.std.specs.Option.{option_or}
use Rattle.std.specs.List.{IsDistinct}
use Rattle.ktime.specs.declared.clock_id.ClockId.{ClockId}
use Rattle.ktime.specs.declared.clock_id.ClockId.TheVariants as clocks
use Rattle.ktime.specs.Readings.{ClockReading}
use Rattle.timer_queue.specs.Pairs.{expiry_of, first_of, put, without, IsByExpiry}
use Rattle.seq_timer.specs.Events.{Event}
use Rattle.seq_timer.specs.declared.effect.QueueEffect.{QueueEffect}
use Rattle.seq_timer.specs.declared.effect.QueueEffect.TheVariants as queues
use Rattle.seq_timer.specs.declared.effect.RunEffect.{RunEffect}
use Rattle.seq_timer.specs.declared.effect.RunEffect.TheVariants as functions
use Rattle.seq_timer.specs.Effects.{effect}
use Rattle.seq_timer.specs.Steps.{Timer, after}
use Rattle.seq_timer.specs.Tables.{is_kept_on}

-- a base's queues of pairs (expiry, timer) for one context, and the timer whose function runs there, with its generation
pub record Half : Type 0 where
  pub monotonic : List (ℕ × ℕ)
  pub realtime : List (ℕ × ℕ)
  pub boottime : List (ℕ × ℕ)
  pub running : Option (ℕ × ℕ)

-- no timer is on the base
abbrev pub no_half : Half
no_half = record { monotonic = []; realtime = []; boottime = []; running = None }

-- the base's queue for a clock
abbrev pub queue_of : Half → ClockId → List (ℕ × ℕ)
queue_of c clocks.Monotonic = c.monotonic
queue_of c clocks.Realtime = c.realtime
queue_of c clocks.Boottime = c.boottime

-- the first pair of a queue, where its timer's soft expiry is reached now; what stands behind it isn't looked at
abbrev pub reached : (ℕ → Timer) → ℕ → List (ℕ × ℕ) → Option (ℕ × ℕ)
reached timers now [] = None
reached timers now (p ∷ ps) = if nat_le (timers p.1).soft now then Some p else None

-- the first pair of the first queue, in the order of the clocks, whose first pair is reached
abbrev pub first_in : (ℕ → Timer) → Half → ClockReading → Option (ℕ × ℕ)
first_in timers c reading =
    option_or (reached timers reading.mono c.monotonic) (option_or (reached timers reading.real c.realtime) (reached timers reading.boot c.boottime))

-- the first pair of the first queue, in the order of the clocks, that isn't empty
abbrev pub front_in : Half → Option (ℕ × ℕ)
front_in c = option_or (first_of c.monotonic) (option_or (first_of c.realtime) (first_of c.boottime))

-- ---- what an event makes of the base that its timer is on

-- the timer is in none of the queues any more
abbrev pub dequeued : ℕ → Half → Half
dequeued id c = record c { monotonic = without id c.monotonic; realtime = without id c.realtime; boottime = without id c.boottime }

-- the timer is in this clock's queue, behind all that expire as early or earlier
abbrev pub enqueued : ClockId → ℕ → ℕ → Half → Half
enqueued clocks.Monotonic expires id c = record c { monotonic = put expires id c.monotonic }
enqueued clocks.Realtime expires id c = record c { realtime = put expires id c.realtime }
enqueued clocks.Boottime expires id c = record c { boottime = put expires id c.boottime }

-- the timer is taken off, and then put last among its expiry on its clock's queue
abbrev pub requeued : ℕ → Timer → Half → Half
requeued id t c = enqueued t.clock t.expires id (dequeued id c)

-- this is what runs on the base
abbrev pub with_running : Option (ℕ × ℕ) → Half → Half
with_running running c = record c { running = running }

-- the queues, by what becomes of a timer in its queue; the timer is then so
abbrev pub queued_by : QueueEffect → ℕ → Timer → Half → Half
queued_by queues.Stays id t c = c
queued_by queues.Leaves id t c = dequeued id c
queued_by queues.Armed id t c = requeued id t c

-- what runs, by what becomes of a timer's function; this generation was armed before
abbrev pub run_by : RunEffect → ℕ → Option ℕ → Half → Half
run_by functions.Stays id armed c = c
run_by (functions.Begins reading) id armed c = with_running (Some (id, unwrap_or armed 0)) c
run_by functions.Ends id armed c = with_running None c

-- what the base that the timer is on before the event has, after it
abbrev pub half_after : ℕ → Timer → Event → Half → Half
half_after id t e c = run_by (effect t e).function id t.armed (queued_by (effect t e).queue id (after t e) c)

-- a function begins where none runs
abbrev pub IsFreeFor : Half → RunEffect → Type 0
IsFreeFor c functions.Stays = Unit {0}
IsFreeFor c (functions.Begins reading) = c.running ≡ None
IsFreeFor c functions.Ends = Unit {0}

-- ---- that a base agrees with the timers

-- the expiry of a timer that is armed on a base and kept on a clock
abbrev pub wanted : ℕ → ClockId → Timer → Option ℕ
wanted base clock t = if is_kept_on base clock t then Some t.expires else None

-- a queue has exactly the timers that are armed on the base and kept on the clock, each once with its expiry, and expiries never fall
pub record IsQueueOf (timers : ℕ → Timer) (base : ℕ) (clock : ClockId) (queue : List (ℕ × ℕ)) : Type 0 where
  pub exact : (id : ℕ) → expiry_of id queue ≡ wanted base clock (timers id)
  pub once : IsDistinct nat_eq (map (λ p. p.1) queue)
  pub by_expiry : IsByExpiry queue

-- the generation that runs of a timer, where this runs
abbrev pub generation_in : ℕ → Option (ℕ × ℕ) → Option ℕ
generation_in id None = None
generation_in id (Some r) = if nat_eq r.0 id then Some r.1 else None

-- the generation of a timer whose function runs on a base
abbrev pub running_on : ℕ → Timer → Option ℕ
running_on base t = if nat_eq t.base base then t.running else None

-- a base's content agrees with the timers, each by its number
pub record IsHalfOf (timers : ℕ → Timer) (base : ℕ) (c : Half) : Type 0 where
  pub queues : (clock : ClockId) → IsQueueOf timers base clock (queue_of c clock)
  pub running : (id : ℕ) → generation_in id c.running ≡ running_on base (timers id)
