-- What a base has: for each context its queues and the timer whose function runs there. An event changes the half of its timer's context.
use Rattle.std.specs.Prelude.{ℕ, Option}
use Rattle.std.specs.Option.{option_or}
use Rattle.ktime.specs.declared.clock_id.ClockId.{ClockId}
use Rattle.ktime.specs.Readings.{ClockReading}
use Rattle.timer_queue.specs.Pairs.{first_of}
use Rattle.seq_timer.specs.declared.context.Context.{Context}
use Rattle.seq_timer.specs.declared.context.Context.TheVariants as contexts
use Rattle.seq_timer.specs.Events.{Event}
use Rattle.seq_timer.specs.Steps.{Timer}
use Rattle.seq_timer.specs.Tables.{in_context}
use Rattle.seq_timer.specs.Halves.{Half, IsHalfOf, first_in, front_in, half_after, no_half, queue_of}

-- a base's queues, with what runs there, for each context
pub record Content : Type 0 where
  pub hard : Half
  pub soft : Half

-- no timer is on the base
abbrev pub no_content : Content
no_content = record { hard = no_half; soft = no_half }

-- what the base has for a context
abbrev pub half_of : Context → Content → Half
half_of contexts.Hard c = c.hard
half_of contexts.Soft c = c.soft

-- the same, with another half for a context
abbrev pub with_half : Context → Half → Content → Content
with_half contexts.Hard h c = record c { hard = h }
with_half contexts.Soft h c = record c { soft = h }

-- what runs on the base in a context
abbrev pub running_in : Context → Content → Option (ℕ × ℕ)
running_in x c = (half_of x c).running

-- the timer of a context that is to expire next
abbrev pub first_due : Context → (ℕ → Timer) → Content → ClockReading → Option (ℕ × ℕ)
first_due x timers c reading = first_in timers (half_of x c) reading

-- the first pair of the first queue that isn't empty: those of the hard context stand before those of the soft one
abbrev pub front_of : Content → Option (ℕ × ℕ)
front_of c = option_or (front_in c.hard) (front_in c.soft)

-- the first pair of a context's queue for a clock, due or not
abbrev pub front_on : Context → ClockId → Content → Option (ℕ × ℕ)
front_on x clock c = first_of (queue_of (half_of x c) clock)

-- ---- what an event makes of the base that its timer is on

-- the content of the base that the timer is on before the event, after it
abbrev pub content_after : ℕ → Timer → Event → Content → Content
content_after id t e c = with_half t.declared.context (half_after id t e (half_of t.declared.context c)) c

-- a base's content agrees with the timers: for each context with the timers of that context
pub record IsContentOf (timers : ℕ → Timer) (base : ℕ) (c : Content) : Type 0 where
  pub each : (x : Context) → IsHalfOf (in_context x timers) base (half_of x c)
