-- A base: its content and the room of its queues, and how they stand with a timer that is on it.
use Rattle.std.specs.Prelude.{ℕ, ◌+◌, ◌≡◌, Bool, false, ◌&&◌, List, [], get_or, Option, is_some, nat_eq}
use Rattle.ktime.specs.declared.clock_id.ClockId.{ClockId}
use Rattle.ktime.specs.declared.clock_id.ClockId.TheVariants as clocks
use Rattle.timer_queue.specs.Pairs.{has_id}
use Rattle.seq_timer.specs.Events.{Event}
use Rattle.seq_timer.specs.Steps.{Timer}
use Rattle.seq_timer.specs.Tables.{rank}
use Rattle.seq_timer.specs.declared.context.Context.{Context}
use Rattle.seq_timer.specs.declared.context.Context.TheVariants as contexts
use Rattle.seq_timer.specs.Halves.{Half}
use Rattle.seq_timer.specs.Contents.{Content, content_after, half_of, no_content, with_half}

-- the other context
abbrev pub other_context : Context → Context
other_context contexts.Hard = contexts.Soft
other_context contexts.Soft = contexts.Hard

-- a base: what it has, and the room of its queues
pub record BaseState : Type 0 where
  pub content : Content
  pub room : ℕ

-- a base that no timer is on
abbrev pub empty_base : ℕ → BaseState
empty_base room = record { content = no_content; room = room }

-- the base that a timer is on before an event, after it
abbrev pub base_after : ℕ → Timer → Event → BaseState → BaseState
base_after id t e b = record b { content = content_after id t e b.content }

-- a base with another half for a context, made of the one that it has
abbrev pub in_half : Context → (Half → Half) → BaseState → BaseState
in_half x f b = record b { content = with_half x (f (half_of x b.content)) b.content }

-- ---- a base's six queues as one list

-- the number of a context's queue for a clock
abbrev pub queue_index : Context → ClockId → ℕ
queue_index contexts.Hard clock = rank clock
queue_index contexts.Soft clock = rank clock + 3

-- the half whose queues have the numbers from this one on, with what runs there
abbrev pub half_from : ℕ → List (List (ℕ × ℕ)) → Option (ℕ × ℕ) → Half
half_from n queues running = record {
  monotonic = get_or queues n [];
  realtime = get_or queues (n + 1) [];
  boottime = get_or queues (n + 2) [];
  running = running;
}

-- the content of a base with these queues, and what runs there in each context
abbrev pub content_from : List (List (ℕ × ℕ)) → (hard soft : Option (ℕ × ℕ)) → Content
content_from queues hard soft = record { hard = half_from 0 queues hard; soft = half_from 3 queues soft }

-- ---- how a timer stands in the queues

-- whether a timer that is armed so, and kept on the one clock, stands in the other's queue on its base
abbrev pub is_queued : Option ℕ → ClockId → ClockId → Bool
is_queued armed kept clock = is_some armed && nat_eq (rank kept) (rank clock)

-- a timer stands in the queues of its base as one that is armed so, and kept on this clock
pub record IsQueuedIn (id : ℕ) (armed : Option ℕ) (kept : ClockId) (c : Half) : Type 0 where
  pub monotonic : has_id id c.monotonic ≡ is_queued armed kept clocks.Monotonic
  pub realtime : has_id id c.realtime ≡ is_queued armed kept clocks.Realtime
  pub boottime : has_id id c.boottime ≡ is_queued armed kept clocks.Boottime

-- the timer stands in none of the queues
pub record IsInNone (id : ℕ) (c : Half) : Type 0 where
  pub monotonic : has_id id c.monotonic ≡ false
  pub realtime : has_id id c.realtime ≡ false
  pub boottime : has_id id c.boottime ≡ false

-- the timer stands in none of a base's queues
pub record IsAbsent (id : ℕ) (c : Content) : Type 0 where
  pub each : (x : Context) → IsInNone id (half_of x c)

-- a timer of a context stands in the queues of its base as one that is armed so, and kept on this clock: in none of the other context's
pub record IsQueuedOn (id : ℕ) (x : Context) (armed : Option ℕ) (kept : ClockId) (c : Content) : Type 0 where
  pub own : IsQueuedIn id armed kept (half_of x c)
  pub other : IsInNone id (half_of (other_context x) c)

abbrev pub IsQueuedAs : ℕ → Timer → Content → Type 0
IsQueuedAs id t c = IsQueuedOn id t.declared.context t.armed t.clock c
