-- What a checker holds of what is known.
use Rattle.std.specs.Prelude.{ℕ, ◌≡◌, ◌≢◌, ◌+◌, ◌*◌, Bool, not, ◌&&◌, nat_eq, nat_le, nat_lt, List, [], Some}
use Rattle.std.specs.HashMap.{get, HashMap}
use Rattle.std.specs.List.{list_any}
use Rattle.std.specs.Option.{unwrap_or}
use Rattle.ktime.specs.declared.clock_id.ClockId.{ClockId}
use Rattle.seq_timer.specs.declared.context.Context.{Context}
use Rattle.seq_timer.specs.declared.context.Context.TheVariants as contexts
use Rattle.seq_timer.specs.Tables.{rank}
use Rattle.trace_check.specs.declared.known.OrderedExpiry.{OrderedExpiry}
use Rattle.trace_check.specs.declared.known.KnownProcessor.{KnownProcessor}
use Rattle.trace_check.specs.declared.known.KnownTimer.{KnownTimer}
use Rattle.trace_check.specs.declared.mark.Mark.{Mark}
use Rattle.trace_check.specs.Knowledge.{is_passed, nothing_there, unknown}
use Rattle.trace_check.specs.Traced.{is_ahead}

module _ {S : Type 0} where
  -- what a table knows of a timer
  abbrev pub known_in : HashMap ℕ KnownTimer S → ℕ → KnownTimer
  known_in m timer = unwrap_or (get nat_eq m timer) unknown

  -- a table has this of a timer, and of each other one what it had
  pub record KnowsOnly (old new : HashMap ℕ KnownTimer S) (timer : ℕ) (known : KnownTimer) : Type 0 where
    pub here : known_in new timer ≡ known
    pub others : (u : ℕ) → u ≢ timer → known_in new u ≡ known_in old u

-- an expiry passed a timer that waited since event `order`, with this expiry: it came later, and had no turn before it
abbrev pub is_late : ℕ → ℕ → Mark → Bool
is_late expires order mark = nat_lt order mark.at && not (is_ahead mark.expires mark.order expires order)

-- an expiry came no later than another one, and had its turn no later: it passes only timers that the other one passes
unfoldable pub is_covered : Mark → Mark → Bool
is_covered mark later = nat_le mark.at later.at && not (is_ahead later.expires later.order mark.expires mark.order)

-- the number of a processor's half for a context
abbrev pub half_number : ℕ → Context → ℕ
half_number processor contexts.Hard = 2 * processor
half_number processor contexts.Soft = 2 * processor + 1

-- the number of a processor's queue, for a context and a clock
abbrev pub queue_number : ℕ → Context → ClockId → ℕ
queue_number processor context clock = 3 * half_number processor context + rank clock

module _ {S : Type 0} where
  -- what a table knows of a processor
  abbrev pub known_on : HashMap ℕ KnownProcessor S → ℕ → KnownProcessor
  known_on m processor = unwrap_or (get nat_eq m processor) nothing_there

  -- the expiries of a queue
  abbrev pub marks_in : HashMap ℕ (List Mark) S → ℕ → List Mark
  marks_in m q = unwrap_or (get nat_eq m q) []

  -- a table has this of a processor, and of each other one what it had
  pub record HasOnly (old new : HashMap ℕ KnownProcessor S) (processor : ℕ) (known : KnownProcessor) : Type 0 where
    pub here : known_on new processor ≡ known
    pub others : (p : ℕ) → p ≢ processor → known_on new p ≡ known_on old p

  -- whether one of the expiries of a claim's queue passed it
  abbrev pub is_late_for : HashMap ℕ (List Mark) S → OrderedExpiry → Bool
  is_late_for queues claim = list_any (is_late claim.expires claim.order) (marks_in queues (queue_number claim.processor claim.context claim.clock))

  -- the queues tell of each claim whether one of these expiries passed it
  abbrev pub TellsPassed : HashMap ℕ (List Mark) S → List OrderedExpiry → Type 0
  TellsPassed queues claims = (claim : OrderedExpiry) → is_late_for queues claim ≡ is_passed claims (Some claim)
