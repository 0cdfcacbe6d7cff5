-- Several timers by their numbers, and what holds of them on a base.
use Rattle.std.specs.Prelude.{ℕ, ◌≡◌, ◌<◌, ◌⊎◌, Bool, true, false, not, ◌&&◌, is_some, List, get_or, nat_eq, nat_lt, nat_le, if◌then◌else◌}
use Rattle.ktime.specs.declared.clock_id.ClockId.{ClockId}
use Rattle.ktime.specs.declared.clock_id.ClockId.TheVariants as clocks
use Rattle.ktime.specs.Readings.{ClockReading, value_of}
use Rattle.seq_timer.specs.declared.context.Context.{Context}
use Rattle.seq_timer.specs.declared.context.Declared.{Declared}
use Rattle.seq_timer.specs.declared.context.Context.TheVariants as contexts
use Rattle.seq_timer.specs.Steps.{Timer, limited, now_of, opening}

-- as what it is declared
abbrev pub no_declared : Declared
no_declared = record { clock = clocks.Monotonic; context = contexts.Hard }

-- a timer of the hard context on this clock
abbrev pub hard_on : ClockId → Declared
hard_on clock = record { clock = clock; context = contexts.Hard }

-- what stands for a timer that isn't there: it is never armed
abbrev pub no_timer : Timer
no_timer = opening no_declared (limited 1)

-- the timer of this number
abbrev pub timer_at : List Timer → ℕ → Timer
timer_at timers id = get_or timers id no_timer

-- whether two contexts are the same
abbrev pub is_context : Context → Context → Bool
is_context contexts.Hard contexts.Hard = true
is_context contexts.Hard contexts.Soft = false
is_context contexts.Soft contexts.Hard = false
is_context contexts.Soft contexts.Soft = true

-- a timer, as the timers of one context are seen: one of the other seems to be a timer of which nothing has happened
abbrev pub seen_in : Context → Timer → Timer
seen_in x t = if is_context x t.declared.context then t else no_timer

abbrev pub in_context : Context → (ℕ → Timer) → ℕ → Timer
in_context x timers id = seen_in x (timers id)

-- the place of a clock in the order in which a base's queues are looked at
abbrev pub rank : ClockId → ℕ
rank clocks.Monotonic = 0
rank clocks.Realtime = 1
rank clocks.Boottime = 2

-- whether the timer's function runs on a base
abbrev pub runs_on : ℕ → Timer → Bool
runs_on base t = is_some t.running && nat_eq t.base base

-- whether the timer is armed on a base
abbrev pub is_armed_on : ℕ → Timer → Bool
is_armed_on base t = is_some t.armed && not t.moving && nat_eq t.base base

-- whether the timer is due on a base: armed there, with a soft expiry that its clock has reached
abbrev pub is_due_on : ℕ → ClockReading → Timer → Bool
is_due_on base reading t = is_armed_on base t && nat_le t.soft (now_of t reading)

-- whether the timer is armed on a base and kept on a clock
abbrev pub is_kept_on : ℕ → ClockId → Timer → Bool
is_kept_on base clock t = is_armed_on base t && nat_eq (rank t.clock) (rank clock)

-- whether the timer is armed on a base and kept on this clock, with an earlier expiry
abbrev pub is_smaller : ℕ → ClockId → ℕ → Timer → Bool
is_smaller base clock expires t = is_kept_on base clock t && nat_lt t.expires expires

-- a timer leads a clock of a base: it is armed there and kept on the clock, and none of those has an earlier expiry
pub record IsLeading (timers : ℕ → Timer) (base : ℕ) (clock : ClockId) (id : ℕ) : Type 0 where
  pub kept : is_kept_on base clock (timers id) ≡ true
  pub smaller : (other : ℕ) → is_smaller base clock (timers id).expires (timers other) ≡ false

-- a base is stopped for a clock: none is kept on it there, or one that leads has a soft expiry that isn't reached
abbrev pub IsStopped : (ℕ → Timer) → ℕ → ClockReading → ClockId → Type 0
IsStopped timers base reading clock = ((id : ℕ) → is_kept_on base clock (timers id) ≡ false)
    ⊎ ((id : ℕ) × IsLeading timers base clock id × (value_of clock reading < (timers id).soft))

-- a timer is the next to expire on a base: it is due there, the base is stopped for each clock that is looked at before, and none of its clock has
-- an earlier expiry
pub record IsNextDue (timers : ℕ → Timer) (base : ℕ) (reading : ClockReading) (id : ℕ) : Type 0 where
  pub due : is_due_on base reading (timers id) ≡ true
  pub ahead : (clock : ClockId) → nat_lt (rank clock) (rank (timers id).clock) ≡ true → IsStopped timers base reading clock
  pub smaller : (other : ℕ) → is_smaller base (timers id).clock (timers id).expires (timers other) ≡ false

-- no timer is armed on a base, and no function runs there
pub record IsUnused (timers : ℕ → Timer) (base : ℕ) : Type 0 where
  pub unarmed : (t : ℕ) → is_armed_on base (timers t) ≡ false
  pub idle : (t : ℕ) → runs_on base (timers t) ≡ false
