-- How long a thread may sleep for a base.
use Rattle.std.specs.Prelude.{ℕ, ◌≡◌, ◌-◌, min, false, Option, Some, None}
use Rattle.ktime.specs.Readings.{ClockReading, value_of}
use Rattle.ktime.specs.declared.clock_id.ClockId.{ClockId}
use Rattle.ktime.specs.declared.clock_id.ClockId.TheVariants as clocks
use Rattle.pass_names.specs.SharedHistory.{LooksOn}
use Rattle.seq_timer.specs.Tables.{in_context, is_kept_on}
use Rattle.seq_timer.specs.declared.context.Context.{Context}
use Rattle.seq_timer.specs.declared.context.Context.TheVariants as contexts
use Rattle.base_row.specs.declared.view.Opening.{Opening}
use Rattle.hr_timers.specs.Known.{KnownOfTimers, timer_then}
use Rattle.hr_timers.specs.Once.{LeadsOn}
use Rattle.hulayban.specs.Calls.{ByReading, LeavesOthers}
use Rattle.hulayban.specs.Systems.{HandleOf, SystemOf}

-- the lesser of two waits, of which each may be for nothing
abbrev pub lesser_wait : Option ℕ → Option ℕ → Option ℕ
lesser_wait None b = b
lesser_wait (Some m) None = Some m
lesser_wait (Some m) (Some n) = Some (min m n)

module _ (o : Opening) where
  -- by all that is known the queue's first timer has this hard expiry, or no timer is in the queue
  abbrev pub FirstExpires : KnownOfTimers → Context → ℕ → ClockId → Option ℕ → Type 0
  FirstExpires k x base clock (Some expires) = (t : ℕ) × LeadsOn o k x base clock t expires
  FirstExpires k x base clock None = (t : ℕ) → is_kept_on base clock (in_context x (timer_then o k.seen) t) ≡ false

  -- from the reading it has so long to that: 0 where its time has come
  abbrev pub FirstWaits : KnownOfTimers → Context → ℕ → ClockId → ClockReading → Option ℕ → Type 0
  FirstWaits k x base clock reading (Some ns) = (expires : ℕ) × FirstExpires k x base clock (Some expires) × (ns ≡ expires - value_of clock reading)
  FirstWaits k x base clock reading None = FirstExpires k x base clock None

  -- the queues of a context were looked at, one after another, and this is the least wait
  pub record ContextWaits (v w : KnownOfTimers) (x : Context) (base : ℕ) (reading : ClockReading) (wait : Option ℕ) : Type 0 where
    pub one : KnownOfTimers
    pub two : KnownOfTimers
    pub monotonic : Option ℕ
    pub realtime : Option ℕ
    pub boottime : Option ℕ
    pub looks_one : LooksOn v one
    pub first : FirstWaits one x base clocks.Monotonic reading monotonic
    pub looks_two : LooksOn one two
    pub second : FirstWaits two x base clocks.Realtime reading realtime
    pub looks_last : LooksOn two w
    pub third : FirstWaits w x base clocks.Boottime reading boottime
    pub least : wait ≡ lesser_wait monotonic (lesser_wait realtime boottime)

  -- those of both contexts were
  pub record BaseWaits (v w : KnownOfTimers) (base : ℕ) (reading : ClockReading) (wait : Option ℕ) : Type 0 where
    pub between : KnownOfTimers
    pub hard : Option ℕ
    pub soft : Option ℕ
    pub hard_waits : ContextWaits v between contexts.Hard base reading hard
    pub soft_waits : ContextWaits between w contexts.Soft base reading soft
    pub least : wait ≡ lesser_wait hard soft
    pub looks : LooksOn v w

-- two calls looked at the queues of a context when they had seen the same
pub record LooksAlike {o : Opening} {v w v' w' : KnownOfTimers} {x : Context} {base : ℕ} {reading : ClockReading} {a a' : Option ℕ}
    (c : ContextWaits o v w x base reading a) (d : ContextWaits o v' w' x base reading a') : Type 0 where
  pub first : c.one.seen ≡ d.one.seen
  pub second : c.two.seen ≡ d.two.seen
  pub last : w.seen ≡ w'.seen

-- The call took a reading of the clock, and then looked at each queue of the base. The answer is how long the first timer of one of them still has by the
-- reading, the least that any has; or none of them had one.
abbrev pub DoesNextExpiry : SystemOf → HandleOf → HandleOf → ℕ → Option ℕ → Type 0
DoesNextExpiry x old new base wait = ByReading x old new (λ mid now reading.
    BaseWaits x.timers.about mid.timers.known now.timers.known base reading wait × LeavesOthers mid now)
