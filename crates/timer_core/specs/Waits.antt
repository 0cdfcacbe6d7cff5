-- How long a base may be left alone.
use Rattle.std.specs.Prelude.{ℕ, ◌≡◌, ◌+◌, ◌-◌, ◌≤◌, Bool, true, false, Option, Some, None, IfSome, IsSome, nat_le, if◌then◌else◌}
use Rattle.ktime.specs.declared.clock_id.ClockId.{ClockId}
use Rattle.ktime.specs.Readings.{ClockReading, value_of}
use Rattle.seq_timer.specs.declared.context.Context.{Context}
use Rattle.seq_timer.specs.Steps.{Timer, now_of}
use Rattle.seq_timer.specs.Tables.{is_armed_on}
use Rattle.seq_timer.specs.Contents.{first_due}
use Rattle.timer_core.specs.Kept.{Kept, content_at, timer_in}

-- how long after a reading a timer's clock reaches its expiry: 0 where it has
abbrev pub wait_of : ClockReading → Timer → ℕ
wait_of reading t = t.expires - now_of t reading

-- the least number that one of those that are picked has, or none where none is picked
abbrev pub IsLeast : (ℕ → Bool) → (ℕ → ℕ) → Option ℕ → Type 0
IsLeast picks number None = (id : ℕ) → picks id ≡ false
IsLeast picks number (Some least) = ((id : ℕ) → picks id ≡ true → least ≤ number id) × ((id : ℕ) × (picks id ≡ true) × (number id ≡ least))

-- each clock has gone on by so much, or more
abbrev pub HasGoneOn : ℕ → ClockReading → ClockReading → Type 0
HasGoneOn ns reading later = (clock : ClockId) → value_of clock reading + ns ≤ value_of clock later

-- in one of the contexts a claim on the base finds a timer, where no function runs
abbrev pub MayClaim : Kept → ℕ → ClockReading → Type 0
MayClaim k base reading = (x : Context) × IsSome (first_due x (timer_in k) (content_at k base) reading)

-- the least wait of the timers that are picked; when the clocks have gone on so far, there is a timer to claim
pub record IsWait (k : Kept) (base : ℕ) (reading : ClockReading) (picks : ℕ → Bool) (wait : Option ℕ) : Type 0 where
  pub least : IsLeast picks (λ id. wait_of reading (timer_in k id)) wait
  pub wakes : IfSome wait (λ ns. (later : ClockReading) → HasGoneOn ns reading later → MayClaim k base later)

-- how long a base may be left alone after a reading: the least wait of all timers that are armed there, of both contexts and all clocks
abbrev pub IsNextWait : Kept → ℕ → ClockReading → Option ℕ → Type 0
IsNextWait k base reading wait = IsWait k base reading (λ id. is_armed_on base (timer_in k id)) wait

-- the lesser of two
abbrev pub sooner : Option ℕ → Option ℕ → Option ℕ
sooner None b = b
sooner (Some x) None = Some x
sooner (Some x) (Some y) = Some (if nat_le x y then x else y)
