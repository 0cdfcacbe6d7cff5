-- Why a turn of a settime, a sleep or an interrupt is given up and tried again.
use Rattle.std.specs.Prelude.{ℕ, ◌<◌, ◌≤◌, ◌^◌, ◌⊎◌, length, IsSome}
use Rattle.base_row.specs.declared.view.Opening.{Opening}
use Rattle.hr_timers.specs.Known.{KnownOfTimers, timer_then}
use Rattle.hr_timers.specs.Logged.{HadRisenOtherwise}
use Rattle.counted_row.specs.Calls.{ReadsValue}
use Rattle.timer_objects.specs.Meaning.{object_meaning}
use Rattle.timer_objects.specs.Known.{ObjectsOf, ObjectsPass, seen_of}
use Rattle.timer_objects.specs.Turns.{turns_counter}

-- a timer can't be disarmed yet: its function is running
abbrev pub IsHindered : Opening → KnownOfTimers → ℕ → Type 0
IsHindered o k t = IsSome (timer_then o k.seen t).running

-- a turn of an object couldn't begin: at a moment of the call the counter of its turns didn't stand at this number. An object of the greatest number that
-- there is has no counter.
abbrev pub IsOutOfTurn : ℕ → ℕ → KnownOfTimers → KnownOfTimers → Type 0
IsOutOfTurn i from v w = HadRisenOtherwise (turns_counter i) from v w ⊎ (2 ^ 32 ≤ turns_counter i)

-- the object was looked at, its history has room, and its timer can't be disarmed yet
pub record HasToWait (x : ObjectsOf) (o : Opening) (old new : ObjectsPass) (k : KnownOfTimers) (id : ℕ) : Type 0 where
  pub reads : ReadsValue object_meaning old new id
  pub room : length (seen_of new id) < x.limit
  pub hindered : IsHindered o k id
