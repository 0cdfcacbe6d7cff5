-- What a call on timers makes stands between what its pass had seen before it and what it has seen behind it.
use Rattle.std.specs.List.{AllByRecursion}
use Rattle.std.specs.Prelude.{ℕ, ◌≡◌, ◌≤◌, ◌<◌, ◌⊎◌, List, ◌++◌, length}
use Rattle.ktime.specs.Readings.{ClockReading}
use Rattle.pass_names.specs.Passes.{Begins}
use Rattle.seq_timer.specs.Systems.{entries_of, shifts_of}
use Rattle.seq_timer.specs.declared.system.SystemEntry.{SystemEntry}
use Rattle.base_row.specs.Rules.{base_place}
use Rattle.base_row.specs.declared.view.Opening.{Opening}
use Rattle.hr_timers.specs.Handlers.{Meaning}
use Rattle.hr_timers.specs.Known.{KnownOfTimers}
use Rattle.hr_timers.specs.declared.handler.Restart.{Restart}
use Rattle.hr_timers.specs.declared.numbers.ClaimNumbers.{ClaimNumbers}

-- a number behind the one, and up to the other
abbrev pub IsBehind : ℕ → ℕ → ℕ → Type 0
IsBehind before number after = (before < number) × (number ≤ after)

-- the entry at this place, of a timer or of a base, stands behind what was seen before, and in what is seen after; there are so many timers
abbrev pub StandsBetween : ℕ → List SystemEntry → List SystemEntry → ℕ × ℕ → Type 0
StandsBetween timers before after place =
    IsBehind (length (entries_of place.0 before)) place.1 (length (entries_of place.0 after))
    ⊎ ((b : ℕ) × (place.0 ≡ base_place timers b) × IsBehind (length (shifts_of b before)) place.1 (length (shifts_of b after)))

-- what was seen goes on, and the entries at these places were made between what was seen before and after
pub record MakesBetween (timers : ℕ) (v w : KnownOfTimers) (made : List (ℕ × ℕ)) : Type 0 where
  pub seen : Begins v.seen w.seen
  pub id : w.id ≡ v.id
  pub mine : w.mine ≡ v.mine ++ made
  pub each : AllByRecursion (StandsBetween timers v.seen w.seen) made

-- so it is of some places
abbrev pub MakesSome : ℕ → KnownOfTimers → KnownOfTimers → Type 0
MakesSome timers v w = (made : List (ℕ × ℕ)) × MakesBetween timers v w made

-- so each function does that a caller's handler runs
abbrev pub FunctionsMakeBetween : {A : Type 0} → Meaning A → Opening → Type 0
FunctionsMakeBetween {A} m o = (h h' : A) (v w : KnownOfTimers) (c : ClaimNumbers) (reading : ClockReading) (restart : Restart)
    → m.did o h h' v w c reading restart → MakesSome (length o.timers) v w
