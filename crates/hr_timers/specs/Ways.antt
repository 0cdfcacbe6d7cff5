-- How a start goes from base to base: it is sent on from bases that are off line, to their heirs, and each base that its entries name was found on line.
use Rattle.std.specs.Prelude.{ℕ, ◌≡◌, ◌+◌, ◌<◌, ◌≤◌, ◌^◌, nat_lt, List, [], ◌∷◌, Option, Some, None, if◌then◌else◌}
use Rattle.pass_names.specs.Passes.{Begins}
use Rattle.seq_timer.specs.Events.{Asked, Event}
use Rattle.seq_timer.specs.declared.context.Terms.{Terms}
use Rattle.seq_timer.specs.declared.event.EventBy.TheVariants as events
use Rattle.seq_timer.specs.declared.standing.Standing.{Standing}
use Rattle.seq_timer.specs.declared.system.SystemEntry.{SystemEntry}
use Rattle.seq_timer.specs.Systems.{system_after}
use Rattle.base_row.specs.declared.view.Opening.{Opening}
use Rattle.hr_timers.specs.Known.{timer_then}

-- the same request for another base
abbrev pub asking : Asked → ℕ → Asked
asking asked base = record asked { base = base }

-- the events of a timer that is sent to these bases in turn, and then has this event
abbrev pub sends : List ℕ → Event → List Event
sends [] e = e ∷ []
sends (b ∷ bs) e = events.Out b ∷ sends bs e

-- the events of a start that was sent to these bases in turn, and asked for this one last
abbrev pub start_on : Asked → List ℕ → ℕ → List Event
start_on asked sent last = sends sent (events.Start (asking asked last))

-- the last of these bases, or this one where there are none
abbrev pub last_of : ℕ → List ℕ → ℕ
last_of base [] = base
last_of base (b ∷ bs) = last_of b bs

-- a bit for each of the bases
abbrev pub bits_of : List ℕ → ℕ
bits_of [] = 0
bits_of (b ∷ bs) = 2 ^ b + bits_of bs

-- each is of a lower number than the one before
abbrev pub Falls : ℕ → List ℕ → Type 0
Falls base [] = Unit {0}
Falls base (b ∷ bs) = (b < base) × Falls b bs

-- whether a base is on line, after these entries
abbrev pub standing_then : Opening → List SystemEntry → ℕ → Standing
standing_then o x b = ((system_after o.timers x).bases b).standing

-- at this moment, no earlier than that one, the base had this heir, or was on line
pub record Stood (o : Opening) (low at : List SystemEntry) (base : ℕ) (heir : Option ℕ) : Type 0 where
  pub from : Begins low at
  pub stood : (standing_then o at base).heir ≡ heir

-- From the one base the other is reached by these heirs in turn: each base was off line with the next as its heir, and the last was on line, at moments that
-- never go back. The last of them is `at`.
abbrev pub IsWay : Opening → List SystemEntry → ℕ → List ℕ → ℕ → List SystemEntry → Type 0
IsWay o low a [] b at = (a ≡ b) × Stood o low at a None
IsWay o low a (c ∷ cs) b at = (x : List SystemEntry) × Stood o low x a (Some c) × IsWay o x c cs b at

-- a call that has seen so much by its end, of a timer
module _ (o : Opening) (high : List SystemEntry) (t : ℕ) where
  -- the one base was reached from the other, and found on line, before the timer had more than n entries
  pub record Finds (low : List SystemEntry) (n a b : ℕ) : Type 0 where
    pub path : List ℕ
    pub at : List SystemEntry
    pub way : IsWay o low a path b at
    pub seen : Begins at high
    pub few : (timer_then o at t).stamp ≤ n

  -- from the base to which the timer was sent it was sent on to these in turn, each the heir of the one before; the last was asked for
  abbrev pub IsSentOn : List SystemEntry → ℕ → ℕ → List ℕ → ℕ → Type 0
  IsSentOn low n a [] last = a ≡ last
  IsSentOn low n a (b ∷ bs) last = (f : Finds low n a b) × (f.path ≡ b ∷ []) × IsSentOn f.at (n + 1) b bs last

  -- The bases that a start was sent to, and the one that it asked for last: each was found on line before the entry that names it. The timer had n entries
  -- before.
  abbrev pub IsSentBy : List SystemEntry → ℕ → ℕ → List ℕ → ℕ → Type 0
  IsSentBy low n asked [] last = Finds low n asked last
  IsSentBy low n asked (b ∷ bs) last = (f : Finds low n asked b) × IsSentOn f.at (n + 1) b bs last × Falls b bs

-- a timer that is on its way to this base gets at most so many entries until it has arrived: a timer with a reach may be sent on to each base below
abbrev pub most_to_arrive : Terms → ℕ → ℕ
most_to_arrive terms base = if nat_lt 0 terms.reach then base + 1 else 1

-- a start that asks for this base makes at most so many entries
abbrev pub most_to_start : Terms → ℕ → ℕ
most_to_start terms base = most_to_arrive terms base + 1
