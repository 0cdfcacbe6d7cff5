-- The history of all timers and bases by the timers and standings alone: no base's queue, and nothing else that a library keeps, stands in it.
use Rattle.std.specs.Prelude.{ℕ, ◌≡◌, ◌≢◌, ◌<◌, true, false, None, List, ◌∷◌, ◌++◌, length}
use Rattle.seq_timer.specs.declared.context.Declared.{Declared}
use Rattle.seq_timer.specs.declared.context.Terms.{Terms}
use Rattle.ktime.specs.Readings.{ClockReading}
use Rattle.seq_timer.specs.declared.event.EventBy.TheVariants as events
use Rattle.seq_timer.specs.declared.standing.BaseEvent.TheVariants as shifts
use Rattle.seq_timer.specs.declared.system.BaseEntry.{BaseEntry}
use Rattle.seq_timer.specs.declared.system.SystemEntry.{SystemEntry}
use Rattle.seq_timer.specs.declared.system.SystemEntry.TheVariants as entries
use Rattle.seq_timer.specs.declared.system.TimerEntry.{TimerEntry}
use Rattle.seq_timer.specs.Standings.{MayShift}
use Rattle.seq_timer.specs.Effects.{effect, WantsOnLine}
use Rattle.seq_timer.specs.Steps.{Timer, Needs, reply_to}
use Rattle.seq_timer.specs.Tables.{IsNextDue, IsUnused, in_context, is_kept_on, runs_on}
use Rattle.seq_timer.specs.Systems.{armed_in, system_of, HasHeirOnLine}

-- It is a timer's turn on a base: no function runs there, the timer is the next to expire there, and of those that are kept on its clock for the same
-- time it was armed first. `armed` is of each timer the number of the entry that armed it last.
pub record IsTurn (timers : ℕ → Timer) (armed : ℕ → ℕ) (base : ℕ) (reading : ClockReading) (t : ℕ) : Type 0 where
  pub idle : (u : ℕ) → runs_on base (timers u) ≡ false
  pub next : IsNextDue timers base reading t
  pub ties : (u : ℕ) → u ≢ t → is_kept_on base (timers t).clock (timers u) ≡ true → (timers u).expires ≡ (timers t).expires → armed t < armed u

-- an entry of a timer may stand behind these: it is a step of one of the timers, which is sent to one of the bases, finds its base on line where it arms it
-- or its function begins, and is claimed in its turn
pub record MayFollow (bases : ℕ) (declareds : List Declared) (terms : Terms) (before : List SystemEntry) (e : TimerEntry) : Type 0 where
  pub within : e.timer < length declareds
  pub needs : Needs ((system_of declareds terms before).timers e.timer) e.event
  pub reply : e.reply ≡ reply_to ((system_of declareds terms before).timers e.timer) e.event
  pub sent : (base : ℕ) → e.event ≡ events.Out base → base < bases
  pub online : WantsOnLine (effect ((system_of declareds terms before).timers e.timer) e.event)
      → ((system_of declareds terms before).bases ((system_of declareds terms before).timers e.timer).base).standing.heir ≡ None
  pub turn : (base : ℕ) (reading : ClockReading) → e.event ≡ events.Claim base reading
      → IsTurn (in_context ((system_of declareds terms before).timers e.timer).declared.context (system_of declareds terms before).timers)
      (armed_in declareds terms before) base reading e.timer

-- and an entry of a base: it goes by turns, and off line where no timer is armed on it and no function runs there, to an heir that is on line, and each
-- timer has a reach
pub record MayShiftAfter (bases : ℕ) (declareds : List Declared) (terms : Terms) (before : List SystemEntry) (c : BaseEntry) : Type 0 where
  pub within : c.base < bases
  pub may : MayShift c.base ((system_of declareds terms before).bases c.base).standing c.event
  pub clear : (heir : ℕ) → c.event ≡ shifts.Offline heir → IsUnused (system_of declareds terms before).timers c.base
  pub heir : HasHeirOnLine (system_of declareds terms before).bases c.event
  pub reach : (t : ℕ) → t < length declareds → 0 < ((system_of declareds terms before).timers t).terms.reach

-- an entry of a timer or of a base; a rise of a counter may stand anywhere
abbrev pub MayStandBehind : ℕ → List Declared → Terms → List SystemEntry → SystemEntry → Type 0
MayStandBehind bases declareds terms before (entries.Timer e) = MayFollow bases declareds terms before e
MayStandBehind bases declareds terms before (entries.Base c) = MayShiftAfter bases declareds terms before c
MayStandBehind bases declareds terms before (entries.Rise k) = Unit

-- each entry may stand behind those before it
abbrev pub IsInTurn : ℕ → List Declared → Terms → List SystemEntry → Type 0
IsInTurn bases declareds terms log = (before later : List SystemEntry) (x : SystemEntry) → log ≡ before ++ x ∷ later
    → MayStandBehind bases declareds terms before x
