-- Why one try for a timer comes to nothing, or takes a lock.
use Rattle.std.specs.Prelude.{ℕ, ◌≡◌, ◌≢◌, ◌⊎◌, List, None}
use Rattle.base_row.specs.declared.view.Opening.{Opening}
use Rattle.pass_names.specs.Passes.{Begins}
use Rattle.seq_timer.specs.declared.system.SystemEntry.{SystemEntry}
use Rattle.seq_timer.specs.Histories.{IsIdle}
use Rattle.seq_timer.specs.Systems.{rises_of}
use Rattle.hr_timers.specs.Calls.{SawMove, WasOn}
use Rattle.hr_timers.specs.Known.{HasMissed, KnownOfTimers, PassOf, timer_then}

-- One try at the lock of the timer's base failed: the timer was seen on the move, or on one base and then on another; or it was on a base whose lock
-- another pass took in between.
abbrev pub HasMissedIts : Opening → PassOf → PassOf → ℕ → Type 0
HasMissedIts o p q t = SawMove o p.known q.known t ⊎ ((b : ℕ) × HasMissed p q b × WasOn o p.known q.known t b)

-- at a moment of a call the timer wasn't idle
pub record WasBusy (o : Opening) (v w : KnownOfTimers) (t : ℕ) : Type 0 where
  pub at : List SystemEntry
  pub from : Begins v.seen at
  pub seen : Begins at w.seen
  pub busy : IsIdle (timer_then o at t) → ⊥

-- at a moment of a call a counter had risen another number of times, and the timer's function wasn't running
pub record HadRisenWhileStill (o : Opening) (counter from : ℕ) (v w : KnownOfTimers) (t : ℕ) : Type 0 where
  pub at : List SystemEntry
  pub after : Begins v.seen at
  pub seen : Begins at w.seen
  pub other : rises_of counter at ≢ from
  pub still : (timer_then o at t).running ≡ None
