-- Where calls' turns of objects stand among the entries of timers. Counter i + 1 of the timers rises where a call's turn of object i begins, and again where
-- the call makes its entry. So it is twice the number of the object's entries, and one more while a call has its turn.
use Rattle.std.specs.Prelude.{ℕ, ◌+◌, ◌≤◌, ◌^◌, ◌≢◌, ◌⊎◌}
use Rattle.pass_names.specs.SharedHistory.{LooksOn}
use Rattle.seq_timer.specs.Systems.{rises_of}
use Rattle.base_row.specs.Plays.{RisesFrom}
use Rattle.hr_timers.specs.Known.{KnownOfTimers}

-- the counter of the timers that counts the turns of an object
abbrev pub turns_counter : ℕ → ℕ
turns_counter i = i + 1

-- how often it has risen, by what a pass has seen of the timers
abbrev pub turns_told : ℕ → KnownOfTimers → ℕ
turns_told i k = rises_of (turns_counter i) k.seen

-- Why a try of a call to begin or to end a turn has to be made again: the counter doesn't stand at this number, by what the pass has then seen. An object
-- of the greatest number that there is has no counter.
abbrev pub StandsElsewhere : ℕ → ℕ → KnownOfTimers → Type 0
StandsElsewhere i from k = (turns_told i k ≢ from) ⊎ (2 ^ 32 ≤ turns_counter i)

-- a call's turn of an object with so many entries begins
pub record BeginsTurn (i n : ℕ) (v w : KnownOfTimers) : Type 0 where
  pub looks : LooksOn v w
  pub rises : RisesFrom (turns_counter i) (n + n) v.seen w.seen

-- it ends, where the call's own entry has its place
pub record EndsTurn (i n : ℕ) (v w : KnownOfTimers) : Type 0 where
  pub looks : LooksOn v w
  pub rises : RisesFrom (turns_counter i) (n + n + 1) v.seen w.seen

-- A call's turn: all that the call does to the timer stands between these two rises of the counter, and no other rise of it does.
pub record HasTurn (i n : ℕ) (old begun worked new : KnownOfTimers) : Type 0 where
  pub begins : BeginsTurn i n old begun
  pub ends : EndsTurn i n worked new
