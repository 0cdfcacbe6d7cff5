-- Where the clock's readings and writes stand among the entries of timers. Counter 0 of the timers repeats the number of the clock's writes, so the k-th of
-- its rises is the place of the k-th write. So it is of any shared thing whose changes a counter repeats.
use Rattle.std.specs.Prelude.{ℕ, ◌≡◌, ◌+◌, ◌≤◌, List, [], ◌∷◌, ◌++◌, length, Result, IfOk, OnErr}
use Rattle.clock_cell.specs.Views.{reading_after, seen_reading, writes}
use Rattle.clock_cell.specs.declared.view.ClockView.{ClockView}
use Rattle.ktime.specs.declared.write.ClockFault.{ClockFault}
use Rattle.ktime.specs.Clocks.{IsAccepted}
use Rattle.ktime.specs.Readings.{ClockReading}
use Rattle.ktime.specs.declared.write.Write.{Write}
use Rattle.pass_names.specs.Passes.{Begins}
use Rattle.seq_timer.specs.Systems.{rises_of}
use Rattle.seq_timer.specs.declared.system.SystemEntry.{SystemEntry}
use Rattle.seq_timer.specs.declared.system.SystemEntry.TheVariants as entries
use Rattle.hr_timers.specs.Known.{KnownOfTimers}

-- the counter of the timers that the clock's writes raise
abbrev pub clock_counter : ℕ
clock_counter = 0

-- of how many writes of the clock the timers are told, by what a pass has seen of them
abbrev pub told : KnownOfTimers → ℕ
told k = rises_of clock_counter k.seen

-- At a moment between what was seen before and what is seen after, a counter had risen so often.
pub record CountsAt (counter : ℕ) (old new : List SystemEntry) (number : ℕ) : Type 0 where
  pub at : List SystemEntry
  pub from : Begins old at
  pub seen : Begins at new
  pub count : rises_of counter at ≡ number

-- Between what was seen before and what is seen after stands a counter's rise of this number.
pub record RisesAt (counter : ℕ) (old new : List SystemEntry) (number : ℕ) : Type 0 where
  pub before : List SystemEntry
  pub from : Begins old before
  pub seen : Begins (before ++ entries.Rise counter ∷ []) new
  pub count : rises_of counter before + 1 ≡ number

-- At a moment between what was seen before and what is seen after, the clock had so many writes.
abbrev pub ReadsAt : List SystemEntry → List SystemEntry → ℕ → Type 0
ReadsAt old new stamp = CountsAt clock_counter old new stamp

-- Between what was seen before and what is seen after stands the clock's write of this number.
abbrev pub WritesAt : List SystemEntry → List SystemEntry → ℕ → Type 0
WritesAt old new stamp = RisesAt clock_counter old new stamp

-- A write that the clock took has a place between what was seen before and after, and one that it refused had a reading at a moment between them, by which it
-- was refused. Afterwards the timers are told of all the writes that the pass of the clock has seen.
pub record HasPlace (v w : KnownOfTimers) (new : ClockView) (result : Result ClockReading ClockFault) : Type 0 where
  pub place : IfOk result (λ r. WritesAt v.seen w.seen r.stamp)
  pub refused : OnErr result (ReadsAt v.seen w.seen (length (writes new)))
  pub told : length (writes new) ≤ told w

-- Why a turn of a write came to nothing: after some of the writes the clock took this one, and it doesn't any more as it was seen last: others came between.
pub record CameBetween (w : Write) (old new : ClockView) : Type 0 where
  pub at : List Write
  pub from : Begins (writes old) at
  pub seen : Begins at (writes new)
  pub accepted : IsAccepted (reading_after at) w
  pub refused : IsAccepted (seen_reading new) w → ⊥

-- A record that is wrong: a call read the clock after so many writes, and then made an entry; another call had seen that entry, and then made one of these
-- writes.
pub record IsReadBeforeItIsWritten (stamp : ℕ) : Type 0 where
  pub old : List SystemEntry
  pub entered : List SystemEntry
  pub new : List SystemEntry
  pub number : ℕ
  pub had : number ≤ stamp
  pub read : ReadsAt old entered stamp
  pub written : WritesAt entered new number
