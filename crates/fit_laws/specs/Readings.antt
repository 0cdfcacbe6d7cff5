-- What a call's reading has of the clock's writes is told by where these stand in the one order of all moves.
use Rattle.std.specs.Prelude.{ℕ, ◌≡◌, ◌+◌, ◌<◌, true, Some}
use Rattle.std.specs.List.{slice_get}
use Rattle.record_text.specs.declared.record.Label.{Label}
use Rattle.script_text.specs.declared.script.Script.{Script}
use Rattle.run_history.specs.Calls.{reads_clock}
use Rattle.run_history.specs.Order.{CallInRound, calls_of}
use Rattle.run_history.specs.Witnesses.{Move, OfRise, Witness}

-- the label is that of a call that reads the clock
pub record TakesReading (s : Script) (c : Label) : Type 0 where
  pub made : CallInRound
  pub there : slice_get (calls_of s c.lane) c.call ≡ Some made
  pub reads : reads_clock made.call ≡ true

-- the clock's write of this number, the first being 1, stands behind so many moves
pub record HasWriteAt (w : Witness) (place number : ℕ) : Type 0 where
  pub move : Move
  pub there : slice_get w.moves place ≡ Some move
  pub is : move.shown ≡ OfRise 0
  pub count : move.before + 1 ≡ number

-- a move of the call stands behind so many moves: an entry that it made, or its write
pub record HasEntryAt (w : Witness) (c : Label) (place : ℕ) : Type 0 where
  pub move : Move
  pub there : slice_get w.moves place ≡ Some move
  pub label : move.label ≡ c

-- before a call its lane had seen what stands behind so many moves: it stands before the last moment of an earlier call of the lane
pub record HadSeen (w : Witness) (c : Label) (place : ℕ) : Type 0 where
  pub earlier : ℕ
  pub before : earlier < c.call
  pub seen : place < (w.traces (record { lane = c.lane; call = earlier })).last
