-- What one turn of a write came to.
use Rattle.std.specs.Prelude.{◌≢◌, ◌<◌, length, Err}
use Rattle.ktime.specs.Readings.{ClockReading}
use Rattle.ktime.specs.declared.write.Write.{Write}
use Rattle.pass_names.specs.Passes.{Looks}
use Rattle.clock_cell.specs.declared.shared.Turn.{Turn}
use Rattle.clock_cell.specs.declared.shared.Turn.TheVariants.{Made, Refused, Again}
use Rattle.clock_cell.specs.declared.view.ClockView.{ClockView}
use Rattle.clock_cell.specs.Views.{AcceptsWrite, RefusesWrite, seen_reading, writes}

-- no write was added, and the clock was found to be another than this
pub record Misses (expected : ClockReading) (old new : ClockView) : Type 0 where
  pub looks : Looks old.pass new.pass
  pub other : expected ≢ seen_reading new

-- no write was added, and others were seen that had not been seen before
pub record SeesMore (old new : ClockView) : Type 0 where
  pub looks : Looks old.pass new.pass
  pub grown : length (writes old) < length (writes new)

abbrev pub Turned : Write → ClockView → ClockView → Turn → Type 0
Turned w old new (Made r) = AcceptsWrite w old new r
Turned w old new (Refused fault) = RefusesWrite w old new (Err fault)
Turned w old new Again = SeesMore old new
