-- The moment of a write of the clock.
use Rattle.std.specs.Prelude.{List, Result, Ok, Err}
use Rattle.ktime.specs.Readings.{ClockReading}
use Rattle.ktime.specs.declared.write.ClockFault.{ClockFault}
use Rattle.ktime.specs.declared.write.Write.{Write}
use Rattle.clock_cell.specs.declared.view.ClockView.{ClockView}
use Rattle.clock_cell.specs.Views.{AnswersWrite, writes}

-- the writes after which a write was made or refused
abbrev pub write_moment : (w : Write) (v n : ClockView) (r : Result ClockReading ClockFault) → AnswersWrite w v n r → List Write
write_moment w v n (Ok r) a = a.ok.adds.before
write_moment w v n (Err fault) a = writes n
