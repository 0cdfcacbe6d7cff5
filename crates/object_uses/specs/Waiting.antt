-- A handler that looks at timers before it does what the handler of objects does.
use Rattle.ktime.specs.Readings.{ClockReading}
use Rattle.base_row.specs.declared.view.Opening.{Opening}
use Rattle.hr_timers.specs.declared.numbers.ClaimNumbers.{ClaimNumbers}
use Rattle.hr_timers.specs.Known.{KnownOfTimers}
use Rattle.hr_timers.specs.declared.handler.Restart.{Restart}
use Rattle.timer_objects.specs.Firings.{Firing, Fires}

-- the function of a claim has run, once its pass knew more of the timers
abbrev pub FiresLater : Opening → Firing → Firing → KnownOfTimers → KnownOfTimers → ClaimNumbers → ClockReading → Restart → Type 0
FiresLater o h h' v w c reading restart = (m : KnownOfTimers) × Fires o h h' m w c reading restart
