-- What a POSIX timer keeps, the arguments that its settime takes, and the setting that it answers.
use Rattle.std.specs.Prelude.{ℕ, ◌≡◌, ◌<◌, ◌≤◌, Bool, true, false}
use Rattle.ktime.specs.declared.clock_id.ClockId.{ClockId}
use Rattle.ktime.specs.declared.timespec.TimeSpec.{TimeSpec}
use Rattle.ktime.specs.Readings.{ClockReading}
use Rattle.ktime.specs.Times.{last_time}
use Rattle.timer_setting.specs.declared.phase.Phase.{Phase}
use Rattle.timer_setting.specs.declared.phase.Phase.TheVariants as phases
use Rattle.timer_setting.specs.declared.setting.Setting.{Setting}
use Rattle.timer_setting.specs.Arguments.{AreValid, abstime, bits_beyond}
use Rattle.timer_setting.specs.Phases.{left_in}
use Rattle.timer_setting.specs.Settimes.{IsInLimits}

-- a POSIX timer: the clock it was made on, the base of its high-resolution timer, the interval and the phase, whether a signal is pending,
-- the overrun of the last signal that was accepted, how many entries its history has, and the limit on them
pub record PosixTimer : Type 0 where
  pub clock : ClockId
  pub base : ℕ
  pub interval : ℕ
  pub phase : Phase
  pub pending : Bool
  pub overrun : ℕ
  pub stamp : ℕ
  pub limit : ℕ

-- a timer that was just made
abbrev pub posix_opening : ClockId → ℕ → ℕ → PosixTimer
posix_opening clock base limit =
    record { clock = clock; base = base; interval = 0; phase = phases.Idle; pending = false; overrun = 0; stamp = 0; limit = limit }

-- valid arguments of a settime: the flag of an absolute time is the only one
abbrev pub ArePosixArguments : ℕ → TimeSpec → TimeSpec → Type 0
ArePosixArguments flags value interval = AreValid (bits_beyond abstime flags) value interval

-- the greatest overrun that is answered (DELAYTIMER_MAX)
abbrev pub most_overrun : ℕ
most_overrun = 2147483647

-- how long until the next expiry: one nanosecond where that has come and no signal shows it yet, since timer_gettime answers 0
-- only for a timer that is disarmed
abbrev pub posix_left : PosixTimer → ClockReading → ℕ
posix_left t reading = left_in 1 t.phase t.interval reading

-- the setting that a timer answers (timer_gettime)
abbrev pub setting_of : PosixTimer → ClockReading → Setting
setting_of t reading = record { left = posix_left t reading; interval = t.interval }

-- what holds of a phase: an armed timer has no signal pending, one that waits to be armed again has, and only a periodic one waits so;
-- a disarmed timer has no interval
abbrev pub IsPosixPhase : Phase → Bool → ℕ → Type 0
IsPosixPhase phases.Idle pending interval = interval ≡ 0
IsPosixPhase (phases.Armed generation clock expires) pending interval = (expires ≤ last_time) × (pending ≡ false)
IsPosixPhase (phases.Expired clock expires) pending interval = (expires ≤ last_time) × (pending ≡ true) × (0 < interval)

-- what holds of a timer at all times
pub record PosixInvariant (t : PosixTimer) : Type 0 where
  pub limits : IsInLimits t.stamp t.limit t.interval
  pub few : t.overrun ≤ most_overrun
  pub phased : IsPosixPhase t.phase t.pending t.interval
