-- What a sleeper keeps.
use Rattle.std.specs.Prelude.{ℕ, ◌≡◌, ◌≤◌, Bool, true, false}
use Rattle.ktime.specs.declared.clock_id.ClockId.{ClockId}
use Rattle.ktime.specs.Readings.{ClockReading}
use Rattle.ktime.specs.Times.{last_time}
use Rattle.timer_setting.specs.declared.object_timer.ObjectTimer.{ObjectTimer}
use Rattle.timer_setting.specs.declared.phase.Phase.{Phase}
use Rattle.timer_setting.specs.declared.phase.Phase.TheVariants as phases
use Rattle.timer_setting.specs.Phases.{left_in}
use Rattle.timer_setting.specs.Settimes.{IsInLimits}
use Rattle.sleeper.specs.declared.sleep.Sleep.{Sleep}
use Rattle.sleeper.specs.declared.sleep.Sleep.TheVariants as sleeps

-- a sleeper: the clock it was made on, the base of its high-resolution timer, the phase of that timer, its sleep, how many entries its history
-- has, and the limit on them
pub record Sleeper : Type 0 where
  pub clock : ClockId
  pub base : ℕ
  pub phase : Phase
  pub sleep : Sleep
  pub stamp : ℕ
  pub limit : ℕ

-- a sleeper that was just made
abbrev pub sleeper_opening : ClockId → ℕ → ℕ → Sleeper
sleeper_opening clock base limit = record { clock = clock; base = base; phase = phases.Idle; sleep = sleeps.Free; stamp = 0; limit = limit }

-- the timer that it keeps, which has no periods
abbrev pub timer_of : Sleeper → ObjectTimer
timer_of s = record { clock = s.clock; base = s.base; interval = 0; phase = s.phase; stamp = s.stamp; limit = s.limit }

-- a sleep may begin
abbrev pub is_free : Sleep → Bool
is_free sleeps.Free = true
is_free sleeps.Relative = false
is_free sleeps.Absolute = false
is_free sleeps.Woken = false

-- a sleep goes on
abbrev pub is_sleeping : Sleep → Bool
is_sleeping sleeps.Free = false
is_sleeping sleeps.Relative = true
is_sleeping sleeps.Absolute = true
is_sleeping sleeps.Woken = false

-- how long until the sleep's time comes: nothing where it has come
abbrev pub sleep_left : Sleeper → ClockReading → ℕ
sleep_left s reading = left_in 0 s.phase 0 reading

-- what holds of a phase: the timer is armed exactly while a sleep goes on, and is never periodic
abbrev pub IsSleepPhase : Phase → Sleep → Type 0
IsSleepPhase phases.Idle sleep = is_sleeping sleep ≡ false
IsSleepPhase (phases.Armed generation clock expires) sleep = (expires ≤ last_time) × (is_sleeping sleep ≡ true)
IsSleepPhase (phases.Expired clock expires) sleep = ⊥

-- what holds of a sleeper at all times
pub record SleeperInvariant (s : Sleeper) : Type 0 where
  pub limits : IsInLimits s.stamp s.limit 0
  pub phased : IsSleepPhase s.phase s.sleep
