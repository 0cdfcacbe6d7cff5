-- Where an object's timer stands in its period, and what a settime, an expiry and a rearming make of it.
use Rattle.std.specs.Prelude.{ℕ, ◌≡◌, ◌+◌, ◌-◌, ◌≤◌, ◌↔◌, Bool, false, ◌&&◌, nat_eq, nat_lt, nat_le, Option, Some, None, IsNone, if◌then◌else◌}
use Rattle.ktime.specs.declared.clock_id.ClockId.{ClockId}
use Rattle.ktime.specs.declared.mode.Mode.TheVariants as modes
use Rattle.ktime.specs.Readings.{ClockReading, value_of}
use Rattle.ktime.specs.Times.{effective_clock, last_time, next_after, passed, sat}
use Rattle.timer_setting.specs.declared.arming.Arm.{Arm}
use Rattle.timer_setting.specs.declared.arming.Arm.TheVariants as arms
use Rattle.timer_setting.specs.declared.arming.Wanted.{Wanted}
use Rattle.timer_setting.specs.declared.phase.Phase.{Phase}
use Rattle.timer_setting.specs.declared.phase.Phase.TheVariants as phases
use Rattle.timer_setting.specs.Arguments.{is_absolute, mode_by}

-- an outcome goes with the start that was wanted: there is none exactly where none was wanted
abbrev pub IsOutcomeOf : Arm → Option Wanted → Type 0
IsOutcomeOf arm wanted = (arm ≡ arms.NotAsked) ↔ IsNone wanted

-- the phase after a start with this outcome, or after none
abbrev pub armed_by : Arm → ClockId → ℕ → Phase
armed_by arms.NotAsked clock expires = phases.Idle
armed_by (arms.Armed generation) clock expires = phases.Armed generation clock expires
armed_by (arms.Unarmed stamp) clock expires = phases.Idle

-- the clock that a settime's value is a time of, for a timer that was made on this clock
abbrev pub clock_by : ClockId → ℕ → ClockId
clock_by declared flags = effective_clock declared (mode_by flags) declared

-- the expiry that a settime sets; an absolute time may have passed
abbrev pub expiry_by : ClockId → ℕ → ℕ → ClockReading → ℕ
expiry_by declared flags ns reading = if is_absolute flags then ns else sat (value_of (clock_by declared flags) reading + ns)

-- the phase after a settime: the value 0 wants no start, so it disarms
abbrev pub phase_by : ClockId → ℕ → ℕ → ClockReading → Arm → Phase
phase_by declared flags ns reading arm = armed_by arm (clock_by declared flags) (expiry_by declared flags ns reading)

-- an expiry of this generation is the object's: it is armed by this one or an earlier one, and its clock has reached the time. A start by others
-- than the object, such as the move of its timer to another base, gives the timer a later generation for the same time
abbrev pub is_expiry_of : Phase → ℕ → ClockReading → Bool
is_expiry_of phases.Idle generation reading = false
is_expiry_of (phases.Armed armed clock expires) generation reading = nat_le armed generation && nat_le expires (value_of clock reading)
is_expiry_of (phases.Expired clock expires) generation reading = false

-- the phase after an expiry: a periodic timer waits to be armed again
abbrev pub expired : Phase → ℕ → Phase
expired phases.Idle interval = phases.Idle
expired (phases.Armed generation clock expires) interval = if nat_eq interval 0 then phases.Idle else phases.Expired clock expires
expired (phases.Expired clock expires) interval = phases.Expired clock expires

-- how long until the next expiry, where a timer that is armed and overdue has so much left
abbrev pub left_in : ℕ → Phase → ℕ → ClockReading → ℕ
left_in overdue phases.Idle interval reading = 0
left_in overdue (phases.Armed generation clock expires) interval reading =
    if nat_lt (value_of clock reading) expires then expires - value_of clock reading else overdue
left_in overdue (phases.Expired clock expires) interval reading =
    next_after expires (value_of clock reading) interval - value_of clock reading

-- the start for the first expiry past now of a periodic timer that has expired, on the clock that it has
abbrev pub next_start : Phase → ℕ → ClockReading → Option Wanted
next_start phases.Idle interval reading = None
next_start (phases.Armed generation clock expires) interval reading = None
next_start (phases.Expired clock expires) interval reading =
    Some (record { mode = modes.Keep; ns = next_after expires (value_of clock reading) interval })

-- the phase after that start: a timer that hasn't expired stays as it is
abbrev pub rearmed : Phase → ℕ → ClockReading → Arm → Phase
rearmed phases.Idle interval reading arm = phases.Idle
rearmed (phases.Armed generation clock expires) interval reading arm = phases.Armed generation clock expires
rearmed (phases.Expired clock expires) interval reading arm = armed_by arm clock (next_after expires (value_of clock reading) interval)

-- how many periods of a periodic timer that has expired have passed, its expiry with them
abbrev pub periods_in : Phase → ℕ → ClockReading → Option ℕ
periods_in phases.Idle interval reading = None
periods_in (phases.Armed generation clock expires) interval reading = None
periods_in (phases.Expired clock expires) interval reading = Some (passed expires (value_of clock reading) interval)

-- the phase's expiry is a time that there is
abbrev pub HasTimelyExpiry : Phase → Type 0
HasTimelyExpiry phases.Idle = Unit
HasTimelyExpiry (phases.Armed generation clock expires) = expires ≤ last_time
HasTimelyExpiry (phases.Expired clock expires) = expires ≤ last_time
