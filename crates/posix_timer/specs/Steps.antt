-- The step table of a POSIX timer (POSIX.1-2017, timer_settime and timer_getoverrun): what a call needs, the state after it, and its answer.
use Rattle.std.specs.Prelude.{ℕ, ◌≡◌, ◌+◌, ◌-◌, ◌≤◌, ◌<◌, true, false, ◌&&◌, nat_lt, min, Option, Some, None, if◌then◌else◌}
use Rattle.ktime.specs.declared.timespec.TimeSpec.{TimeSpec}
use Rattle.ktime.specs.Readings.{ClockReading}
use Rattle.ktime.specs.Times.{last_time}
use Rattle.timer_setting.specs.declared.arming.Wanted.{Wanted}
use Rattle.timer_setting.specs.declared.arming.Arm.{Arm}
use Rattle.timer_setting.specs.declared.arming.Arm.TheVariants as arms
use Rattle.timer_setting.specs.Arguments.{abstime, bits_beyond, start_by}
use Rattle.timer_setting.specs.declared.object_timer.ObjectTimer.{ObjectTimer}
use Rattle.timer_setting.specs.declared.phase.Phase.TheVariants as phases
use Rattle.timer_setting.specs.Kinds.{ObjectKind}
use Rattle.timer_setting.specs.Phases.{IsOutcomeOf, expired, is_expiry_of, next_start, periods_in, phase_by, rearmed}
use Rattle.timer_setting.specs.Settimes.{start_wanted, trigger_answer}
use Rattle.timer_setting.specs.StepTables.{StepTable, full_refusal, settime_refusal}
use Rattle.timer_setting.specs.declared.answers.SettimeAnswer.{SettimeAnswer}
use Rattle.timer_setting.specs.declared.answers.SettimeAnswer.TheVariants as settings
use Rattle.timer_setting.specs.declared.settime_call.SettimeCall.{SettimeCall}
use Rattle.timer_setting.specs.declared.trigger_answer.TriggerAnswer.TheVariants as triggers
use Rattle.timer_setting.specs.declared.answers.AcceptAnswer.TheVariants as acceptances
use Rattle.timer_setting.specs.declared.object_call.ObjectCall.{ObjectCall}
use Rattle.timer_setting.specs.declared.object_call.ObjectCall.TheVariants as calls
use Rattle.timer_setting.specs.declared.object_call.ObjectReply.{ObjectReply}
use Rattle.timer_setting.specs.declared.object_call.ObjectReply.TheVariants as replies
use Rattle.posix_timer.specs.States.{PosixTimer, most_overrun, posix_left}

-- the start that a settime wants
abbrev pub posix_settime_wanted : PosixTimer → ℕ → TimeSpec → TimeSpec → Option Wanted
posix_settime_wanted t flags value interval = start_wanted t.stamp t.limit (bits_beyond abstime flags) flags value interval

-- the start that an acceptance wants
abbrev pub accept_wanted : PosixTimer → ClockReading → Option Wanted
accept_wanted t reading = if t.pending && nat_lt t.stamp t.limit then next_start t.phase t.interval reading else None

-- the interval is kept exactly where the timer was armed
abbrev pub kept_by : Arm → ℕ → ℕ
kept_by arms.NotAsked interval = 0
kept_by (arms.Armed generation) interval = interval
kept_by (arms.Unarmed stamp) interval = 0

-- the timer after a settime: value 0 wants no start, so it disarms the timer and ends its periods
abbrev pub posix_set : PosixTimer → SettimeCall → PosixTimer
posix_set t c =
    record t { interval = kept_by c.arm c.interval; phase = phase_by t.clock c.flags c.value c.reading c.arm; pending = false; overrun = 0; stamp = t.stamp + 1 }

-- what a settime answers: the setting before it, unless the limit of the high-resolution timer refused the start
abbrev pub posix_settime_answer : PosixTimer → ClockReading → Arm → SettimeAnswer
posix_settime_answer t reading arms.NotAsked = settings.Old (posix_left t reading) t.interval
posix_settime_answer t reading (arms.Armed generation) = settings.Old (posix_left t reading) t.interval
posix_settime_answer t reading (arms.Unarmed stamp) = settings.Unarmed stamp

-- the timer after a trigger: the expiry that is armed makes a signal pending
abbrev pub posix_triggered : PosixTimer → ℕ → ClockReading → PosixTimer
posix_triggered t generation reading =
    if is_expiry_of t.phase generation reading then record t { phase = expired t.phase t.interval; pending = true; stamp = t.stamp + 1 }
    else record t { stamp = t.stamp + 1 }

-- the overrun of a signal that is accepted (timer_getoverrun): the periods that passed beside the one of the signal; none where the clock
-- was set back before the expiry, and none where the timer isn't periodic
abbrev pub overrun_of : Option ℕ → ℕ
overrun_of None = 0
overrun_of (Some periods) = min (periods - 1) most_overrun

-- the interval after a signal was accepted: a timer that waited to be armed again and isn't ends its periods
abbrev pub kept_in : Option ℕ → ℕ → Arm → ℕ
kept_in None interval arm = interval
kept_in (Some periods) interval arm = kept_by arm interval

-- the timer after an acceptance; with no signal pending nothing changes
abbrev pub accepted : PosixTimer → ClockReading → Arm → PosixTimer
accepted t reading arm =
    if t.pending then record t {
      interval = kept_in (periods_in t.phase t.interval reading) t.interval arm;
      phase = rearmed t.phase t.interval reading arm;
      pending = false;
      overrun = overrun_of (periods_in t.phase t.interval reading);
      stamp = t.stamp + 1;
    } else record t { stamp = t.stamp + 1 }

-- the timer after an expiry whose signal found no room in its queue: it is disarmed
abbrev pub posix_overflowed : PosixTimer → PosixTimer
posix_overflowed t = record t { interval = 0; phase = phases.Idle; pending = false; stamp = t.stamp + 1 }

-- what a call needs: it is one of a POSIX timer's
abbrev pub PosixAllows : PosixTimer → ObjectCall → Type 0
PosixAllows t (calls.Settime c) =
    (t.stamp < t.limit) × (bits_beyond abstime c.flags ≡ 0) × (c.value ≤ last_time) × (c.interval ≤ last_time) × IsOutcomeOf c.arm (start_by c.flags c.value)
PosixAllows t (calls.Trigger generation reading) = t.stamp < t.limit
PosixAllows t (calls.Accept reading arm) = (t.stamp < t.limit) × IsOutcomeOf arm (accept_wanted t reading)
PosixAllows t call = ⊥

-- the timer after a call
abbrev pub posix_step : PosixTimer → ObjectCall → PosixTimer
posix_step t (calls.Settime c) = posix_set t c
posix_step t (calls.Trigger generation reading) = posix_triggered t generation reading
posix_step t (calls.Accept reading arm) = accepted t reading arm
posix_step t call = t

-- what a call answers
abbrev pub posix_answer : PosixTimer → ObjectCall → ObjectReply
posix_answer t (calls.Settime c) = replies.Settime (posix_settime_answer t c.reading c.arm)
posix_answer t (calls.Trigger generation reading) = replies.Trigger (trigger_answer t.phase generation reading)
posix_answer t (calls.Accept reading arm) =
    replies.Accept (if t.pending then acceptances.Accepted (overrun_of (periods_in t.phase t.interval reading)) else acceptances.NoSignal)
posix_answer t call = replies.None

-- the whole table
abbrev pub posix_table : StepTable PosixTimer ObjectCall ObjectReply
posix_table = record { allows = PosixAllows; next = posix_step; answer = posix_answer }

-- the timer that it keeps
abbrev pub posix_object_timer : PosixTimer → ObjectTimer
posix_object_timer t = record { clock = t.clock; base = t.base; interval = t.interval; phase = t.phase; stamp = t.stamp; limit = t.limit }

-- the start that a call with valid arguments wants
abbrev pub posix_wanted : PosixTimer → ObjectCall → Option Wanted
posix_wanted t (calls.Settime c) = start_by c.flags c.value
posix_wanted t (calls.Accept reading arm) = accept_wanted t reading
posix_wanted t call = None

-- POSIX timers as a kind of object
abbrev pub posix_kind : ObjectKind PosixTimer
posix_kind = record { table = posix_table; timer = posix_object_timer; wanted = posix_wanted }

-- why a settime is refused, if it is
abbrev pub posix_settime_refusal : PosixTimer → ℕ → TimeSpec → TimeSpec → Option ObjectReply
posix_settime_refusal t flags value interval =
    let spent : ℕ → ObjectReply = λ stamp. replies.Settime (settings.Spent stamp) in
    settime_refusal (replies.Settime settings.BadFlags) (replies.Settime settings.BadTime) spent (bits_beyond abstime flags) value interval t.stamp t.limit

-- why an expiry is, and an acceptance
abbrev pub posix_trigger_refusal : PosixTimer → Option ObjectReply
posix_trigger_refusal t = full_refusal (λ stamp. replies.Trigger (triggers.Spent stamp)) t.stamp t.limit

abbrev pub accept_refusal : PosixTimer → Option ObjectReply
accept_refusal t = full_refusal (λ stamp. replies.Accept (acceptances.Spent stamp)) t.stamp t.limit
