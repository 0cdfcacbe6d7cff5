-- The step table of a sleeper (POSIX.1-2017, clock_nanosleep): what a call needs, the state after it, and its answer.
use Rattle.std.specs.Prelude.{ℕ, ◌≡◌, ◌+◌, ◌≤◌, ◌<◌, Bool, true, false, not, ◌&&◌, nat_eq, nat_lt, nat_le, Option, Some, None, Result, Ok, Err, if◌then◌else◌}
use Rattle.ktime.specs.declared.clock_id.ClockId.{ClockId}
use Rattle.ktime.specs.declared.timespec.TimeSpec.{TimeSpec}
use Rattle.ktime.specs.Readings.{ClockReading, value_of}
use Rattle.ktime.specs.Times.{last_time, second}
use Rattle.timer_setting.specs.declared.arguments.BadArgument.{BadArgument}
use Rattle.timer_setting.specs.declared.arguments.BadArgument.TheVariants as causes
use Rattle.timer_setting.specs.declared.arming.Wanted.{Wanted}
use Rattle.timer_setting.specs.declared.arming.Arm.{Arm}
use Rattle.timer_setting.specs.declared.arming.Arm.TheVariants as arms
use Rattle.timer_setting.specs.declared.phase.Phase.TheVariants as phases
use Rattle.timer_setting.specs.declared.trigger_answer.TriggerAnswer.TheVariants as triggers
use Rattle.timer_setting.specs.Arguments.{abstime, bits_beyond, is_absolute, is_bad, mode_by, time_of}
use Rattle.timer_setting.specs.Kinds.{ObjectKind}
use Rattle.timer_setting.specs.Phases.{IsOutcomeOf, clock_by, expiry_by, is_expiry_of, phase_by}
use Rattle.timer_setting.specs.Settimes.{trigger_answer}
use Rattle.timer_setting.specs.StepTables.{StepTable, full_refusal}
use Rattle.timer_setting.specs.declared.answers.InterruptAnswer.{InterruptAnswer}
use Rattle.timer_setting.specs.declared.answers.InterruptAnswer.TheVariants as interrupts
use Rattle.timer_setting.specs.declared.answers.SleepAnswer.{SleepAnswer}
use Rattle.timer_setting.specs.declared.answers.SleepAnswer.TheVariants as begins
use Rattle.sleeper.specs.declared.answers.SleptAnswer.{SleptAnswer}
use Rattle.sleeper.specs.declared.answers.SleptAnswer.TheVariants as looks
use Rattle.timer_setting.specs.declared.object_call.ObjectCall.{ObjectCall}
use Rattle.timer_setting.specs.declared.object_call.ObjectCall.TheVariants as calls
use Rattle.timer_setting.specs.declared.object_call.ObjectReply.{ObjectReply}
use Rattle.timer_setting.specs.declared.object_call.ObjectReply.TheVariants as replies
use Rattle.timer_setting.specs.declared.sleep_call.SleepCall.{SleepCall}
use Rattle.sleeper.specs.declared.sleep.Sleep.{Sleep}
use Rattle.sleeper.specs.declared.sleep.Sleep.TheVariants as sleeps
use Rattle.sleeper.specs.States.{Sleeper, is_free, sleep_left, timer_of}

-- a sleep's time in nanoseconds, or why its arguments are refused: first the flags, then the time
abbrev pub checked_time : ℕ → TimeSpec → Result ℕ BadArgument
checked_time flags time = if not (nat_eq (bits_beyond abstime flags) 0) then Err causes.Flags else (if is_bad time then Err causes.Time else Ok (time_of time))

-- the time of a sleep has come: its clock shows that time or a later one
abbrev pub has_come : ClockId → ℕ → ℕ → ClockReading → Bool
has_come declared flags ns reading = nat_le (expiry_by declared flags ns reading) (value_of (clock_by declared flags) reading)

-- the start that a sleep of so many nanoseconds wants: none where its time has come
abbrev pub sleep_start : ClockId → ℕ → ℕ → ClockReading → Option Wanted
sleep_start declared flags ns reading = if has_come declared flags ns reading then None else Some (record { mode = mode_by flags; ns = ns })

-- the start that a sleep wants: none where it is refused either
abbrev pub sleep_wanted : Sleeper → ℕ → TimeSpec → ClockReading → Option Wanted
sleep_wanted s flags time reading =
    if nat_eq (bits_beyond abstime flags) 0 && nat_lt time.nsec second && nat_lt s.stamp s.limit && is_free s.sleep
    then sleep_start s.clock flags (time_of time) reading else None

-- the sleep after its start had this outcome: one that wanted none, or was refused it, doesn't begin
abbrev pub begun_by : Arm → ℕ → Sleep
begun_by arms.NotAsked flags = sleeps.Free
begun_by (arms.Armed generation) flags = if is_absolute flags then sleeps.Absolute else sleeps.Relative
begun_by (arms.Unarmed stamp) flags = sleeps.Free

-- the sleeper after a sleep: it is armed as by a settime
abbrev pub fallen_asleep : Sleeper → SleepCall → Sleeper
fallen_asleep s c = record s { phase = phase_by s.clock c.flags c.time c.reading c.arm; sleep = begun_by c.arm c.flags; stamp = s.stamp + 1 }

-- what a sleep answers
abbrev pub sleep_answer : Arm → SleepAnswer
sleep_answer arms.NotAsked = begins.Slept
sleep_answer (arms.Armed generation) = begins.Asleep
sleep_answer (arms.Unarmed stamp) = begins.Unarmed stamp

-- the sleeper after a trigger: the expiry that is armed wakes it
abbrev pub sleeper_triggered : Sleeper → ℕ → ClockReading → Sleeper
sleeper_triggered s generation reading =
    if is_expiry_of s.phase generation reading then record s { phase = phases.Idle; sleep = sleeps.Woken; stamp = s.stamp + 1 }
    else record s { stamp = s.stamp + 1 }

-- the sleeper after an interrupt
abbrev pub interrupted : Sleeper → Sleeper
interrupted s = record s { phase = phases.Idle; sleep = sleeps.Free; stamp = s.stamp + 1 }

-- what an interrupt answers, of a sleep with so many nanoseconds left: only a relative one is told them
abbrev pub end_of : Sleep → ℕ → ℕ → InterruptAnswer
end_of sleeps.Free left stamp = interrupts.Awake stamp
end_of sleeps.Relative left stamp = interrupts.Left left
end_of sleeps.Absolute left stamp = interrupts.Interrupted
end_of sleeps.Woken left stamp = interrupts.Slept

-- how a sleeper is
abbrev pub slept_answer : Sleep → SleptAnswer
slept_answer sleeps.Free = looks.Awake
slept_answer sleeps.Relative = looks.Sleeping
slept_answer sleeps.Absolute = looks.Sleeping
slept_answer sleeps.Woken = looks.Slept

-- what a call needs: it is one of a sleeper's
abbrev pub SleeperAllows : Sleeper → ObjectCall → Type 0
SleeperAllows s (calls.Sleep c) =
    (s.stamp < s.limit) × (bits_beyond abstime c.flags ≡ 0) × (c.time ≤ last_time) × (is_free s.sleep ≡ true)
    × IsOutcomeOf c.arm (sleep_start s.clock c.flags c.time c.reading)
SleeperAllows s (calls.Trigger generation reading) = s.stamp < s.limit
SleeperAllows s (calls.Interrupt reading) = (s.stamp < s.limit) × (is_free s.sleep ≡ false)
SleeperAllows s call = ⊥

-- the sleeper after a call
abbrev pub sleeper_step : Sleeper → ObjectCall → Sleeper
sleeper_step s (calls.Sleep c) = fallen_asleep s c
sleeper_step s (calls.Trigger generation reading) = sleeper_triggered s generation reading
sleeper_step s (calls.Interrupt reading) = interrupted s
sleeper_step s call = s

-- what a call answers
abbrev pub sleeper_answer : Sleeper → ObjectCall → ObjectReply
sleeper_answer s (calls.Sleep c) = replies.Sleep (sleep_answer c.arm)
sleeper_answer s (calls.Trigger generation reading) = replies.Trigger (trigger_answer s.phase generation reading)
sleeper_answer s (calls.Interrupt reading) = replies.Interrupt (end_of s.sleep (sleep_left s reading) s.stamp)
sleeper_answer s call = replies.None

-- the whole table
abbrev pub sleeper_table : StepTable Sleeper ObjectCall ObjectReply
sleeper_table = record { allows = SleeperAllows; next = sleeper_step; answer = sleeper_answer }

-- the start that a call with valid arguments wants
abbrev pub sleeper_wanted : Sleeper → ObjectCall → Option Wanted
sleeper_wanted s (calls.Sleep c) = sleep_start s.clock c.flags c.time c.reading
sleeper_wanted s call = None

-- sleepers as a kind of object
abbrev pub sleeper_kind : ObjectKind Sleeper
sleeper_kind = record { table = sleeper_table; timer = timer_of; wanted = sleeper_wanted }

-- why a sleep is refused, in this order: an unknown flag, a bad time, a full history, a sleeper that isn't free
abbrev pub sleep_refusal : Sleeper → ℕ → TimeSpec → Option ObjectReply
sleep_refusal s flags time =
    if not (nat_eq (bits_beyond abstime flags) 0) then Some (replies.Sleep begins.BadFlags)
    else (if is_bad time then Some (replies.Sleep begins.BadTime)
    else (if nat_lt s.stamp s.limit then (if is_free s.sleep then None else Some (replies.Sleep (begins.Occupied s.stamp)))
    else Some (replies.Sleep (begins.Spent s.stamp))))

-- why an expiry is
abbrev pub sleeper_trigger_refusal : Sleeper → Option ObjectReply
sleeper_trigger_refusal s = full_refusal (λ stamp. replies.Trigger (triggers.Spent stamp)) s.stamp s.limit

-- why an interrupt is: a full history, then a sleeper that is free
abbrev pub interrupt_refusal : Sleeper → Option ObjectReply
interrupt_refusal s =
    if nat_lt s.stamp s.limit then (if is_free s.sleep then Some (replies.Interrupt (interrupts.Awake s.stamp)) else None)
    else Some (replies.Interrupt (interrupts.Spent s.stamp))
