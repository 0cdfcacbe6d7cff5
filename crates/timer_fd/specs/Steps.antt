-- The step table of a timer descriptor (timerfd_create(2)): what a call needs, the state after it, and its answer.
use Rattle.std.specs.Prelude.{ℕ, ◌≡◌, ◌+◌, ◌-◌, ◌≤◌, ◌<◌, Bool, not, ◌&&◌, ◌||◌, nat_eq, nat_lt, nat_le, min, Option, Some, None, if◌then◌else◌}
use Rattle.ktime.specs.declared.timespec.TimeSpec.{TimeSpec}
use Rattle.ktime.specs.Readings.{ClockReading}
use Rattle.ktime.specs.Times.{last_time}
use Rattle.timer_setting.specs.declared.arming.Wanted.{Wanted}
use Rattle.timer_setting.specs.declared.arming.Arm.{Arm}
use Rattle.timer_setting.specs.declared.arming.Arm.TheVariants as arms
use Rattle.timer_setting.specs.declared.phase.Phase.{Phase}
use Rattle.timer_setting.specs.declared.phase.Phase.TheVariants as phases
use Rattle.timer_setting.specs.Arguments.{bits_beyond, start_by}
use Rattle.timer_setting.specs.declared.object_timer.ObjectTimer.{ObjectTimer}
use Rattle.timer_setting.specs.Kinds.{ObjectKind}
use Rattle.timer_setting.specs.Phases.{IsOutcomeOf, expired, is_expiry_of, next_start, periods_in, phase_by, rearmed}
use Rattle.timer_setting.specs.Settimes.{start_wanted, trigger_answer}
use Rattle.timer_setting.specs.StepTables.{StepTable, full_refusal, settime_refusal}
use Rattle.timer_setting.specs.declared.answers.SettimeAnswer.{SettimeAnswer}
use Rattle.timer_setting.specs.declared.answers.SettimeAnswer.TheVariants as settings
use Rattle.timer_setting.specs.declared.settime_call.SettimeCall.{SettimeCall}
use Rattle.timer_setting.specs.declared.trigger_answer.TriggerAnswer.TheVariants as triggers
use Rattle.timer_setting.specs.declared.answers.ReadAnswer.{ReadAnswer}
use Rattle.timer_setting.specs.declared.answers.ReadAnswer.TheVariants as reads
use Rattle.timer_setting.specs.declared.answers.GettimeAnswer.TheVariants as lefts
use Rattle.timer_setting.specs.declared.object_call.ObjectCall.{ObjectCall}
use Rattle.timer_setting.specs.declared.object_call.ObjectCall.TheVariants as calls
use Rattle.timer_setting.specs.declared.object_call.ObjectReply.{ObjectReply}
use Rattle.timer_setting.specs.declared.object_call.ObjectReply.TheVariants as replies
use Rattle.timer_fd.specs.States.{Descriptor, fd_flags, fd_left, is_cancelable, is_canceled, most_count}

-- the length in bytes of the buffer that a read needs
abbrev pub count_length : ℕ
count_length = 8

-- the start that a settime wants
abbrev pub fd_settime_wanted : Descriptor → ℕ → TimeSpec → TimeSpec → Option Wanted
fd_settime_wanted t flags value interval = start_wanted t.stamp t.limit (bits_beyond fd_flags flags) flags value interval

-- the start that a read wants, its refusals aside: none where a set clock canceled the setting
abbrev pub next_to_read : Descriptor → ClockReading → Option Wanted
next_to_read t reading = if is_canceled t reading || nat_eq t.count 0 then None else next_start t.phase t.interval reading

-- the start that a read wants
abbrev pub read_wanted : Descriptor → ℕ → ClockReading → Option Wanted
read_wanted t len reading = if nat_le count_length len && nat_lt t.stamp t.limit then next_to_read t reading else None

-- the start that a gettime wants
abbrev pub gettime_wanted : Descriptor → ClockReading → Option Wanted
gettime_wanted t reading = if nat_lt t.stamp t.limit then next_start t.phase t.interval reading else None

-- the descriptor after a settime
abbrev pub fd_set : Descriptor → SettimeCall → Descriptor
fd_set t c =
    record t {
      interval = c.interval;
      phase = phase_by t.clock c.flags c.value c.reading c.arm;
      count = 0;
      cancelable = is_cancelable t.clock c.flags;
      seen = c.reading.changes;
      stamp = t.stamp + 1;
    }

-- a settime answers that the real offset has changed: that canceled the old setting, and the new one arms a timer that such a change cancels too
abbrev pub answers_canceled : Descriptor → ℕ → ℕ → ClockReading → Bool
answers_canceled t flags value reading = is_canceled t reading && is_cancelable t.clock flags && not (nat_eq value 0)

-- what a settime answers where no limit refused a start
abbrev pub old_setting : Descriptor → ℕ → ℕ → ClockReading → SettimeAnswer
old_setting t flags value reading =
    if answers_canceled t flags value reading then settings.Canceled else settings.Old (fd_left t reading) t.interval

-- what a settime answers: the refused start comes first
abbrev pub fd_settime_answer : Descriptor → ℕ → ℕ → ClockReading → Arm → SettimeAnswer
fd_settime_answer t flags value reading arms.NotAsked = old_setting t flags value reading
fd_settime_answer t flags value reading (arms.Armed generation) = old_setting t flags value reading
fd_settime_answer t flags value reading (arms.Unarmed stamp) = settings.Unarmed stamp

-- the descriptor after a trigger: the expiry that is armed is one more to be read
abbrev pub fd_triggered : Descriptor → ℕ → ClockReading → Descriptor
fd_triggered t generation reading =
    if is_expiry_of t.phase generation reading
    then record t { phase = expired t.phase t.interval; count = min (t.count + 1) most_count; stamp = t.stamp + 1 } else record t { stamp = t.stamp + 1 }

-- the expiries up to now: those counted, and for a periodic timer the periods that passed beside the one that was counted; one fewer where
-- the clock was set back before the expiry
abbrev pub total_of : Option ℕ → ℕ → ℕ
total_of None count = count
total_of (Some periods) count = min (count + periods - 1) most_count

-- the expiries of a descriptor up to now
abbrev pub total_in : Descriptor → ClockReading → ℕ
total_in t reading = total_of (periods_in t.phase t.interval reading) t.count

-- the phase after a read that answered that the clock was set: an armed timer stays armed
abbrev pub canceled : Phase → Phase
canceled phases.Idle = phases.Idle
canceled (phases.Armed generation clock expires) = phases.Armed generation clock expires
canceled (phases.Expired clock expires) = phases.Idle

-- the descriptor after a read
abbrev pub fd_read : Descriptor → ClockReading → Arm → Descriptor
fd_read t reading arm =
    if is_canceled t reading then record t { phase = canceled t.phase; count = 0; seen = reading.changes; stamp = t.stamp + 1 }
    else (if nat_eq t.count 0 then record t { stamp = t.stamp + 1 }
    else record t { phase = rearmed t.phase t.interval reading arm; count = 0; stamp = t.stamp + 1 })

-- a count that is read; there is none of 0
abbrev pub counted : ℕ → ReadAnswer
counted total = if nat_eq total 0 then reads.Again else reads.Count total

-- what a read answers
abbrev pub fd_read_answer : Descriptor → ClockReading → ReadAnswer
fd_read_answer t reading =
    if is_canceled t reading then reads.Canceled else (if nat_eq t.count 0 then reads.Again else counted (total_in t reading))

-- the descriptor after a gettime
abbrev pub fd_got : Descriptor → ClockReading → Arm → Descriptor
fd_got t reading arm = record t { phase = rearmed t.phase t.interval reading arm; count = total_in t reading; stamp = t.stamp + 1 }

-- the time left that a gettime answers: none where the timer had expired and the limit refused to arm it
abbrev pub left_by : Arm → Descriptor → ClockReading → ℕ
left_by arms.NotAsked t reading = fd_left t reading
left_by (arms.Armed generation) t reading = fd_left t reading
left_by (arms.Unarmed stamp) t reading = 0

-- what a call needs: it is one of a descriptor's
abbrev pub FdAllows : Descriptor → ObjectCall → Type 0
FdAllows t (calls.Settime c) =
    (t.stamp < t.limit) × (bits_beyond fd_flags c.flags ≡ 0) × (c.value ≤ last_time) × (c.interval ≤ last_time) × IsOutcomeOf c.arm (start_by c.flags c.value)
FdAllows t (calls.Trigger generation reading) = t.stamp < t.limit
FdAllows t (calls.Read reading arm) = (t.stamp < t.limit) × IsOutcomeOf arm (next_to_read t reading)
FdAllows t (calls.Gettime reading arm) = (t.stamp < t.limit) × IsOutcomeOf arm (next_start t.phase t.interval reading)
FdAllows t call = ⊥

-- the descriptor after a call
abbrev pub fd_step : Descriptor → ObjectCall → Descriptor
fd_step t (calls.Settime c) = fd_set t c
fd_step t (calls.Trigger generation reading) = fd_triggered t generation reading
fd_step t (calls.Read reading arm) = fd_read t reading arm
fd_step t (calls.Gettime reading arm) = fd_got t reading arm
fd_step t call = t

-- what a call answers
abbrev pub fd_answer : Descriptor → ObjectCall → ObjectReply
fd_answer t (calls.Settime c) = replies.Settime (fd_settime_answer t c.flags c.value c.reading c.arm)
fd_answer t (calls.Trigger generation reading) = replies.Trigger (trigger_answer t.phase generation reading)
fd_answer t (calls.Read reading arm) = replies.Read (fd_read_answer t reading)
fd_answer t (calls.Gettime reading arm) = replies.Gettime (lefts.Left (left_by arm t reading) t.interval)
fd_answer t call = replies.None

-- the whole table
abbrev pub fd_table : StepTable Descriptor ObjectCall ObjectReply
fd_table = record { allows = FdAllows; next = fd_step; answer = fd_answer }

-- the timer that it keeps
abbrev pub fd_object_timer : Descriptor → ObjectTimer
fd_object_timer t = record { clock = t.clock; base = t.base; interval = t.interval; phase = t.phase; stamp = t.stamp; limit = t.limit }

-- the start that a call with valid arguments wants
abbrev pub fd_wanted : Descriptor → ObjectCall → Option Wanted
fd_wanted t (calls.Settime c) = start_by c.flags c.value
fd_wanted t (calls.Read reading arm) = next_to_read t reading
fd_wanted t (calls.Gettime reading arm) = next_start t.phase t.interval reading
fd_wanted t call = None

-- descriptors as a kind of object
abbrev pub fd_kind : ObjectKind Descriptor
fd_kind = record { table = fd_table; timer = fd_object_timer; wanted = fd_wanted }

-- why a settime is refused, if it is
abbrev pub fd_settime_refusal : Descriptor → ℕ → TimeSpec → TimeSpec → Option ObjectReply
fd_settime_refusal t flags value interval =
    let spent : ℕ → ObjectReply = λ stamp. replies.Settime (settings.Spent stamp) in
    settime_refusal (replies.Settime settings.BadFlags) (replies.Settime settings.BadTime) spent (bits_beyond fd_flags flags) value interval t.stamp t.limit

-- why an expiry is
abbrev pub fd_trigger_refusal : Descriptor → Option ObjectReply
fd_trigger_refusal t = full_refusal (λ stamp. replies.Trigger (triggers.Spent stamp)) t.stamp t.limit

-- why a read into a buffer of this length is: a buffer that is too short comes first
abbrev pub read_refusal : Descriptor → ℕ → Option ObjectReply
read_refusal t len =
    if nat_lt len count_length then Some (replies.Read reads.ShortBuffer)
    else full_refusal (λ stamp. replies.Read (reads.Spent stamp)) t.stamp t.limit

-- why a gettime is
abbrev pub gettime_refusal : Descriptor → Option ObjectReply
gettime_refusal t = full_refusal (λ stamp. replies.Gettime (lefts.Spent stamp)) t.stamp t.limit
