-- What a kind of object is: its step table over the calls of all kinds, the timer that each of its states keeps, and the start that a call wants.
use Rattle.std.specs.Prelude.{ℕ, ◌≡◌, ◌+◌, ◌<◌, Option}
use Rattle.ktime.specs.Readings.{ClockReading}
use Rattle.timer_setting.specs.declared.arming.Arm.{Arm}
use Rattle.timer_setting.specs.declared.arming.Arm.TheVariants as arms
use Rattle.timer_setting.specs.declared.arming.Wanted.{Wanted}
use Rattle.timer_setting.specs.declared.object_call.ObjectCall.{ObjectCall}
use Rattle.timer_setting.specs.declared.object_call.ObjectCall.TheVariants as calls
use Rattle.timer_setting.specs.declared.object_call.ObjectReply.{ObjectReply}
use Rattle.timer_setting.specs.declared.object_call.ObjectReply.TheVariants as replies
use Rattle.timer_setting.specs.declared.object_timer.ObjectTimer.{ObjectTimer}
use Rattle.timer_setting.specs.Phases.{IsOutcomeOf}
use Rattle.timer_setting.specs.Settimes.{timer_expired, trigger_answer}
use Rattle.timer_setting.specs.StepTables.{StepTable}

pub record ObjectKind (S : Type 0) : Type 1 where
  pub table : StepTable S ObjectCall ObjectReply
  pub timer : S → ObjectTimer
  pub wanted : S → ObjectCall → Option Wanted

-- ---- calls of all kinds

-- a start's outcome as a record's line tells it: a refused one has no stamp
abbrev pub arm_told : Arm → Arm
arm_told arms.NotAsked = arms.NotAsked
arm_told (arms.Armed generation) = arms.Armed generation
arm_told (arms.Unarmed stamp) = arms.Unarmed 0

-- a call as a record's line tells it: the answer of a settime or a sleep tells the stamp of a start that was refused
abbrev pub as_told : ObjectCall → ObjectCall
as_told (calls.Accept reading arm) = calls.Accept reading (arm_told arm)
as_told (calls.Read reading arm) = calls.Read reading (arm_told arm)
as_told (calls.Gettime reading arm) = calls.Gettime reading (arm_told arm)
as_told call = call

-- the outcome of the start that a call wanted
abbrev pub arm_in : ObjectCall → Arm
arm_in (calls.Settime c) = c.arm
arm_in (calls.Trigger generation reading) = arms.NotAsked
arm_in (calls.Accept reading arm) = arm
arm_in (calls.Read reading arm) = arm
arm_in (calls.Gettime reading arm) = arm
arm_in (calls.Sleep c) = c.arm
arm_in (calls.Interrupt reading) = arms.NotAsked
arm_in (calls.Overflow generation reading) = arms.NotAsked

-- ---- what is known of a kind

-- another call is allowed too, and is the same step
pub record IsSameStep {S : Type 0} (table : StepTable S ObjectCall ObjectReply) (s : S) (c d : ObjectCall) : Type 0 where
  pub allows : table.allows s d
  pub next : table.next s d ≡ table.next s c
  pub answer : table.answer s d ≡ table.answer s c

-- a step leaves what the timer was made with
pub record IsSameMade (old new : ObjectTimer) : Type 0 where
  pub clock : new.clock ≡ old.clock
  pub base : new.base ≡ old.base
  pub limit : new.limit ≡ old.limit

module _ {S : Type 0} where
  pub record IsKind (k : ObjectKind S) : Type 0 where
    -- each call needs room for its entry, adds one, and leaves what the object was made with
    pub room : (s : S) (c : ObjectCall) → k.table.allows s c → (k.timer s).stamp < (k.timer s).limit
    pub counted : (s : S) (c : ObjectCall) → k.table.allows s c → (k.timer (k.table.next s c)).stamp ≡ (k.timer s).stamp + 1
    pub made : (s : S) (c : ObjectCall) → k.table.allows s c → IsSameMade (k.timer s) (k.timer (k.table.next s c))
    -- a call bears the outcome of the start that it wanted
    pub outcome : (s : S) (c : ObjectCall) → k.table.allows s c → IsOutcomeOf (arm_in c) (k.wanted s c)
    -- a trigger is the same of every kind: what it does to the timer, and what it answers
    pub expires : (s : S) (generation : ℕ) (reading : ClockReading) → k.table.allows s (calls.Trigger generation reading)
        → k.timer (k.table.next s (calls.Trigger generation reading)) ≡ timer_expired (k.timer s) generation reading
    pub triggered : (s : S) (generation : ℕ) (reading : ClockReading) → k.table.allows s (calls.Trigger generation reading)
        → k.table.answer s (calls.Trigger generation reading) ≡ replies.Trigger (trigger_answer (k.timer s).phase generation reading)
    -- a call as its line tells it is the same step
    pub told : (s : S) (c : ObjectCall) → k.table.allows s c → IsSameStep k.table s c (as_told c)
