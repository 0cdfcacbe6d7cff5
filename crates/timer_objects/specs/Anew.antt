-- Calls that disarm their object's timer, and start it where they want that: what each wants, when it is refused, and how it ends.
use Rattle.std.specs.Prelude.{ℕ, ◌≡◌, ◌≤◌, ◌<◌, Bool, true, false, not, List, Option, None}
use Rattle.ktime.specs.declared.clock_id.ClockId.{ClockId}
use Rattle.ktime.specs.Readings.{ClockReading}
use Rattle.ktime.specs.Times.{last_time}
use Rattle.base_row.specs.declared.log.Receipt.{Receipt}
use Rattle.base_row.specs.declared.view.Opening.{Opening}
use Rattle.hr_timers.specs.Known.{KnownOfTimers}
use Rattle.timer_setting.specs.Arguments.{abstime, bits_beyond, start_by}
use Rattle.timer_setting.specs.declared.answers.InterruptAnswer.{InterruptAnswer}
use Rattle.timer_setting.specs.declared.answers.InterruptAnswer.TheVariants as interrupts
use Rattle.timer_setting.specs.declared.answers.SettimeAnswer.{SettimeAnswer}
use Rattle.timer_setting.specs.declared.answers.SettimeAnswer.TheVariants as settings
use Rattle.timer_setting.specs.declared.answers.SleepAnswer.{SleepAnswer}
use Rattle.timer_setting.specs.declared.answers.SleepAnswer.TheVariants as sleeps
use Rattle.timer_setting.specs.declared.arming.Arm.{Arm}
use Rattle.timer_setting.specs.declared.arming.Wanted.{Wanted}
use Rattle.timer_setting.specs.declared.object_call.ObjectCall.{ObjectCall}
use Rattle.timer_setting.specs.declared.object_call.ObjectCall.TheVariants as calls
use Rattle.timer_setting.specs.declared.object_call.ObjectReply.{ObjectReply}
use Rattle.timer_setting.specs.declared.object_call.ObjectReply.TheVariants as replies
use Rattle.sleeper.specs.States.{is_free}
use Rattle.sleeper.specs.Steps.{sleep_start}
use Rattle.timer_objects.specs.declared.anew.Anew.{Anew}
use Rattle.timer_objects.specs.declared.anew.Anew.TheVariants as anews
use Rattle.timer_objects.specs.declared.anew.EndedAnew.{EndedAnew}
use Rattle.timer_objects.specs.declared.anew.EndedAnew.TheVariants as endings
use Rattle.timer_objects.specs.declared.anew.ValidSettime.{ValidSettime}
use Rattle.timer_objects.specs.declared.anew.ValidSleep.{ValidSleep}
use Rattle.timer_objects.specs.declared.object.Kind.{Kind}
use Rattle.timer_objects.specs.declared.object.Kind.TheVariants as kinds
use Rattle.timer_objects.specs.declared.object.Object.{Object}
use Rattle.timer_objects.specs.declared.object.Object.TheVariants as objects
use Rattle.timer_objects.specs.Known.{ObjectsOf, decl_at}
use Rattle.timer_objects.specs.Arming.{ArmsFor, Disarms}
use Rattle.timer_objects.specs.Calls.{ArmsAnew, Caller, FindsHistoryFull, HasSetting, LooksAtObject, flags_of, settime_by, sleep_by}
use Rattle.timer_objects.specs.Turns.{BeginsTurn}

-- the arguments of a settime are valid for an object of this kind
pub record IsValidSettime (kind : Kind) (v : ValidSettime) : Type 0 where
  pub has : HasSetting kind
  pub flags : bits_beyond (flags_of kind) v.flags ≡ 0
  pub value : v.value ≤ last_time
  pub interval : v.interval ≤ last_time

-- those of a sleep are
pub record IsValidSleep (kind : Kind) (v : ValidSleep) : Type 0 where
  pub sleeper : kind ≡ kinds.Sleeper
  pub flags : bits_beyond abstime v.flags ≡ 0
  pub time : v.time ≤ last_time

abbrev pub IsValidAnew : Kind → Anew → Type 0
IsValidAnew kind (anews.Settime v) = IsValidSettime kind v
IsValidAnew kind (anews.Sleep v) = IsValidSleep kind v
IsValidAnew kind (anews.Interrupt reading) = kind ≡ kinds.Sleeper

-- the reading that a call is made with
abbrev pub anew_reading : Anew → ClockReading
anew_reading (anews.Settime v) = v.reading
anew_reading (anews.Sleep v) = v.reading
anew_reading (anews.Interrupt reading) = reading

-- the start that it wants, of an object over a timer that was declared on this clock
abbrev pub anew_wanted : ClockId → Anew → Option Wanted
anew_wanted clock (anews.Settime v) = start_by v.flags v.value
anew_wanted clock (anews.Sleep v) = sleep_start clock v.flags v.time v.reading
anew_wanted clock (anews.Interrupt reading) = None

-- the call, with the outcome of that start
abbrev pub anew_call : Anew → Arm → ObjectCall
anew_call (anews.Settime v) arm = settime_by v.flags v.value v.interval v.reading arm
anew_call (anews.Sleep v) arm = sleep_by v.flags v.time v.reading arm
anew_call (anews.Interrupt reading) arm = calls.Interrupt reading

-- an object whose history has room refuses it
abbrev pub refuses : Anew → Object → Bool
refuses (anews.Sleep v) (objects.Sleeper s) = not (is_free s.sleep)
refuses (anews.Interrupt reading) (objects.Sleeper s) = is_free s.sleep
refuses call object = false

-- an answer of a settime that made an entry
abbrev pub IsSettimeEntry : SettimeAnswer → Type 0
IsSettimeEntry settings.BadFlags = ⊥
IsSettimeEntry settings.BadTime = ⊥
IsSettimeEntry (settings.Spent n) = ⊥
IsSettimeEntry a = Unit

-- an answer of a sleep that made one
abbrev pub IsSleepEntry : SleepAnswer → Type 0
IsSleepEntry sleeps.BadFlags = ⊥
IsSleepEntry sleeps.BadTime = ⊥
IsSleepEntry (sleeps.Spent n) = ⊥
IsSleepEntry (sleeps.Occupied n) = ⊥
IsSleepEntry a = Unit

-- an answer of an interrupt that made one
abbrev pub IsInterruptEntry : InterruptAnswer → Type 0
IsInterruptEntry (interrupts.Spent n) = ⊥
IsInterruptEntry (interrupts.Awake n) = ⊥
IsInterruptEntry a = Unit

-- an entry of such a call has a reply of this form: a refusal makes no entry
abbrev pub RepliesAnew : Anew → ObjectReply → Type 0
RepliesAnew (anews.Settime v) reply = (a : SettimeAnswer) × (reply ≡ replies.Settime a) × IsSettimeEntry a
RepliesAnew (anews.Sleep v) reply = (a : SleepAnswer) × (reply ≡ replies.Sleep a) × IsSleepEntry a
RepliesAnew (anews.Interrupt reading) reply = (a : InterruptAnswer) × (reply ≡ replies.Interrupt a) × IsInterruptEntry a

-- ---- how a call ends

-- a call found the object's history full; or that it had room, but the object refuses the call; or it made an entry with this reply
abbrev pub EndsAnew : ObjectsOf → Opening → Caller → Caller → ℕ → Anew → EndedAnew → Type 0
EndsAnew x o old new id call (endings.Full n) = FindsHistoryFull x old new id n
EndsAnew x o old new id call (endings.Refused n) = (object : Object) × LooksAtObject old new id object n × (n < x.limit) × (refuses call object ≡ true)
EndsAnew x o old new id call (endings.Made reply) =
    ArmsAnew x o old new id (anew_call call) (anew_wanted (decl_at x id).clock call) (anew_reading call) reply × RepliesAnew call reply

-- ---- between its steps

-- a turn of an object with so many entries began, and the object's timer was disarmed, and then started where that was wanted
pub record DisarmsAndArms (o : Opening) (v w : KnownOfTimers) (t n : ℕ) (wanted : Option Wanted) (base : ℕ) (reading : ClockReading) (arm : Arm)
    (log log' : List Receipt) : Type 0 where
  pub begun : KnownOfTimers
  pub begins : BeginsTurn t n v begun
  pub disarmed : KnownOfTimers
  pub cancel_log : List Receipt
  pub disarms : Disarms o begun disarmed t log cancel_log
  pub arms : ArmsFor o disarmed w t wanted base reading arm cancel_log log'
