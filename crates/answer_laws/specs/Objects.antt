-- What two callers of objects have in common after one call, and the moment of each call on an object.
use Rattle.std.specs.Prelude.{ℕ, ◌≡◌, List, [], Option, Some, None}
use Rattle.ktime.specs.Readings.{ClockReading}
use Rattle.seq_timer.specs.declared.system.SystemEntry.{SystemEntry}
use Rattle.timer_setting.specs.declared.answers.AcceptAnswer.{AcceptAnswer}
use Rattle.timer_setting.specs.declared.answers.AcceptAnswer.TheVariants as acceptances
use Rattle.timer_setting.specs.declared.answers.InterruptAnswer.{InterruptAnswer}
use Rattle.timer_setting.specs.declared.answers.InterruptAnswer.TheVariants as interrupts
use Rattle.timer_setting.specs.declared.answers.ReadAnswer.{ReadAnswer}
use Rattle.timer_setting.specs.declared.answers.ReadAnswer.TheVariants as reads
use Rattle.timer_setting.specs.declared.answers.SettimeAnswer.{SettimeAnswer}
use Rattle.timer_setting.specs.declared.answers.SettimeAnswer.TheVariants as settings
use Rattle.timer_setting.specs.declared.answers.SleepAnswer.{SleepAnswer}
use Rattle.timer_setting.specs.declared.answers.SleepAnswer.TheVariants as sleeps
use Rattle.timer_setting.specs.declared.arming.Arm.{Arm}
use Rattle.timer_setting.specs.declared.arming.Wanted.{Wanted}
use Rattle.timer_setting.specs.declared.object_call.ObjectCall.{ObjectCall}
use Rattle.timer_setting.specs.declared.object_call.ObjectReply.{ObjectReply}
use Rattle.base_row.specs.declared.log.Receipt.{Receipt}
use Rattle.base_row.specs.declared.view.Opening.{Opening}
use Rattle.counted_row.specs.declared.view.Entry.{Entry}
use Rattle.hr_timers.specs.Known.{KnownOfTimers}
use Rattle.timer_objects.specs.declared.answers.Gettime.{Gettime}
use Rattle.timer_objects.specs.declared.answers.Gettime.TheVariants as gettimes
use Rattle.timer_objects.specs.declared.object.Kind.{Kind}
use Rattle.timer_objects.specs.declared.object.Kind.TheVariants as kinds
use Rattle.timer_objects.specs.declared.wanting.Rearming.{Rearming}
use Rattle.timer_objects.specs.Arming.{ArmsFor, asked_by}
use Rattle.timer_objects.specs.Calls.{Accepts, ArmsAnew, Caller, Gettimes, Interrupts, ReadsFd, RearmingMade, SettimeMade, SleepMade}
use Rattle.timer_objects.specs.Known.{ObjectsOf, seen_of}
use Rattle.answer_laws.specs.Outcomes.{SameOwn, StartMoment, start_moment}
use Rattle.answer_laws.specs.Rows.{SameOfRow}

-- two callers are alike but for what their passes have seen of others
pub record SameCaller (c d : Caller) : Type 0 where
  pub timers : SameOwn c.timers d.timers
  pub objects : SameOfRow c.objects d.objects
  pub log : c.log ≡ d.log
  pub object_log : c.object_log ≡ d.object_log

-- and they have seen the same entries of an object
pub record SameWork (c d : Caller) (id : ℕ) : Type 0 where
  pub caller : SameCaller c d
  pub entries : seen_of c.objects id ≡ seen_of d.objects id

-- The moment of a call on an object: none, where its arguments are refused; or the object's history, as it was looked at; or that behind which the call made
-- its entry, when its timer was disarmed, and its start.
pub data ObjectMoment : Type 0 where
  NoMoment : ObjectMoment
  SeenAt : List (Entry ObjectCall ObjectReply) → ObjectMoment
  MadeBehind : List (Entry ObjectCall ObjectReply) → List SystemEntry → Option StartMoment → ObjectMoment

-- two calls on an object are of one moment
abbrev pub AreOne : ObjectMoment → ObjectMoment → Type 0
AreOne (SeenAt l) (SeenAt k) = l ≡ k
AreOne (SeenAt l) (MadeBehind k at start) = l ≡ k
AreOne (MadeBehind l at start) (SeenAt k) = l ≡ k
AreOne (MadeBehind l at start) (MadeBehind k later begin) = (l ≡ k) × (at ≡ later) × (start ≡ begin)
AreOne m n = Unit {0}

-- the moment of a start that was wanted
abbrev pub arm_moment : (o : Opening) (v w : KnownOfTimers) (t : ℕ) (wanted : Option Wanted) (base : ℕ) (reading : ClockReading) (arm : Arm)
    (log log' : List Receipt) → ArmsFor o v w t wanted base reading arm log log' → Option StartMoment
arm_moment o v w t None base reading arm log log' a = None
arm_moment o v w t (Some k) base reading arm log log' a = Some (start_moment o v w t (asked_by k base reading) a.answer a.starts)

module _ (x : ObjectsOf) (o : Opening) (old new : Caller) (id : ℕ) where
  -- of an object that was looked at
  abbrev pub looked_at : ObjectMoment
  looked_at = SeenAt (seen_of new.objects id)

  -- of a call that disarmed its object's timer
  abbrev pub anew_at : (call : Arm → ObjectCall) (wanted : Option Wanted) (reading : ClockReading) (reply : ObjectReply)
      → ArmsAnew x o old new id call wanted reading reply → ObjectMoment
  anew_at call wanted reading reply a = MadeBehind a.enters.commits.adds.before a.disarms.cancelled.at
      (arm_moment o a.disarmed a.worked id wanted _ reading a.arm a.cancel_log new.log a.arms)

  -- of a call that may have armed it again
  abbrev pub rearming_at : (r : Rearming) (reading : ClockReading) (reply : ObjectReply) → RearmingMade x o old new id r reading reply → ObjectMoment
  rearming_at r reading reply a =
      MadeBehind a.enters.commits.adds.before [] (arm_moment o a.begun a.worked id _ _ reading a.arm old.log new.log a.arms)

  -- of a settime with valid arguments
  abbrev pub settime_at : (flags value interval : ℕ) (reading : ClockReading) (a : SettimeAnswer) → SettimeMade x o old new id flags value interval reading a
      → ObjectMoment
  settime_at flags value interval reading (settings.Spent n) s = looked_at
  settime_at flags value interval reading (settings.Old left was) s = anew_at _ _ reading _ s
  settime_at flags value interval reading (settings.Unarmed n) s = anew_at _ _ reading _ s
  settime_at flags value interval reading settings.Canceled s = anew_at _ _ reading _ s
  settime_at flags value interval reading settings.BadFlags s = NoMoment
  settime_at flags value interval reading settings.BadTime s = NoMoment

  -- of a sleep with valid arguments
  abbrev pub sleep_at : (flags time : ℕ) (reading : ClockReading) (a : SleepAnswer) → SleepMade x o old new id flags time reading a → ObjectMoment
  sleep_at flags time reading sleeps.BadFlags s = NoMoment
  sleep_at flags time reading sleeps.BadTime s = NoMoment
  sleep_at flags time reading (sleeps.Spent n) s = looked_at
  sleep_at flags time reading (sleeps.Occupied n) s = looked_at
  sleep_at flags time reading sleeps.Slept s = anew_at _ _ reading _ s
  sleep_at flags time reading (sleeps.Unarmed n) s = anew_at _ _ reading _ s
  sleep_at flags time reading sleeps.Asleep s = anew_at _ _ reading _ s

  -- of an interrupt
  abbrev pub interrupt_at : (reading : ClockReading) (a : InterruptAnswer) → Interrupts x o old new id reading a → ObjectMoment
  interrupt_at reading (interrupts.Spent n) s = looked_at
  interrupt_at reading (interrupts.Awake n) s = looked_at
  interrupt_at reading interrupts.Slept s = anew_at _ _ reading _ s
  interrupt_at reading (interrupts.Left ns) s = anew_at _ _ reading _ s
  interrupt_at reading interrupts.Interrupted s = anew_at _ _ reading _ s

  -- of an accept
  abbrev pub accept_at : (reading : ClockReading) (a : AcceptAnswer) → Accepts x o old new id reading a → ObjectMoment
  accept_at reading (acceptances.Spent n) s = looked_at
  accept_at reading (acceptances.Accepted overrun) s = rearming_at _ reading _ s
  accept_at reading acceptances.NoSignal s = rearming_at _ reading _ s

  -- of a read
  abbrev pub read_at : (len : ℕ) (reading : ClockReading) (a : ReadAnswer) → ReadsFd x o old new id len reading a → ObjectMoment
  read_at len reading reads.ShortBuffer s = NoMoment
  read_at len reading (reads.Spent n) s = looked_at
  read_at len reading (reads.Count total) s = rearming_at _ reading _ s.1
  read_at len reading reads.Canceled s = rearming_at _ reading _ s.1
  read_at len reading reads.Again s = rearming_at _ reading _ s.1

  -- of a gettime of a descriptor; of any other object it is a look
  abbrev pub gettime_at : (reading : ClockReading) (kind : Kind) (a : Gettime) → Gettimes x o old new id reading kind a → ObjectMoment
  gettime_at reading kinds.Fd (gettimes.Left left interval stamp) s = rearming_at _ reading _ s.0
  gettime_at reading kind a s = looked_at
