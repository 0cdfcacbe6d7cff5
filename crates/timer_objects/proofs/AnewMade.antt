-- Calls that arm a timer anew: turns before them that only looked, the names of passes, and what each answers.
use Rattle.std.proofs.Common.{◌≡◌, ◌∙◌, ℕ, true, false, not, refl, sym, subst}
use Rattle.ktime.specs.Readings.{ClockReading}
use Rattle.base_row.specs.declared.view.Opening.{Opening}
use Rattle.timer_setting.specs.declared.answers.InterruptAnswer.{InterruptAnswer}
use Rattle.timer_setting.specs.declared.answers.InterruptAnswer.TheVariants as interrupts
use Rattle.timer_setting.specs.declared.answers.SettimeAnswer.{SettimeAnswer}
use Rattle.timer_setting.specs.declared.answers.SettimeAnswer.TheVariants as settings
use Rattle.timer_setting.specs.declared.answers.SleepAnswer.{SleepAnswer}
use Rattle.timer_setting.specs.declared.answers.SleepAnswer.TheVariants as sleeps
use Rattle.timer_setting.specs.declared.arming.Arm.{Arm}
use Rattle.timer_setting.specs.declared.arming.Wanted.{Wanted}
use Rattle.timer_setting.specs.declared.object_call.ObjectCall.{ObjectCall}
use Rattle.timer_setting.specs.declared.object_call.ObjectReply.{ObjectReply}
use Rattle.timer_setting.specs.declared.object_call.ObjectReply.TheVariants as replies
use Rattle.timer_setting.specs.declared.object_call.ObjectCall.TheVariants as calls
use Rattle.sleeper.specs.Steps.{sleep_start}
use Rattle.std.specs.Prelude.{Bool, None, Option}
use Rattle.sleeper.specs.States.{is_free}
use Rattle.timer_objects.specs.declared.anew.Anew.{Anew}
use Rattle.timer_objects.specs.declared.anew.Anew.TheVariants as anews
use Rattle.timer_objects.specs.declared.anew.EndedAnew.{EndedAnew}
use Rattle.timer_objects.specs.declared.anew.EndedAnew.TheVariants as endings
use Rattle.timer_objects.specs.declared.anew.ValidSettime.{ValidSettime}
use Rattle.timer_objects.specs.declared.anew.ValidSleep.{ValidSleep}
use Rattle.timer_objects.specs.declared.object.Object.{Object}
use Rattle.timer_objects.specs.declared.object.Object.TheVariants as objects
use Rattle.timer_objects.specs.Anew.{EndsAnew, IsInterruptEntry, IsSettimeEntry, IsSleepEntry, anew_reading, refuses}
use Rattle.timer_objects.specs.Arming.{Disarms}
use Rattle.timer_objects.specs.Calls.{ArmsAnew, Caller, FindsSleeper, HasWaited, Interrupts, LooksAtObject, SetsTimer, SettimeMade, SleepMade, settime_by, sleep_by}
use Rattle.timer_objects.specs.Known.{ObjectsOf, decl_at}
use Rattle.timer_objects.specs.Rearming.{KeepsNames}
use Rattle.timer_objects.proofs.Settings.{settime_same}
use Rattle.timer_setting.specs.Arguments.{start_by}
use Rattle.timer_objects.proofs.Retrying.{arms_names, enters_after, full_after, looked_after, turn_after, turn_names}

-- ---- what each answers

sleep_same : {a b : SleepAnswer} → replies.Sleep a ≡ replies.Sleep b → a ≡ b
sleep_same e = cc

interrupt_same : {a b : InterruptAnswer} → replies.Interrupt a ≡ replies.Interrupt b → a ≡ b
interrupt_same e = cc

module _ (x : ObjectsOf) (o : Opening) (old new : Caller) (id : ℕ) where
  settime_by_entry : (v : ValidSettime) (a : SettimeAnswer) → IsSettimeEntry a
      → SetsTimer x o old new id v.flags v.value v.interval v.reading a → SettimeMade x o old new id v.flags v.value v.interval v.reading a
  settime_by_entry v (settings.Old left was) entry made = made
  settime_by_entry v (settings.Unarmed n) entry made = made
  settime_by_entry v settings.Canceled entry made = made
  settime_by_entry v a entry made = absurd entry

  sleep_by_entry : (v : ValidSleep) (a : SleepAnswer) → IsSleepEntry a
      → ArmsAnew x o old new id (sleep_by v.flags v.time v.reading) (sleep_start (decl_at x id).clock v.flags v.time v.reading) v.reading (replies.Sleep a)
      → SleepMade x o old new id v.flags v.time v.reading a
  sleep_by_entry v sleeps.BadFlags entry made = absurd entry
  sleep_by_entry v sleeps.BadTime entry made = absurd entry
  sleep_by_entry v (sleeps.Spent n) entry made = absurd entry
  sleep_by_entry v (sleeps.Occupied n) entry made = absurd entry
  sleep_by_entry v a entry made = made

  interrupt_by_entry : (reading : ClockReading) (a : InterruptAnswer) → IsInterruptEntry a
      → ArmsAnew x o old new id (λ arm. calls.Interrupt reading) None reading (replies.Interrupt a) → Interrupts x o old new id reading a
  interrupt_by_entry reading (interrupts.Spent n) entry made = absurd entry
  interrupt_by_entry reading (interrupts.Awake n) entry made = absurd entry
  interrupt_by_entry reading a entry made = made

  pub settime_answered : (v : ValidSettime) (reply : ObjectReply) (a : SettimeAnswer) → EndsAnew x o old new id (anews.Settime v) (endings.Made reply)
      → reply ≡ replies.Settime a → SettimeMade x o old new id v.flags v.value v.interval v.reading a
  settime_answered v reply a (made, replied) is =
      settime_by_entry v a (subst IsSettimeEntry (settime_same (sym replied.1 ∙ is)) replied.2)
      (subst (λ r. ArmsAnew x o old new id (settime_by v.flags v.value v.interval v.reading) (start_by v.flags v.value) v.reading r) is made)

  pub sleep_answered : (v : ValidSleep) (reply : ObjectReply) (a : SleepAnswer) → EndsAnew x o old new id (anews.Sleep v) (endings.Made reply)
      → reply ≡ replies.Sleep a → SleepMade x o old new id v.flags v.time v.reading a
  sleep_answered v reply a (made, replied) is =
      sleep_by_entry v a (subst IsSleepEntry (sleep_same (sym replied.1 ∙ is)) replied.2)
      (subst (λ r. ArmsAnew x o old new id (sleep_by v.flags v.time v.reading) (sleep_start (decl_at x id).clock v.flags v.time v.reading) v.reading r) is made)

  pub interrupt_answered : (reading : ClockReading) (reply : ObjectReply) (a : InterruptAnswer)
      → EndsAnew x o old new id (anews.Interrupt reading) (endings.Made reply) → reply ≡ replies.Interrupt a → Interrupts x o old new id reading a
  interrupt_answered reading reply a (made, replied) is =
      interrupt_by_entry reading a (subst IsInterruptEntry (interrupt_same (sym replied.1 ∙ is)) replied.2)
      (subst (λ r. ArmsAnew x o old new id (λ arm. calls.Interrupt reading) None reading r) is made)

  -- a sleep was refused by a sleeper that isn't free
  pub occupied_by : (v : ValidSleep) (n : ℕ) → EndsAnew x o old new id (anews.Sleep v) (endings.Refused n) → FindsSleeper x old new id n false
  occupied_by v n (object, looks, room, is) = at object looks is
    where
      free : (b : Bool) → not b ≡ true → b ≡ false
      free true e = cc
      free false e = refl

      at : (object : Object) → LooksAtObject old new id object n → refuses (anews.Sleep v) object ≡ true → FindsSleeper x old new id n false
      at (objects.Sleeper s) looks is = (s, looks, room, free (is_free s.sleep) is)
      at object looks is = absurd cc

  -- an interrupt by one that is
  pub awake_by : (reading : ClockReading) (n : ℕ) → EndsAnew x o old new id (anews.Interrupt reading) (endings.Refused n) → FindsSleeper x old new id n true
  awake_by reading n (object, looks, room, is) = at object looks is
    where
      at : (object : Object) → LooksAtObject old new id object n → refuses (anews.Interrupt reading) object ≡ true → FindsSleeper x old new id n true
      at (objects.Sleeper s) looks is = (s, looks, room, is)
      at object looks is = absurd cc

-- ---- tries

-- a call that waited first
module _ (x : ObjectsOf) (o : Opening) (first old new : Caller) (id : ℕ) where
  armed_after : {call : Arm → ObjectCall} {wanted : Option Wanted} {reading : ClockReading} {reply : ObjectReply} → HasWaited first old
      → ArmsAnew x o old new id call wanted reading reply → ArmsAnew x o first new id call wanted reading reply
  armed_after waits s = record {
    arm = s.arm;
    enters = enters_after waits s.enters;
    begun = s.begun;
    worked = s.worked;
    turn = turn_after waits.timers s.turn;
    disarmed = s.disarmed;
    cancel_log = s.cancel_log;
    disarms = subst (λ l. Disarms o s.begun s.disarmed id l s.cancel_log) waits.log s.disarms;
    arms = s.arms;
    bears = s.bears;
  }

  pub ends_after : (call : Anew) (e : EndedAnew) → HasWaited first old → EndsAnew x o old new id call e → EndsAnew x o first new id call e
  ends_after call (endings.Full n) waits full = full_after waits full
  ends_after call (endings.Refused n) waits (object, looks, room, is) = (object, looked_after waits looks, room, is)
  ends_after call (endings.Made reply) waits made = (armed_after waits made.0, made.1)

-- ---- names

pub anew_names : (x : ObjectsOf) (o : Opening) (old new : Caller) (id : ℕ) (call : Anew) (e : EndedAnew) → EndsAnew x o old new id call e → KeepsNames old new
anew_names x o old new id call (endings.Full n) f = record { timers = f.looks.id; claims = f.looks.claims; objects = f.reads.pass.id }
anew_names x o old new id call (endings.Refused n) (object, l, room, is) =
    record { timers = l.timers.id; claims = l.timers.claims; objects = l.reads.pass.id }
anew_names x o old new id call (endings.Made reply) (s, replies) =
    let names = arms_names o s.disarmed s.worked id _ (anew_reading call) s.arm s.cancel_log new.log _ s.arms in
    let cancelled = s.disarms.cancelled in
    let kept = turn_names s.turn (names.0 ∙ cancelled.made.id) (names.1 ∙ cancelled.claims) in
    record { timers = kept.0; claims = kept.1; objects = s.enters.commits.adds.id }
