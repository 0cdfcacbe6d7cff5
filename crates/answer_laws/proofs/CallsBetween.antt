-- What each call of a handle makes stands between what the handle had seen before and after it.
use Rattle.std.proofs.Common.{◌≡◌, ◌⊎◌, ℕ, List, [], length, Option, Some, None, MatchOption, Result, ap}
use Rattle.std.proofs.Math.Logic.{⊎_elim}
use Rattle.ktime.specs.Readings.{ClockReading}
use Rattle.ktime.specs.declared.timespec.TimeSpec.{TimeSpec}
use Rattle.ktime.specs.declared.write.ClockFault.{ClockFault}
use Rattle.ktime.specs.declared.write.Write.{Write}
use Rattle.seq_timer.specs.declared.answer.CancelAnswer.{CancelAnswer}
use Rattle.seq_timer.specs.declared.context.Context.{Context}
use Rattle.seq_timer.specs.declared.observation.Peek.{Peek}
use Rattle.base_row.specs.declared.log.Receipt.{Receipt}
use Rattle.base_row.specs.declared.view.Opening.{Opening}
use Rattle.hr_timers.specs.Handlers.{Meaning}
use Rattle.hr_timers.specs.Known.{KnownOfTimers}
use Rattle.hr_timers.specs.declared.answer.NowAnswer.{NowAnswer}
use Rattle.hr_timers.specs.declared.answer.OfflineAnswer.{OfflineAnswer}
use Rattle.hr_timers.specs.declared.answer.OnlineAnswer.{OnlineAnswer}
use Rattle.hr_timers.specs.declared.answer.StartAnswer.{StartAnswer}
use Rattle.hr_timers.specs.declared.expiry.ExpireAnswer.{ExpireAnswer}
use Rattle.hr_timers.specs.declared.handler.Restart.{Restart}
use Rattle.hr_timers.specs.declared.numbers.ClaimNumbers.{ClaimNumbers}
use Rattle.timer_setting.specs.Arguments.{time_of}
use Rattle.timer_setting.specs.declared.answers.AcceptAnswer.{AcceptAnswer}
use Rattle.timer_setting.specs.declared.answers.AcceptAnswer.TheVariants as acceptances
use Rattle.timer_setting.specs.declared.answers.InterruptAnswer.{InterruptAnswer}
use Rattle.timer_setting.specs.declared.answers.InterruptAnswer.TheVariants as interrupts
use Rattle.timer_setting.specs.declared.answers.ReadAnswer.{ReadAnswer}
use Rattle.timer_setting.specs.declared.answers.ReadAnswer.TheVariants as reads
use Rattle.timer_setting.specs.declared.answers.SettimeAnswer.{SettimeAnswer}
use Rattle.timer_setting.specs.declared.answers.SettimeAnswer.TheVariants as settings
use Rattle.timer_setting.specs.declared.answers.SleepAnswer.{SleepAnswer}
use Rattle.timer_setting.specs.declared.answers.SleepAnswer.TheVariants as sleeps
use Rattle.timer_setting.specs.declared.arming.Arm.{Arm}
use Rattle.timer_setting.specs.declared.arming.Wanted.{Wanted}
use Rattle.timer_setting.specs.declared.object_call.ObjectCall.{ObjectCall}
use Rattle.timer_setting.specs.declared.object_call.ObjectReply.{ObjectReply}
use Rattle.timer_objects.specs.Arming.{ArmsFor}
use Rattle.timer_objects.specs.Calls.{Accepts, ArmsAnew, Caller, FindsHistoryFull, Gettimes, Interrupts, ReadsFd, RearmingMade, SettimeMade, SleepMade}
use Rattle.timer_objects.specs.Known.{ObjectsOf, decl_at}
use Rattle.timer_objects.specs.Signals.{TakesNext, TakesSignal}
use Rattle.timer_objects.specs.declared.answers.Gettime.{Gettime}
use Rattle.timer_objects.specs.declared.answers.Gettime.TheVariants as gettimes
use Rattle.timer_objects.specs.declared.answers.Overrun.{Overrun}
use Rattle.timer_objects.specs.declared.answers.Readable.{Readable}
use Rattle.timer_objects.specs.declared.answers.Slept.{Slept}
use Rattle.timer_objects.specs.declared.object.Kind.{Kind}
use Rattle.timer_objects.specs.declared.object.Kind.TheVariants as kinds
use Rattle.timer_objects.specs.declared.signals.NextSignal.{NextSignal}
use Rattle.timer_objects.specs.declared.signals.NextSignal.TheVariants as nexts
use Rattle.timer_objects.specs.declared.wanting.Rearming.{Rearming}
use Rattle.signal_queue.specs.declared.view.QueueView.{QueueView}
use Rattle.answer_laws.specs.Between.{FunctionsMakeBetween, MakesSome}
use Rattle.answer_laws.specs.Lives.{GoesOnHere}
use Rattle.hulayban.specs.Serving.{DoesExpire, InHand, RunsFor, functions}
use Rattle.hulayban.specs.Systems.{HandleOf, SystemOf}
use Rattle.hulayban.specs.Calls.{DoesAccept, DoesCancel, DoesCancelNow, DoesGetoverrun, DoesGettime, DoesInterrupt, DoesNextSignal, DoesNow, DoesOffline, DoesOnline, DoesPeek, DoesRead, DoesReadable, DoesSettime, DoesSleep, DoesSlept, DoesStart, DoesWrite, OnObject, caller}
use Rattle.hulayban.specs.Expiries.{DoesNextExpiry}
use Rattle.hulayban.specs.declared.objects.Settime.{Settime}
use Rattle.hulayban.specs.declared.timers.Request.{Request}
use Rattle.answer_laws.proofs.Between.{and_then, looked, made_at, now_makes, offline_makes, online_makes, run_makes, same}

-- what follows from either of what a match gives
either : {X : Type 0} {A M : Type 0} (B : X → Type 0) (r : Option X) → (A → M) → ((y : X) → B y → M) → MatchOption r A B → M
either B None first second is = first is
either B (Some y) first second is = second y is

module _ (y : ObjectsOf) (o : Opening) where
  abbrev n : ℕ
  n = length o.timers

  -- between two callers
  abbrev Makes : Caller → Caller → Type 0
  Makes v w = MakesSome n v.timers w.timers

  unchanged : (v w : Caller) → w ≡ v → Makes v w
  unchanged v w is = same n (ap (λ (c : Caller). c.timers) is)

  full : {v w : Caller} {id stamp : ℕ} → FindsHistoryFull y v w id stamp → Makes v w
  full is = looked n is.looks

  armed : (v w : KnownOfTimers) (id : ℕ) (wanted : Option Wanted) (base : ℕ) (reading : ClockReading) (arm : Arm) (log log' : List Receipt)
      → ArmsFor o v w id wanted base reading arm log log' → MakesSome n v w
  armed v w id None base reading arm log log' is = same n is.1
  armed v w id (Some wanted) base reading arm log log' is = made_at n is.starts.made

  anew : (v w : Caller) (id : ℕ) (call : Arm → ObjectCall) (wanted : Option Wanted) (reading : ClockReading) (reply : ObjectReply)
      → ArmsAnew y o v w id call wanted reading reply → Makes v w
  anew v w id call wanted reading reply is =
      and_then n (looked n is.turn.begins.looks) (and_then n (made_at n is.disarms.cancelled.made)
      (and_then n (armed _ _ id wanted _ reading is.arm _ _ is.arms) (looked n is.turn.ends.looks)))

  rearmed : {v w : Caller} {id : ℕ} {r : Rearming} {reading : ClockReading} {reply : ObjectReply} → RearmingMade y o v w id r reading reply → Makes v w
  rearmed is = and_then n (looked n is.turn.begins.looks) (and_then n (armed _ _ _ _ _ _ is.arm _ _ is.arms) (looked n is.turn.ends.looks))

  -- ---- calls on objects

  pub settime_made : (v w : Caller) (id flags value interval : ℕ) (reading : ClockReading) (a : SettimeAnswer)
      → SettimeMade y o v w id flags value interval reading a → Makes v w
  settime_made v w id flags value interval reading (settings.Spent stamp) is = full is
  settime_made v w id flags value interval reading (settings.Old left was) is = anew v w id _ _ reading _ is
  settime_made v w id flags value interval reading (settings.Unarmed stamp) is = anew v w id _ _ reading _ is
  settime_made v w id flags value interval reading settings.Canceled is = anew v w id _ _ reading _ is
  settime_made v w id flags value interval reading settings.BadFlags is = absurd is
  settime_made v w id flags value interval reading settings.BadTime is = absurd is

  pub gettime_made : (v w : Caller) (id : ℕ) (reading : ClockReading) (kind : Kind) (a : Gettime) → Gettimes y o v w id reading kind a → Makes v w
  gettime_made v w id reading kinds.Posix (gettimes.Left left interval stamp) is = looked n is.1.timers
  gettime_made v w id reading kinds.Posix (gettimes.Spent stamp) is = absurd is
  gettime_made v w id reading kinds.Fd (gettimes.Left left interval stamp) is = rearmed is.0
  gettime_made v w id reading kinds.Fd (gettimes.Spent stamp) is = full is
  gettime_made v w id reading kinds.Queued (gettimes.Left left interval stamp) is = looked n is.1.timers
  gettime_made v w id reading kinds.Queued (gettimes.Spent stamp) is = absurd is
  gettime_made v w id reading kinds.Raw a is = absurd is
  gettime_made v w id reading kinds.Sleeper a is = absurd is

  pub read_made : (v w : Caller) (id len : ℕ) (reading : ClockReading) (a : ReadAnswer) → ReadsFd y o v w id len reading a → Makes v w
  read_made v w id len reading reads.ShortBuffer is = unchanged v w is.1
  read_made v w id len reading (reads.Spent stamp) is = full is.1
  read_made v w id len reading (reads.Count total) is = rearmed is.1
  read_made v w id len reading reads.Canceled is = rearmed is.1
  read_made v w id len reading reads.Again is = rearmed is.1

  pub accept_made : (v w : Caller) (id : ℕ) (reading : ClockReading) (a : AcceptAnswer) → Accepts y o v w id reading a → Makes v w
  accept_made v w id reading (acceptances.Spent stamp) is = full is
  accept_made v w id reading (acceptances.Accepted overrun) is = rearmed is
  accept_made v w id reading acceptances.NoSignal is = rearmed is

  pub sleep_made : (v w : Caller) (id flags time : ℕ) (reading : ClockReading) (a : SleepAnswer) → SleepMade y o v w id flags time reading a → Makes v w
  sleep_made v w id flags time reading sleeps.BadFlags is = absurd is
  sleep_made v w id flags time reading sleeps.BadTime is = absurd is
  sleep_made v w id flags time reading (sleeps.Spent stamp) is = full is
  sleep_made v w id flags time reading (sleeps.Occupied stamp) is = looked n is.1.timers
  sleep_made v w id flags time reading a is = anew v w id _ _ reading _ is

  pub interrupt_made : (v w : Caller) (id : ℕ) (reading : ClockReading) (a : InterruptAnswer) → Interrupts y o v w id reading a → Makes v w
  interrupt_made v w id reading (interrupts.Spent stamp) is = full is
  interrupt_made v w id reading (interrupts.Awake stamp) is = looked n is.1.timers
  interrupt_made v w id reading a is = anew v w id _ _ reading _ is

  taken : (v w : Caller) (timer number : ℕ) (reading : ClockReading) (next : NextSignal) → TakesSignal y o v w timer number reading next → Makes v w
  taken v w timer number reading nexts.NoneQueued is = absurd is
  taken v w timer number reading (nexts.Spent i k stamp) is = full is.2
  taken v w timer number reading (nexts.Stale i k) is = looked n is.2.looks.timers
  taken v w timer number reading (nexts.Accepted i k overrun) is = rearmed is.2.made

  pub next_made : (v w : Caller) (s t : QueueView) (reading : ClockReading) (next : NextSignal) → TakesNext y o v w s t reading next → Makes v w
  next_made v w s t reading nexts.NoneQueued is = looked n is.1.looks
  next_made v w s t reading next is = and_then n (looked n is.4.looks)
      (⊎_elim (λ foreign. unchanged is.3 w foreign.2) (λ queued. taken is.3 w is.0 is.1 reading next queued.1) is.5)

-- ---- expiry runs

module _ {A : Type 0} (m : Meaning A) (o : Opening) (own : FunctionsMakeBetween m o) where
  by_kind : (h h' : InHand A) (v w : KnownOfTimers) (c : ClaimNumbers) (reading : ClockReading) (restart : Restart) (kind : Kind)
      → RunsFor m o h h' v w c reading restart kind → MakesSome (length o.timers) v w
  by_kind h h' v w c reading restart kinds.Raw by = own h.own h'.own v w c reading restart by.0
  by_kind h h' v w c reading restart kinds.Queued by = looked (length o.timers) by.1
  by_kind h h' v w c reading restart kind by = looked (length o.timers) by.1

  -- the functions of a system make their entries between, where a caller's do
  functions_make : FunctionsMakeBetween (functions m) o
  functions_make h h' v w c reading restart did = by_kind h h' v w c reading restart _ did.runs

-- ---- the calls of a handle

module _ (x : SystemOf) (old new : HandleOf) where
  abbrev o : Opening
  o = x.timers.about

  abbrev many : ℕ
  many = length o.timers

  abbrev Here : Type 0
  Here = GoesOnHere x old new

  -- behind a reading
  behind : {reading : ClockReading} (mid : HandleOf) → DoesNow x old mid reading → MakesSome many mid.timers.known new.timers.known → Here
  behind mid reads does = and_then many (looked many reads.looks) does

  pub of_now : (reading : ClockReading) → DoesNow x old new reading → Here
  of_now reading d = looked many d.looks

  pub of_write : (write : Write) (answer : Result ClockReading ClockFault) → DoesWrite x old new write answer → Here
  of_write write answer d = looked many d.looks

  pub of_start : (timer : ℕ) (r : Request) (a : StartAnswer) → DoesStart x old new timer r a → Here
  of_start timer r a d = behind d.mid d.reads (made_at many d.does.0.made)

  pub of_cancel : (timer : ℕ) (a : CancelAnswer) → DoesCancel x old new timer a → Here
  of_cancel timer a d = made_at many d.does.made

  pub of_cancel_now : (timer : ℕ) (a : NowAnswer) → DoesCancelNow x old new timer a → Here
  of_cancel_now timer a d = now_makes o old.timers new.timers timer a d.does

  pub of_peek : (timer : ℕ) (peek : Peek) → DoesPeek x old new timer peek → Here
  of_peek timer peek d = made_at many d.does.made

  pub of_next_expiry : (base : ℕ) (wait : Option ℕ) → DoesNextExpiry x old new base wait → Here
  of_next_expiry base wait d = behind d.mid d.reads (looked many d.does.0.looks)

  pub of_offline : (base heir budget : ℕ) (a : OfflineAnswer) → DoesOffline x old new base heir budget a → Here
  of_offline base heir budget a d = behind d.mid d.reads
      (offline_makes o (λ s receipt. s) base heir d.reading d.mid.timers.known new.timers.known budget a tt tt d.does.0)

  pub of_online : (base : ℕ) (a : OnlineAnswer) → DoesOnline x old new base a → Here
  of_online base a d = online_makes o old.timers.known new.timers.known base a d.does

  pub of_expire : {A : Type 0} (m : Meaning A) (context : Context) (base budget : ℕ) (own own' : A) (a : ExpireAnswer) → FunctionsMakeBetween m o
      → DoesExpire m x old new context base budget own own' a → Here
  of_expire m context base budget own own' a each d = behind d.mid d.reads
      (run_makes o (functions m) (functions_make m o each) context base d.reading budget d.mid.timers.known _ [] new.timers.known _ d.log a d.expires)

  -- on an object
  on_object : {Does : SystemOf → Caller → Caller → ClockReading → Type 0}
      → ((v w : Caller) (reading : ClockReading) → Does x v w reading → MakesSome many v.timers w.timers) → OnObject x old new Does → Here
  on_object makes d = behind d.mid d.reads (makes (caller d.mid [] []) (caller new d.log d.object_log) d.reading d.does)

  pub of_settime : (id : ℕ) (s : Settime) (a : SettimeAnswer) → DoesSettime x old new id s a → Here
  of_settime id s a = on_object (λ v w reading. either (λ refusal. (a ≡ refusal) × (w ≡ v)) _
      (settime_made x.objects o v w id s.flags (time_of s.value) (time_of s.interval) reading a) (λ refusal is. unchanged x.objects o v w is.1))

  pub of_gettime : (id : ℕ) (a : Gettime) → DoesGettime x old new id a → Here
  of_gettime id a = on_object (λ v w reading. gettime_made x.objects o v w id reading (decl_at x.objects id).kind a)

  pub of_read : (id len : ℕ) (a : ReadAnswer) → DoesRead x old new id len a → Here
  of_read id len a = on_object (λ v w reading. read_made x.objects o v w id len reading a)

  pub of_accept : (id : ℕ) (a : AcceptAnswer) → DoesAccept x old new id a → Here
  of_accept id a = on_object (λ v w reading. accept_made x.objects o v w id reading a)

  pub of_sleep : (id flags : ℕ) (time : TimeSpec) (a : SleepAnswer) → DoesSleep x old new id flags time a → Here
  of_sleep id flags time a = on_object (λ v w reading. either (λ refusal. (a ≡ refusal) × (w ≡ v)) _
      (sleep_made x.objects o v w id flags (time_of time) reading a) (λ refusal is. unchanged x.objects o v w is.1))

  pub of_interrupt : (id : ℕ) (a : InterruptAnswer) → DoesInterrupt x old new id a → Here
  of_interrupt id a = on_object (λ v w reading. interrupt_made x.objects o v w id reading a)

  pub of_readable : (id : ℕ) (a : Readable) → DoesReadable x old new id a → Here
  of_readable id a = on_object (λ v w reading is. looked many is.1.timers)

  pub of_getoverrun : (id : ℕ) (a : Overrun) → DoesGetoverrun x old new id a → Here
  of_getoverrun id a d = looked many d.sees.2.timers

  pub of_slept : (id : ℕ) (a : Slept) → DoesSlept x old new id a → Here
  of_slept id a d = looked many d.sees.1.timers

  pub of_next_signal : (a : NextSignal) → DoesNextSignal x old new a → Here
  of_next_signal a d = behind d.mid d.reads
      (next_made x.objects o (caller d.mid [] []) (caller new d.log d.object_log) d.mid.signals.knows new.signals.knows d.reading a d.does)
