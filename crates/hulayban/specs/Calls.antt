-- What each call did, by what its handle had seen before and after it.
use Rattle.std.specs.Prelude.{ℕ, ◌≡◌, ◌/◌, ◌%◌, List, [], length, Result}
use Rattle.ktime.specs.Readings.{ClockReading}
use Rattle.ktime.specs.declared.timespec.TimeSpec.{TimeSpec}
use Rattle.ktime.specs.declared.write.ClockFault.{ClockFault}
use Rattle.ktime.specs.declared.write.Write.{Write}
use Rattle.pass_names.specs.Passes.{Looks}
use Rattle.pass_names.specs.SharedHistory.{LooksOn}
use Rattle.seq_timer.specs.Calls.{asked_for}
use Rattle.seq_timer.specs.declared.answer.CancelAnswer.{CancelAnswer}
use Rattle.seq_timer.specs.declared.observation.Peek.{Peek}
use Rattle.base_row.specs.declared.log.Receipt.{Receipt}
use Rattle.hr_timers.specs.Calls.{Cancels, NowFits, Peeks, StartsTimer}
use Rattle.hr_timers.specs.Moves.{OnlineFits, TakesOffline}
use Rattle.hr_timers.specs.declared.answer.NowAnswer.{NowAnswer}
use Rattle.hr_timers.specs.declared.answer.OfflineAnswer.{OfflineAnswer}
use Rattle.hr_timers.specs.declared.answer.OnlineAnswer.{OnlineAnswer}
use Rattle.hr_timers.specs.declared.answer.StartAnswer.{StartAnswer}
use Rattle.clock_cell.specs.Views.{AnswersWrite, seen_reading, writes}
use Rattle.timer_setting.specs.declared.answers.AcceptAnswer.{AcceptAnswer}
use Rattle.timer_setting.specs.declared.answers.InterruptAnswer.{InterruptAnswer}
use Rattle.timer_setting.specs.declared.answers.ReadAnswer.{ReadAnswer}
use Rattle.timer_setting.specs.declared.answers.SettimeAnswer.{SettimeAnswer}
use Rattle.timer_setting.specs.declared.answers.SleepAnswer.{SleepAnswer}
use Rattle.ordered_clock.specs.Moments.{HasPlace, ReadsAt}
use Rattle.timer_objects.specs.Calls.{Accepts, Caller, Gettimes, Interrupts, LooksOverrun, LooksReadable, LooksSlept, ReadsFd, Settimes, Sleeps}
use Rattle.timer_objects.specs.Known.{decl_at}
use Rattle.timer_objects.specs.declared.answers.Gettime.{Gettime}
use Rattle.timer_objects.specs.declared.answers.Overrun.{Overrun}
use Rattle.timer_objects.specs.declared.answers.Readable.{Readable}
use Rattle.timer_objects.specs.declared.answers.Slept.{Slept}
use Rattle.timer_objects.specs.Signals.{TakesNext}
use Rattle.timer_objects.specs.declared.log.ObjectReceipt.{ObjectReceipt}
use Rattle.timer_objects.specs.declared.signals.NextSignal.{NextSignal}
use Rattle.hulayban.specs.Systems.{HandleOf, KeepsHandle, SystemOf, history}
use Rattle.hulayban.specs.declared.objects.Settime.{Settime}
use Rattle.hulayban.specs.declared.timers.Request.{Request}

module _ (x : SystemOf) (old new : HandleOf) where
  -- At a moment of the call, in the one history, the clock showed this; and nothing was done.
  pub record DoesNow (reading : ClockReading) : Type 0 where
    pub keeps : KeepsHandle x old new
    pub looks : LooksOn old.timers.known new.timers.known
    pub moment : ReadsAt (history old) (history new) reading.stamp
    pub shows : reading ≡ seen_reading new.clock.knows
    pub count : reading.stamp ≡ length (writes new.clock.knows)
    pub clock : Looks old.clock.knows.pass new.clock.knows.pass
    pub objects : new.objects ≡ old.objects
    pub signals : new.signals ≡ old.signals

  -- A write has its place in the one history, or was refused by a reading that has one.
  pub record DoesWrite (write : Write) (answer : Result ClockReading ClockFault) : Type 0 where
    pub keeps : KeepsHandle x old new
    pub looks : LooksOn old.timers.known new.timers.known
    pub answers : AnswersWrite write old.clock.knows new.clock.knows answer
    pub places : HasPlace old.timers.known new.timers.known new.clock.knows answer
    pub objects : new.objects ≡ old.objects
    pub signals : new.signals ≡ old.signals

-- the call took a reading of the clock, and then did this by it
pub record ByReading (x : SystemOf) (old new : HandleOf) (Does : HandleOf → HandleOf → ClockReading → Type 0) : Type 0 where
  pub keeps : KeepsHandle x old new
  pub mid : HandleOf
  pub reading : ClockReading
  pub reads : DoesNow x old mid reading
  pub does : Does mid new reading

-- a call on timers by themselves has left all else alone
pub record LeavesOthers (old new : HandleOf) : Type 0 where
  pub objects : new.objects ≡ old.objects
  pub clock : new.clock ≡ old.clock
  pub signals : new.signals ≡ old.signals

-- the call did this to timers, with no reading
pub record AtOnce (x : SystemOf) (old new : HandleOf) (Does : Type 0) : Type 0 where
  pub keeps : KeepsHandle x old new
  pub does : Does
  pub rest : LeavesOthers old new

-- ---- timers by themselves

module _ (x : SystemOf) (old new : HandleOf) (timer : ℕ) where
  -- a start with this request, by a reading of the clock
  abbrev pub DoesStart : Request → StartAnswer → Type 0
  DoesStart r answer = ByReading x old new (λ mid now reading.
      StartsTimer x.timers.about mid.timers.known now.timers.known timer (asked_for r.mode r.ns r.slack r.base reading) answer × LeavesOthers mid now)

  -- a try to cancel
  abbrev pub DoesCancel : CancelAnswer → Type 0
  DoesCancel answer = AtOnce x old new (Cancels x.timers.about old.timers.known new.timers.known timer answer)

  -- one that waits for nobody
  abbrev pub DoesCancelNow : NowAnswer → Type 0
  DoesCancelNow answer = AtOnce x old new (NowFits x.timers.about old.timers new.timers timer answer)

  -- a look at its state word
  abbrev pub DoesPeek : Peek → Type 0
  DoesPeek peek = AtOnce x old new (Peeks x.timers.about old.timers.known new.timers.known timer peek)

-- ---- bases

module _ (x : SystemOf) (old new : HandleOf) (base : ℕ) where
  -- at most so many timers were moved to the heir, by a reading of the clock, and the base went off line where none was left
  abbrev pub DoesOffline : ℕ → ℕ → OfflineAnswer → Type 0
  DoesOffline heir budget answer = ByReading x old new (λ mid now reading.
      TakesOffline x.timers.about base heir reading mid.timers.known now.timers.known budget answer × LeavesOthers mid now)

  -- the base is on line again
  abbrev pub DoesOnline : OnlineAnswer → Type 0
  DoesOnline answer = AtOnce x old new (OnlineFits x.timers.about old.timers.known new.timers.known base answer)

-- ---- objects

-- so many nanoseconds as seconds and the rest
abbrev pub time_spec : ℕ → TimeSpec
time_spec ns = record { sec = ns / 1000000000; nsec = ns % 1000000000 }

-- a settime to expire after so many nanoseconds, and then at each of these intervals
abbrev pub settime_every : ℕ → Settime
settime_every ns = record { flags = 0; value = time_spec ns; interval = time_spec ns }

-- what a handle knows, with these logs of a call
abbrev pub caller : HandleOf → List Receipt → List ObjectReceipt → Caller
caller h log object_log = record { timers = h.timers.known; objects = h.objects; log = log; object_log = object_log }

-- the call took a reading of the clock, and then did this on an object of the system by it, with these receipts
pub record OnObject (x : SystemOf) (old new : HandleOf) (Does : SystemOf → Caller → Caller → ClockReading → Type 0) : Type 0 where
  pub keeps : KeepsHandle x old new
  pub mid : HandleOf
  pub reading : ClockReading
  pub reads : DoesNow x old mid reading
  pub log : List Receipt
  pub object_log : List ObjectReceipt
  pub does : Does x (caller mid [] []) (caller new log object_log) reading
  pub clock : new.clock ≡ mid.clock
  pub signals : new.signals ≡ mid.signals

-- the call looked at an object with no reading
pub record LooksOnObject (x : SystemOf) (old new : HandleOf) (Sees : Caller → Caller → Type 0) : Type 0 where
  pub keeps : KeepsHandle x old new
  pub sees : Sees (caller old [] []) (caller new [] [])
  pub clock : new.clock ≡ old.clock
  pub signals : new.signals ≡ old.signals

module _ (x : SystemOf) (old new : HandleOf) (id : ℕ) where
  -- a settime with this request
  abbrev pub DoesSettime : Settime → SettimeAnswer → Type 0
  DoesSettime s a = OnObject x old new (λ y v w reading. Settimes y.objects y.timers.about v w id s.flags s.value s.interval reading a)

  -- how long until the next expiry, and the interval
  abbrev pub DoesGettime : Gettime → Type 0
  DoesGettime a = OnObject x old new (λ y v w reading. Gettimes y.objects y.timers.about v w id reading (decl_at y.objects id).kind a)

  -- a read into a buffer of so many bytes
  abbrev pub DoesRead : ℕ → ReadAnswer → Type 0
  DoesRead len a = OnObject x old new (λ y v w reading. ReadsFd y.objects y.timers.about v w id len reading a)

  -- an accept of its signal
  abbrev pub DoesAccept : AcceptAnswer → Type 0
  DoesAccept a = OnObject x old new (λ y v w reading. Accepts y.objects y.timers.about v w id reading a)

  -- a sleep with these flags and this time
  abbrev pub DoesSleep : ℕ → TimeSpec → SleepAnswer → Type 0
  DoesSleep flags time a = OnObject x old new (λ y v w reading. Sleeps y.objects y.timers.about v w id flags time reading a)

  -- an interrupt of it
  abbrev pub DoesInterrupt : InterruptAnswer → Type 0
  DoesInterrupt a = OnObject x old new (λ y v w reading. Interrupts y.objects y.timers.about v w id reading a)

  -- whether a descriptor is ready to be read
  abbrev pub DoesReadable : Readable → Type 0
  DoesReadable a = OnObject x old new (λ y v w reading. LooksReadable v w id reading a)

  -- the overrun of the last signal that was accepted
  abbrev pub DoesGetoverrun : Overrun → Type 0
  DoesGetoverrun a = LooksOnObject x old new (λ v w. LooksOverrun v w id a)

  -- how a sleeper is
  abbrev pub DoesSlept : Slept → Type 0
  DoesSlept a = LooksOnObject x old new (λ v w. LooksSlept v w id a)

-- the call took a reading of the clock, and then the next signal by it
pub record DoesNextSignal (x : SystemOf) (old new : HandleOf) (answer : NextSignal) : Type 0 where
  pub keeps : KeepsHandle x old new
  pub mid : HandleOf
  pub reading : ClockReading
  pub reads : DoesNow x old mid reading
  pub log : List Receipt
  pub object_log : List ObjectReceipt
  pub does : TakesNext x.objects x.timers.about (caller mid [] []) (caller new log object_log) mid.signals.knows new.signals.knows reading answer
  pub clock : new.clock ≡ mid.clock
