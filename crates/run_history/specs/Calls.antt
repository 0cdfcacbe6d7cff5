-- The table of calls: for each call and each answer that it may have, what the call then did, and what the answer tells.
use Rattle.std.specs.Prelude.{ℕ, ◌≡◌, ◌≤◌, ◌<◌, Bool, true, false, Some, None, IsSome, List, [], ◌∷◌}
use Rattle.ktime.specs.Clocks.{after_write, greatest}
use Rattle.timer_fd.specs.Steps.{count_length}
use Rattle.posix_timer.specs.States.{setting_of}
use Rattle.timer_fd.specs.States.{is_readable}
use Rattle.sleeper.specs.declared.answers.SleptAnswer.TheVariants as looks
use Rattle.sleeper.specs.declared.sleep.Sleep.{Sleep}
use Rattle.sleeper.specs.States.{is_free}
use Rattle.sleeper.specs.Steps.{slept_answer}
use Rattle.ktime.specs.declared.timespec.TimeSpec.{TimeSpec}
use Rattle.timer_setting.specs.Arguments.{mode_by}
use Rattle.seq_timer.specs.declared.observation.Observation.TheVariants as observations
use Rattle.seq_timer.specs.declared.standing.BaseEvent.TheVariants as shifts
use Rattle.seq_timer.specs.Halves.{running_on}
use Rattle.seq_timer.specs.Standings.{last_standing}
use Rattle.seq_timer.specs.Tables.{IsUnused, in_context, is_armed_on}
use Rattle.script_text.specs.declared.script.Kind.{Kind}
use Rattle.script_text.specs.declared.script.Kind.TheVariants as kinds
use Rattle.script_text.specs.declared.script.Call.{Call}
use Rattle.script_text.specs.declared.script.Call.TheVariants as calls
use Rattle.script_text.specs.declared.script.Script.{Script}
use Rattle.script_text.specs.Declarations.{base_of, kind_of}
use Rattle.record_text.specs.declared.record.Label.{Label}
use Rattle.record_text.specs.declared.record.Answer.{Answer}
use Rattle.record_text.specs.declared.record.Answer.TheVariants as answers
use Rattle.record_text.specs.declared.record.AcceptReply.TheVariants as acceptances
use Rattle.record_text.specs.declared.record.ObjectEntry.TheVariants as object_entries
use Rattle.record_text.specs.declared.record.ReadReply.TheVariants as reads
use Rattle.record_text.specs.declared.record.InterruptReply.{InterruptReply}
use Rattle.record_text.specs.declared.record.InterruptReply.TheVariants as ended
use Rattle.record_text.specs.declared.record.SettimeReply.{SettimeReply}
use Rattle.record_text.specs.declared.record.SettimeReply.TheVariants as settings
use Rattle.record_text.specs.declared.record.SleepReply.{SleepReply}
use Rattle.record_text.specs.declared.record.SleepReply.TheVariants as begun
use Rattle.run_history.specs.Starts.{Sight}
use Rattle.run_history.specs.Actions.{Action, Shifted}
use Rattle.run_history.specs.Histories.{reading_at}
use Rattle.run_history.specs.ObjectCalls.{AreValidFor, IsProperSleep, nanoseconds_of}
use Rattle.run_history.specs.Objects.{fd_after, posix_at, sleeper_after}
use Rattle.run_history.specs.Signals.{SendsSignals}
use Rattle.run_history.specs.Told.{IsOutOfRange}
use Rattle.run_history.specs.Witnesses.{Evacuation, Fired, Witness, standing_along, timer_along}
use Rattle.run_history.specs.Truths.{DisarmedFirst, HadEntries, IsDone, MayGo, NothingTold, RefusedBefore, RanFirst, RanNone}
use Rattle.run_history.specs.Truths.{Saw, SawFull, SawFullOn, SawRefusal, SawStale, SawWaiting, StandsAt, WasFresh}
use Rattle.run_history.specs.Deeds.{Anew, Cancels, Deed, Did, Evacuates, Never, Nothing, Pops, Rearms, Runs, Shifts, Starts, Where, Writes}

-- a call in the one order: its label, its first and its last moment, and what it did
pub record CallSpan : Type 0 where
  pub w : Witness
  pub label : Label
  pub first : ℕ
  pub last : ℕ
  pub actions : List Action

-- a row of the table: what a call did, and what its answer tells of its span
pub record CallRow : Type 1 where
  pub did : Deed
  pub tells : CallSpan → Type 0

-- the call did so, and its answer tells nothing more
abbrev pub only : Deed → CallRow
only did = record { did = did; tells = λ c. NothingTold }

-- the call did nothing, and its answer tells this
abbrev pub told_by_look : (CallSpan → Type 0) → CallRow
told_by_look tells = record { did = Nothing; tells = tells }

-- the call did nothing, since an object's history was full, and this holds besides
abbrev pub full : ℕ → ℕ → Type 0 → CallRow
full timer stamp IsSo = record { did = Where Nothing IsSo; tells = λ c. SawFull c.w timer stamp c.last }

-- a call that arms its timer anew did so, and had disarmed it first
abbrev pub disarmed : ℕ → Deed → CallRow
disarmed timer did = record { did = did; tells = λ c. DisarmedFirst c.w c.label c.first c.last timer c.actions }

-- the same, where its start was refused behind that, just before the object's entry
abbrev pub unarmed : ℕ → ℕ → Deed → CallRow
unarmed timer stamp did = record { did = did; tells = λ c. RefusedBefore c.w c.label c.first c.last c.actions timer stamp }

-- a settime of a reading made an entry with this reply, and an object of this kind takes its arguments
abbrev pub sets : Kind → ℕ → ℕ → ℕ → TimeSpec → TimeSpec → SettimeReply → Deed
sets kind reading timer flags value interval reply =
    Where (Anew timer (Some (record { mode = mode_by flags; ns = nanoseconds_of value }))
    (λ arm. object_entries.Settime flags (nanoseconds_of value) (nanoseconds_of interval) reading arm reply)) (AreValidFor kind flags value interval)

-- a sleep did
abbrev pub slept_deed : ℕ → ℕ → ℕ → TimeSpec → SleepReply → Deed
slept_deed reading timer flags time reply =
    Where (Anew timer (Some (record { mode = mode_by flags; ns = nanoseconds_of time })) (λ arm. object_entries.Sleep flags (nanoseconds_of time) reading arm reply))
    (IsProperSleep flags time)

-- an interrupt did, which starts nothing
abbrev pub interrupts : ℕ → ℕ → InterruptReply → Deed
interrupts reading timer reply = Anew timer None (λ arm. object_entries.Interrupt reading reply)

-- a sleeper was looked at after so many entries, and of its sleep this was so
abbrev pub SawSleep : Script → ℕ → ℕ → (Sleep → Type 0) → CallSpan → Type 0
SawSleep s timer stamp IsSo c = HadEntries c.w timer stamp c.last × IsSo (sleeper_after s c.w.run timer (base_of (kind_of s timer)) stamp).sleep

-- a POSIX timer, whether or not its signals are queued
abbrev pub IsPosix : Kind → Type 0
IsPosix (kinds.Posix base) = Unit
IsPosix (kinds.Queued base) = Unit
IsPosix kind = ⊥

-- a timer descriptor
abbrev pub IsFd : Kind → Type 0
IsFd (kinds.Fd base) = Unit
IsFd kind = ⊥

-- The table, by the script and the call's reading. What an answer tells of timers, bases and objects held at the call's last moment; that a base might go off
-- line held at its first. A settime that cancelled nothing found an idle timer when it had begun its turn; one whose start was refused tells of a moment behind
-- that, and before its object's entry. A write is refused only while the clock may take more of them, and where one of its times would be past the latest; the
-- answer is the greatest of these. That the clock has taken too many writes is never answered. A call for the next signal popped the signal that its answer
-- names, before all else that it did.
abbrev pub call_row : Script → ℕ → Call → Answer → CallRow
call_row s reading (calls.Start timer request) (answers.Started generation on was_armed) = only (Starts timer request generation on was_armed)
call_row s reading (calls.Start timer request) (answers.Spent stamp) = told_by_look (λ c. SawRefusal c.w timer stamp c.last)
call_row s reading (calls.Cancel timer) (answers.Cancelled generation) = only (Cancels timer generation)
call_row s reading (calls.Cancel timer) (answers.Running generation stamp) = told_by_look (λ c. Saw c.w timer stamp (observations.Running generation) c.last)
call_row s reading (calls.Cancel timer) (answers.Idle stamp) = told_by_look (λ c. Saw c.w timer stamp observations.Idle c.last)
call_row s reading (calls.Peek timer) (answers.Peek stamp base enqueued running moving) =
    told_by_look (λ c. Saw c.w timer stamp
    (observations.Peek (record { stamp = stamp; base = base; enqueued = enqueued; running = running; moving = moving })) c.last)
call_row s reading (calls.Expire context base budget) (answers.Done shown timers) =
    record { did = Runs context base shown timers (λ number. number < budget); tells = λ c. IsDone c.w context reading base c.last }
call_row s reading (calls.Expire context base budget) (answers.More shown timers) = only (Runs context base shown timers (λ number. number ≡ budget))
call_row s reading (calls.Expire context base budget) (answers.Busy shown timers timer generation) = record {
  did = Runs context base shown timers (λ number. number < budget);
  tells = λ c. running_on base (in_context context (timer_along c.w c.last) timer) ≡ Some generation;
}
call_row s reading (calls.Clock write) (answers.Clock stamp) = only (Writes stamp write)
call_row s reading (calls.Clock write) (answers.Range would_be) =
    told_by_look (λ c. IsOutOfRange reading would_be (greatest (after_write (reading_at c.w.run.clock reading) write)))
call_row s reading (calls.Settime timer flags value interval) answers.Invalid =
    only (Where Nothing (AreValidFor (kind_of s timer) flags value interval → ⊥))
call_row s reading (calls.Settime timer flags value interval) (answers.Spent stamp) = full timer stamp (AreValidFor (kind_of s timer) flags value interval)
call_row s reading (calls.Settime timer flags value interval) (answers.Old left old) =
    disarmed timer (sets (kind_of s timer) reading timer flags value interval (settings.Old left old))
call_row s reading (calls.Settime timer flags value interval) answers.Canceled =
    disarmed timer (sets (kind_of s timer) reading timer flags value interval settings.Canceled)
call_row s reading (calls.Settime timer flags value interval) (answers.Unarmed stamp) =
    unarmed timer stamp (sets (kind_of s timer) reading timer flags value interval (settings.Unarmed stamp))
call_row s reading (calls.Gettime timer) (answers.LeftAt left interval shown stamp) = record {
  did = Where Nothing (IsPosix (kind_of s timer) × (shown ≡ reading));
  tells = λ c. HadEntries c.w timer stamp c.last
      × (setting_of (posix_at s c.w.run timer (kind_of s timer) stamp) (reading_at c.w.run.clock reading)
      ≡ record { left = left; interval = interval });
}
call_row s reading (calls.Gettime timer) (answers.Left left interval) =
    only (Where (Rearms timer (λ arm. object_entries.Gettime reading arm left interval)) (IsFd (kind_of s timer)))
call_row s reading (calls.Gettime timer) (answers.Spent stamp) = full timer stamp (IsFd (kind_of s timer))
call_row s reading (calls.Accept timer) (answers.Accepted overrun) =
    only (Rearms timer (λ arm. object_entries.Accept reading arm (acceptances.Accepted overrun)))
call_row s reading (calls.Accept timer) answers.NoSignal = only (Rearms timer (λ arm. object_entries.Accept reading arm acceptances.NoSignal))
call_row s reading (calls.Accept timer) (answers.Spent stamp) = told_by_look (λ c. SawFull c.w timer stamp c.last)
call_row s reading (calls.Overrun timer) (answers.Overrun overrun stamp) =
    told_by_look (λ c. HadEntries c.w timer stamp c.last × ((posix_at s c.w.run timer (kind_of s timer) stamp).overrun ≡ overrun))
call_row s reading (calls.Read timer len) answers.Invalid = only (Where Nothing (len < count_length))
call_row s reading (calls.Read timer len) (answers.Spent stamp) = full timer stamp (count_length ≤ len)
call_row s reading (calls.Read timer len) (answers.Count total) =
    only (Where (Rearms timer (λ arm. object_entries.Read reading arm (reads.Count total))) (count_length ≤ len))
call_row s reading (calls.Read timer len) answers.Again =
    only (Where (Rearms timer (λ arm. object_entries.Read reading arm reads.Again)) (count_length ≤ len))
call_row s reading (calls.Read timer len) answers.Canceled =
    only (Where (Rearms timer (λ arm. object_entries.Read reading arm reads.Canceled)) (count_length ≤ len))
call_row s reading (calls.Readable timer) (answers.Readable ready shown stamp) = record {
  did = Where Nothing (shown ≡ reading);
  tells = λ c. HadEntries c.w timer stamp c.last
      × (is_readable (fd_after s c.w.run timer (base_of (kind_of s timer)) stamp) (reading_at c.w.run.clock reading) ≡ ready);
}
call_row s reading (calls.Sleep timer flags time) answers.Invalid = only (Where Nothing (IsProperSleep flags time → ⊥))
call_row s reading (calls.Sleep timer flags time) (answers.Spent stamp) = full timer stamp (IsProperSleep flags time)
call_row s reading (calls.Sleep timer flags time) (answers.Occupied stamp) = record {
  did = Where Nothing (IsProperSleep flags time × (stamp < s.limit));
  tells = SawSleep s timer stamp (λ sleep. is_free sleep ≡ false);
}
call_row s reading (calls.Sleep timer flags time) answers.Slept = disarmed timer (slept_deed reading timer flags time begun.Slept)
call_row s reading (calls.Sleep timer flags time) answers.Asleep = disarmed timer (slept_deed reading timer flags time begun.Asleep)
call_row s reading (calls.Sleep timer flags time) (answers.Unarmed stamp) =
    unarmed timer stamp (slept_deed reading timer flags time (begun.Unarmed stamp))
call_row s reading (calls.Interrupt timer) (answers.Spent stamp) = told_by_look (λ c. SawFull c.w timer stamp c.last)
call_row s reading (calls.Interrupt timer) (answers.Awake stamp) = record {
  did = Where Nothing (stamp < s.limit);
  tells = SawSleep s timer stamp (λ sleep. is_free sleep ≡ true);
}
call_row s reading (calls.Interrupt timer) answers.Slept = disarmed timer (interrupts reading timer ended.Slept)
call_row s reading (calls.Interrupt timer) (answers.SleepLeft ns) = disarmed timer (interrupts reading timer (ended.Left ns))
call_row s reading (calls.Interrupt timer) answers.Interrupted = disarmed timer (interrupts reading timer ended.Interrupted)
call_row s reading (calls.Slept timer) (answers.Sleeping stamp) = told_by_look (SawSleep s timer stamp (λ sleep. slept_answer sleep ≡ looks.Sleeping))
call_row s reading (calls.Slept timer) (answers.SleptAt stamp) = told_by_look (SawSleep s timer stamp (λ sleep. slept_answer sleep ≡ looks.Slept))
call_row s reading (calls.Slept timer) (answers.Awake stamp) = told_by_look (SawSleep s timer stamp (λ sleep. slept_answer sleep ≡ looks.Awake))
call_row s reading calls.Sigwait (answers.Signal timer number overrun) = record {
  did = Where (Pops (record { timer = timer; number = number }) (Rearms timer (λ arm. object_entries.Accept reading arm (acceptances.Accepted overrun))))
      (SendsSignals (kind_of s timer));
  tells = λ c. WasFresh c.w timer (base_of (kind_of s timer)) number c.actions;
}
call_row s reading calls.Sigwait (answers.StaleSignal timer number) = record {
  did = Where (Pops (record { timer = timer; number = number }) Nothing) (SendsSignals (kind_of s timer));
  tells = λ c. SawStale c.w timer (base_of (kind_of s timer)) number c.last;
}
call_row s reading calls.Sigwait (answers.SpentSignal timer number) = record {
  did = Where (Pops (record { timer = timer; number = number }) Nothing) (SendsSignals (kind_of s timer));
  tells = λ c. (stamp : ℕ) × SawFull c.w timer stamp c.last × (number ≤ stamp);
}
call_row s reading calls.Sigwait answers.NoneQueued = told_by_look (λ c. SawWaiting c.w 0 c.last)
call_row s reading (calls.Offline base heir budget) (answers.Offline moved stamp) = record {
  did = Evacuates heir moved (Shifted base stamp (shifts.Offline heir) ∷ []) (λ number. number ≤ budget);
  tells = λ c. MayGo c.w base heir c.first × IsUnused (timer_along c.w c.last) base;
}
call_row s reading (calls.Offline base heir budget) (answers.OfflineBusy moved timer generation) = record {
  did = Evacuates heir moved [] (λ number. number ≤ budget);
  tells = λ c. MayGo c.w base heir c.first × RanFirst c.w base timer generation c.last;
}
call_row s reading (calls.Offline base heir budget) (answers.OfflineMore moved) = record {
  did = Evacuates heir moved [] (λ number. number ≡ budget);
  tells = λ c. MayGo c.w base heir c.first × RanNone c.w base c.last × ((t : ℕ) × (is_armed_on base (timer_along c.w c.last t) ≡ true));
}
call_row s reading (calls.Offline base heir budget) (answers.OfflineSpent moved timer stamp) = record {
  did = Evacuates heir moved [] (λ number. number < budget);
  tells = λ c. MayGo c.w base heir c.first × RanNone c.w base c.last × SawFullOn c.w base timer stamp c.last;
}
call_row s reading (calls.Offline base heir budget) (answers.Already stamp) =
    told_by_look (λ c. StandsAt c.w base stamp c.last × IsSome (standing_along c.w c.last base).heir)
call_row s reading (calls.Offline base heir budget) (answers.HeirOffline stamp) =
    told_by_look (λ c. StandsAt c.w heir stamp c.last × IsSome (standing_along c.w c.last heir).heir × ((standing_along c.w c.last base).heir ≡ None))
call_row s reading (calls.Offline base heir budget) (answers.BaseSpent stamp) =
    told_by_look (λ c. StandsAt c.w base stamp c.last × ((standing_along c.w c.last base).heir ≡ None) × (last_standing ≤ stamp)
    × ((standing_along c.w c.last heir).heir ≡ None))
call_row s reading (calls.Online base) (answers.Online stamp) = only (Shifts base stamp shifts.Online)
call_row s reading (calls.Online base) (answers.Already stamp) =
    told_by_look (λ c. StandsAt c.w base stamp c.last × ((standing_along c.w c.last base).heir ≡ None))
call_row s reading call answer = only Never

-- whether a call reads the clock
abbrev pub reads_clock : Call → Bool
reads_clock (calls.Cancel timer) = false
reads_clock (calls.Peek timer) = false
reads_clock (calls.Overrun timer) = false
reads_clock (calls.Slept timer) = false
reads_clock (calls.Online base) = false
reads_clock call = true

-- ---- what the rows say

-- what a call did is what its arguments and its answer say, by what it saw of bases off line
abbrev pub Does : Sight → Script → ℕ → Call → Answer → List Fired → List Evacuation → List Action → Type 0
Does sight s reading call answer fired moved actions = Did sight s reading (call_row s reading call answer).did fired moved actions

-- what its answer tells is so
abbrev pub AnswerHolds : Witness → ℕ → ℕ → Label → ℕ → List Action → Call → Answer → Type 0
AnswerHolds w first last c reading actions call answer =
    (call_row w.script reading call answer).tells (record { w = w; label = c; first = first; last = last; actions = actions })
