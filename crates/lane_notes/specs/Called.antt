-- What each call of a lane does and answers: what its passes know before and after it, and what it notes.
use Rattle.std.specs.Prelude.{ℕ, ◌≡◌, ◌≤◌, ◌<◌, Bool, true, false, List, [], ◌∷◌, ◌++◌, length, MatchBool, Result, Ok, Err}
use Rattle.ktime.specs.Readings.{ClockReading}
use Rattle.ktime.specs.declared.write.ClockFault.TheVariants as faults
use Rattle.ktime.specs.declared.write.Write.{Write}
use Rattle.clock_cell.specs.Views.{AnswersWrite, seen_reading, writes}
use Rattle.pass_names.specs.Passes.{Looks}
use Rattle.pass_names.specs.SharedHistory.{LooksOn}
use Rattle.ordered_clock.specs.Moments.{HasPlace, ReadsAt}
use Rattle.run_history.specs.Calls.{reads_clock}
use Rattle.seq_timer.specs.declared.event.EventBy.TheVariants as events
use Rattle.seq_timer.specs.Events.{Asked, Event}
use Rattle.seq_timer.specs.Calls.{asked_for}
use Rattle.seq_timer.specs.declared.answer.CancelAnswer.{CancelAnswer}
use Rattle.seq_timer.specs.declared.answer.CancelAnswer.TheVariants as cancels
use Rattle.hr_timers.specs.declared.answer.OfflineAnswer.{OfflineAnswer}
use Rattle.hr_timers.specs.declared.answer.OfflineAnswer.TheVariants as offs
use Rattle.hr_timers.specs.declared.answer.OnlineAnswer.{OnlineAnswer}
use Rattle.hr_timers.specs.declared.answer.OnlineAnswer.TheVariants as ons
use Rattle.hr_timers.specs.Moves.{OfflineFits, OnlineFits}
use Rattle.seq_timer.specs.declared.standing.BaseEvent.{BaseEvent}
use Rattle.seq_timer.specs.declared.standing.BaseEvent.TheVariants as shifts
use Rattle.hr_timers.specs.declared.answer.StartAnswer.{StartAnswer}
use Rattle.hr_timers.specs.declared.answer.StartAnswer.TheVariants as starts
use Rattle.base_row.specs.Logs.{LogOf, kept, receipts_of}
use Rattle.hr_timers.specs.Known.{IsEvacuable, timer_then}
use Rattle.hr_timers.specs.Calls.{Cancels, Peeks, StartsTimer, cancel_entries, start_entries}
use Rattle.hr_timers.specs.declared.expiry.ExpireAnswer.{ExpireAnswer}
use Rattle.hr_timers.specs.declared.expiry.ExpireAnswer.TheVariants as expiries
use Rattle.base_row.specs.declared.log.Receipt.{Receipt}
use Rattle.timer_objects.specs.declared.log.ObjectReceipt.{ObjectReceipt}
use Rattle.timer_objects.specs.Calls.{HasSetting, Accepts, Caller, IsPosixKind, Gettimes, Interrupts, LooksOverrun, LooksReadable, LooksSlept, ReadsFd, Settimes, Sleeps}
use Rattle.record_text.specs.declared.record.Answer.{Answer}
use Rattle.record_text.specs.declared.record.Answer.TheVariants as answers
use Rattle.record_text.specs.declared.record.Label.{Label}
use Rattle.seq_timer.specs.declared.observation.Peek.{Peek}
use Rattle.ktime.specs.declared.write.ClockFault.{ClockFault}
use Rattle.timer_setting.specs.declared.answers.AcceptAnswer.{AcceptAnswer}
use Rattle.timer_setting.specs.declared.answers.AcceptAnswer.TheVariants as acceptances
use Rattle.timer_setting.specs.declared.answers.ReadAnswer.{ReadAnswer}
use Rattle.timer_setting.specs.declared.answers.ReadAnswer.TheVariants as reads
use Rattle.timer_setting.specs.declared.answers.SettimeAnswer.{SettimeAnswer}
use Rattle.timer_setting.specs.declared.answers.SettimeAnswer.TheVariants as settings
use Rattle.timer_setting.specs.declared.answers.InterruptAnswer.{InterruptAnswer}
use Rattle.timer_setting.specs.declared.answers.InterruptAnswer.TheVariants as interrupts
use Rattle.timer_setting.specs.declared.answers.SleepAnswer.{SleepAnswer}
use Rattle.timer_setting.specs.declared.answers.SleepAnswer.TheVariants as sleeps
use Rattle.sleeper.specs.declared.answers.SleptAnswer.{SleptAnswer}
use Rattle.sleeper.specs.declared.answers.SleptAnswer.TheVariants as looks
use Rattle.timer_objects.specs.declared.answers.Slept.{Slept}
use Rattle.timer_objects.specs.declared.answers.Gettime.{Gettime}
use Rattle.timer_objects.specs.declared.answers.Gettime.TheVariants as gettimes
use Rattle.timer_objects.specs.declared.answers.Overrun.{Overrun}
use Rattle.timer_objects.specs.declared.answers.Readable.{Readable}
use Rattle.timer_objects.specs.declared.object.Kind.{Kind}
use Rattle.timer_objects.specs.declared.object.Kind.TheVariants as over
use Rattle.timer_objects.specs.Known.{decl_at}
use Rattle.signal_queue.specs.Views.{KnowsQueue}
use Rattle.timer_objects.specs.Signals.{IsSignalPass, TakesNext}
use Rattle.timer_objects.specs.declared.signals.NextSignal.{NextSignal}
use Rattle.timer_objects.specs.declared.signals.NextSignal.TheVariants as nexts
use Rattle.record_text.specs.declared.record.ClockLine.{ClockLine}
use Rattle.script_text.specs.Declarations.{asked_slack}
use Rattle.script_text.specs.CallLines.{most_budget}
use Rattle.script_text.specs.declared.script.StartRequest.{StartRequest}
use Rattle.seq_timer.specs.declared.context.Context.{Context}
use Rattle.run_history.specs.Actions.{also}
use Rattle.script_text.specs.declared.script.Call.{Call}
use Rattle.script_text.specs.declared.script.Call.TheVariants as calls
use Rattle.lane_notes.specs.Notes.{NotesOf, with_base_note, with_write_note}
use Rattle.lane_notes.specs.Entries.{with_receipts}
use Rattle.lane_notes.specs.Objects.{with_object_receipts}
use Rattle.lane_notes.specs.Expiries.{RunsGated}
use Rattle.lane_notes.specs.Worlds.{ArePassesOf, KeepPasses, WorldOf}
use Rattle.lane_notes.specs.declared.lane.Lane.{Lane}
use Rattle.lane_notes.specs.declared.lane.WorldPass.{WorldPass}

-- what calls change of a lane: its passes and its notes. The label is that of the next call.
pub record LaneOf : Type 0 where
  pub label : Label
  pub pass : WorldPass
  pub notes : NotesOf

abbrev pub lane_of : Lane → LaneOf
lane_of l = record { label = l.label; pass = l.pass; notes = l.notes }

-- ---- what all calls share

-- a call leaves its lane's passes of this world, under their names, and the lane's label and answers as they were
pub record LeavesLane (x : WorldOf) (old new : Lane) : Type 0 where
  pub pass : ArePassesOf x new.pass
  pub keeps : KeepPasses old.pass new.pass
  pub label : new.label ≡ old.label
  pub answers : new.answers ≡ old.answers
  pub wants : new.wants_memory ≡ old.wants_memory

-- a note of a call leaves the rest of its lane as it was
abbrev pub LeavesRest : Lane → Lane → Type 0
LeavesRest old new = (new.label ≡ old.label) × (new.answers ≡ old.answers) × (new.wants_memory ≡ old.wants_memory) × (new.pass ≡ old.pass)

-- notes of what one call did: its entries and looks, its entries of objects and its skips
abbrev pub with_done : NotesOf → Label → List Receipt → List ObjectReceipt → NotesOf
with_done notes label log object_log = with_object_receipts (with_receipts notes label log) label object_log

-- the clock was left alone
abbrev pub LeavesClock : WorldPass → WorldPass → Type 0
LeavesClock p q = q.clock ≡ p.clock

-- and so was the queue of signals
abbrev pub LeavesSignals : WorldPass → WorldPass → Type 0
LeavesSignals p q = q.signals ≡ p.signals

-- the clock was left alone, of which this is the reading that the passes have seen
pub record ReadsClock (p q : WorldPass) (r : ClockReading) : Type 0 where
  pub same : LeavesClock p q
  pub shows : r ≡ seen_reading q.clock.knows
  pub count : r.stamp ≡ length (writes q.clock.knows)

-- The clock was read, at a moment among the entries of timers: the lane has seen more of both, and all else is as it was.
pub record ReadsFirst (l m : LaneOf) : Type 0 where
  pub label : m.label ≡ l.label
  pub notes : m.notes ≡ l.notes
  pub objects : m.pass.objects ≡ l.pass.objects
  pub signals : LeavesSignals l.pass m.pass
  pub timers : LooksOn l.pass.timers.known m.pass.timers.known
  pub clock : Looks l.pass.clock.knows.pass m.pass.clock.knows.pass
  pub moment : ReadsAt l.pass.timers.known.seen m.pass.timers.known.seen (length (writes m.pass.clock.knows))

-- what the lane's passes know, with these logs of a call
abbrev pub lane_caller : WorldPass → List Receipt → List ObjectReceipt → Caller
lane_caller p log object_log = record { timers = p.timers.known; objects = p.objects; log = log; object_log = object_log }

-- ---- timers by themselves

-- what a start answers
abbrev pub start_told : StartAnswer → Answer
start_told (starts.Started was_armed generation asked outs placement) = answers.Started generation placement.base was_armed
start_told (starts.Spent stamp) = answers.Spent stamp

-- what a cancel answers
abbrev pub cancel_told : CancelAnswer → Answer
cancel_told (cancels.Idle stamp) = answers.Idle stamp
cancel_told (cancels.Cancelled generation number) = answers.Cancelled generation
cancel_told (cancels.Running generation stamp) = answers.Running generation stamp

-- the answer of a write
abbrev pub write_told : Result ClockReading ClockFault → Answer
write_told (Ok reading) = answers.Clock reading.stamp
write_told (Err (faults.ClockRange would_be)) = answers.Range would_be
write_told (Err faults.ClockSpent) = answers.ClockSpent

-- the line of a write that the clock took
abbrev pub written_line : Label → Write → ClockReading → ClockLine
written_line label write r = record { label = label; write = write; mono = r.mono; real = r.real; boot = r.boot; changes = r.changes }

abbrev pub with_write_told : NotesOf → Label → Write → Result ClockReading ClockFault → NotesOf
with_write_told notes label write (Ok reading) = with_write_note notes reading.stamp (written_line label write reading)
with_write_told notes label write (Err fault) = notes

-- ---- expiry runs

-- whether an event is a claim
abbrev pub is_claim_event : Event → Bool
is_claim_event (events.Claim base reading) = true
is_claim_event event = false

-- the timers that were claimed, in the order of their claims
abbrev pub claimed_in : List Receipt → List ℕ
claimed_in [] = []
claimed_in (r ∷ rs) = also (is_claim_event r.event) r.timer (claimed_in rs)

abbrev pub expire_told : ℕ → List ℕ → ExpireAnswer → Answer
expire_told reading fired (expiries.More count) = answers.More reading fired
expire_told reading fired (expiries.Done count) = answers.Done reading fired
expire_told reading fired (expiries.BaseBusy count timer generation) = answers.Busy reading fired timer generation

-- ---- objects

abbrev pub settime_told : SettimeAnswer → Answer
settime_told (settings.Old left interval) = answers.Old left interval
settime_told (settings.Spent stamp) = answers.Spent stamp
settime_told (settings.Unarmed stamp) = answers.Unarmed stamp
settime_told settings.Canceled = answers.Canceled
settime_told refused = answers.Invalid

abbrev pub sleep_told : SleepAnswer → Answer
sleep_told sleeps.Slept = answers.Slept
sleep_told sleeps.Asleep = answers.Asleep
sleep_told (sleeps.Unarmed stamp) = answers.Unarmed stamp
sleep_told (sleeps.Spent stamp) = answers.Spent stamp
sleep_told (sleeps.Occupied stamp) = answers.Occupied stamp
sleep_told refused = answers.Invalid

abbrev pub interrupt_told : InterruptAnswer → Answer
interrupt_told interrupts.Slept = answers.Slept
interrupt_told (interrupts.Left ns) = answers.SleepLeft ns
interrupt_told interrupts.Interrupted = answers.Interrupted
interrupt_told (interrupts.Spent stamp) = answers.Spent stamp
interrupt_told (interrupts.Awake stamp) = answers.Awake stamp

abbrev pub slept_told : SleptAnswer → ℕ → Answer
slept_told looks.Sleeping stamp = answers.Sleeping stamp
slept_told looks.Slept stamp = answers.SleptAt stamp
slept_told looks.Awake stamp = answers.Awake stamp

abbrev pub gettime_told : Kind → ℕ → Gettime → Answer
gettime_told kind reading (gettimes.Spent stamp) = answers.Spent stamp
gettime_told over.Fd reading (gettimes.Left left interval stamp) = answers.Left left interval
gettime_told kind reading (gettimes.Left left interval stamp) = answers.LeftAt left interval reading stamp

abbrev pub accept_told : AcceptAnswer → Answer
accept_told (acceptances.Accepted overrun) = answers.Accepted overrun
accept_told acceptances.NoSignal = answers.NoSignal
accept_told (acceptances.Spent stamp) = answers.Spent stamp

abbrev pub read_told : ReadAnswer → Answer
read_told (reads.Count total) = answers.Count total
read_told reads.ShortBuffer = answers.Invalid
read_told (reads.Spent stamp) = answers.Spent stamp
read_told reads.Canceled = answers.Canceled
read_told reads.Again = answers.Again

-- ---- signals

abbrev pub next_told : NextSignal → Answer
next_told nexts.NoneQueued = answers.NoneQueued
next_told (nexts.Spent timer number stamp) = answers.SpentSignal timer number
next_told (nexts.Stale timer number) = answers.StaleSignal timer number
next_told (nexts.Accepted timer number overrun) = answers.Signal timer number overrun

-- ---- bases

-- what taking a base off line answers
abbrev pub offline_told : OfflineAnswer → Answer
offline_told (offs.AlreadyOffline stamp) = answers.Already stamp
offline_told (offs.HeirOffline stamp) = answers.HeirOffline stamp
offline_told (offs.BaseSpent stamp) = answers.BaseSpent stamp
offline_told (offs.Busy moved timer generation) = answers.OfflineBusy moved timer generation
offline_told (offs.Offline moved stamp) = answers.Offline moved stamp
offline_told (offs.More moved) = answers.OfflineMore moved
offline_told (offs.Spent moved timer stamp) = answers.OfflineSpent moved timer stamp

-- what bringing it on line again answers
abbrev pub online_told : OnlineAnswer → Answer
online_told (ons.Online stamp) = answers.Online stamp
online_told (ons.AlreadyOnline stamp) = answers.Already stamp

-- one more entry of a base is noted
abbrev pub with_shift : NotesOf → Label → ℕ → ℕ → BaseEvent → NotesOf
with_shift notes label base number event = with_base_note notes (record { label = label; base = base; number = number; event = event })

-- that of a base that went off line, where it did
abbrev pub with_offline_told : NotesOf → Label → ℕ → ℕ → OfflineAnswer → NotesOf
with_offline_told notes label base heir (offs.Offline moved stamp) = with_shift notes label base stamp (shifts.Offline heir)
with_offline_told notes label base heir answer = notes

-- and of one that came on line
abbrev pub with_online_told : NotesOf → Label → ℕ → OnlineAnswer → NotesOf
with_online_told notes label base (ons.Online stamp) = with_shift notes label base stamp shifts.Online
with_online_told notes label base (ons.AlreadyOnline stamp) = notes

-- ---- the calls

-- what the request of a start line asks for, by a reading
abbrev pub asked_in : StartRequest → ClockReading → Asked
asked_in request reading = asked_for request.mode request.ns (asked_slack request) request.base reading

-- a look at a timer found this
pub record LooksAtTimer (x : WorldOf) (l m : LaneOf) (timer : ℕ) (seen : Peek) : Type 0 where
  pub clock : LeavesClock l.pass m.pass
  pub peeks : Peeks x.timers.about l.pass.timers.known m.pass.timers.known timer seen
  pub objects : m.pass.objects ≡ l.pass.objects
  pub signals : LeavesSignals l.pass m.pass
  pub notes : m.notes ≡ l.notes

module _ (x : WorldOf) (l m : LaneOf) (a : Answer) where
  pub record CallsStart (timer : ℕ) (request : StartRequest) : Type 0 where
    pub reading : ClockReading
    pub reads : ReadsClock l.pass m.pass reading
    pub answer : StartAnswer
    pub starts : StartsTimer x.timers.about l.pass.timers.known m.pass.timers.known timer (asked_in request reading) answer
    pub objects : m.pass.objects ≡ l.pass.objects
    pub signals : LeavesSignals l.pass m.pass
    pub notes : let t = timer_then x.timers.about starts.at timer in
        m.notes ≡ with_done l.notes l.label (receipts_of timer t.stamp (start_entries t (asked_in request reading) starts.sent starts.last answer)) []
    pub told : a ≡ start_told answer

  pub record CallsCancel (timer : ℕ) : Type 0 where
    pub clock : LeavesClock l.pass m.pass
    pub answer : CancelAnswer
    pub cancels : Cancels x.timers.about l.pass.timers.known m.pass.timers.known timer answer
    pub objects : m.pass.objects ≡ l.pass.objects
    pub signals : LeavesSignals l.pass m.pass
    pub notes : m.notes ≡ with_done l.notes l.label (receipts_of timer (timer_then x.timers.about cancels.at timer).stamp (cancel_entries answer)) []
    pub told : a ≡ cancel_told answer

  -- ---- the clock

  pub record CallsWrite (write : Write) : Type 0 where
    pub answer : Result ClockReading ClockFault
    pub writes : AnswersWrite write l.pass.clock.knows m.pass.clock.knows answer
    pub places : HasPlace l.pass.timers.known m.pass.timers.known m.pass.clock.knows answer
    pub timers : LooksOn l.pass.timers.known m.pass.timers.known
    pub objects : m.pass.objects ≡ l.pass.objects
    pub signals : LeavesSignals l.pass m.pass
    pub notes : m.notes ≡ with_write_told l.notes l.label write answer
    pub told : a ≡ write_told answer

  -- ---- expiry runs

  pub record CallsExpire (context : Context) (base budget : ℕ) : Type 0 where
    pub reading : ClockReading
    pub reads : ReadsClock l.pass m.pass reading
    pub log : List Receipt
    pub callback_log : List Receipt
    pub object_log : List ObjectReceipt
    pub answer : ExpireAnswer
    pub runs : RunsGated x l.pass m.pass context base budget reading log callback_log object_log answer
    pub notes : m.notes ≡ with_done l.notes l.label (log ++ callback_log) object_log
    pub told : a ≡ expire_told reading.stamp (claimed_in log) answer

  -- ---- bases

  -- a base is taken off line by the first pass and one reading, and its timers are moved to the heir, at most so many; the log has the receipts of the moves
  pub record CallsOffline (base heir budget : ℕ) : Type 0 where
    pub first : l.pass.timers.known.id.name ≡ []
    pub reading : ClockReading
    pub reads : ReadsClock l.pass m.pass reading
    pub fresh : LogOf Receipt
    pub log : LogOf Receipt
    pub empty : fresh.receipts ≡ []
    pub answer : OfflineAnswer
    pub takes : OfflineFits kept x.timers.about base heir reading l.pass.timers.known m.pass.timers.known budget answer fresh log
    pub objects : m.pass.objects ≡ l.pass.objects
    pub signals : LeavesSignals l.pass m.pass
    pub notes : m.notes ≡ with_offline_told (with_done l.notes l.label log.receipts []) l.label base heir answer
    pub told : a ≡ offline_told answer

  pub record CallsOnline (base : ℕ) : Type 0 where
    pub first : l.pass.timers.known.id.name ≡ []
    pub clock : LeavesClock l.pass m.pass
    pub answer : OnlineAnswer
    pub takes : OnlineFits x.timers.about l.pass.timers.known m.pass.timers.known base answer
    pub objects : m.pass.objects ≡ l.pass.objects
    pub signals : LeavesSignals l.pass m.pass
    pub notes : m.notes ≡ with_online_told l.notes l.label base answer
    pub told : a ≡ online_told answer

  -- ---- objects

  -- a call on an object, by what the lane's passes know before and after it
  pub record CallsObject (Does : Caller → Caller → ClockReading → Type 0) : Type 0 where
    pub reading : ClockReading
    pub reads : ReadsClock l.pass m.pass reading
    pub log : List Receipt
    pub object_log : List ObjectReceipt
    pub does : Does (lane_caller l.pass [] []) (lane_caller m.pass log object_log) reading
    pub signals : LeavesSignals l.pass m.pass
    pub notes : m.notes ≡ with_done l.notes l.label log object_log

  -- a look at an object that takes no reading
  pub record CallsLook (Looks : Caller → Caller → Type 0) (told : Answer) : Type 0 where
    pub clock : LeavesClock l.pass m.pass
    pub looks : Looks (lane_caller l.pass [] []) (lane_caller m.pass [] [])
    pub signals : LeavesSignals l.pass m.pass
    pub notes : m.notes ≡ l.notes
    pub tells : a ≡ told

  -- ---- signals

  -- the next signal was taken
  pub record CallsSigwait : Type 0 where
    pub of : IsSignalPass x.objects l.pass.signals
    pub knows : KnowsQueue m.pass.signals.knows
    pub reading : ClockReading
    pub reads : ReadsClock l.pass m.pass reading
    pub log : List Receipt
    pub object_log : List ObjectReceipt
    pub next : NextSignal
    pub takes : TakesNext x.objects x.timers.about (lane_caller l.pass [] []) (lane_caller m.pass log object_log)
        l.pass.signals.knows m.pass.signals.knows reading next
    pub notes : m.notes ≡ with_done l.notes l.label log object_log
    pub told : a ≡ next_told next

-- ---- each call

-- there is an object of this number, and it has a setting
abbrev pub IsSettable : WorldOf → ℕ → Type 0
IsSettable x id = (id < length x.objects.decls) × HasSetting (decl_at x.objects id).kind

-- there is a POSIX timer of this number, whether or not its signals are queued
abbrev pub IsPosixTimer : WorldOf → ℕ → Type 0
IsPosixTimer x id = (id < length x.objects.decls) × IsPosixKind (decl_at x.objects id).kind

-- there is an object of this number and kind
abbrev pub IsOfKind : WorldOf → Kind → ℕ → Type 0
IsOfKind x kind id = (id < length x.objects.decls) × ((decl_at x.objects id).kind ≡ kind)

-- the lane's call is of a timer, an object and a base that are there, and of the object's kind; only the first lane takes a base off line and on line
-- again, where bases may go off line at all
abbrev pub CanCall : WorldOf → ℕ → Call → Type 0
CanCall x lane (calls.Start timer request) = (timer < length x.timers.about.timers) × (request.base < x.timers.about.bases)
CanCall x lane (calls.Cancel timer) = timer < length x.timers.about.timers
CanCall x lane (calls.Peek timer) = timer < length x.timers.about.timers
CanCall x lane (calls.Expire context base budget) = (base < x.timers.about.bases) × (budget ≤ most_budget)
CanCall x lane (calls.Clock write) = Unit
CanCall x lane (calls.Settime timer flags value interval) = IsSettable x timer
CanCall x lane (calls.Gettime timer) = IsSettable x timer
CanCall x lane (calls.Accept timer) = IsPosixTimer x timer
CanCall x lane (calls.Overrun timer) = IsPosixTimer x timer
CanCall x lane (calls.Read timer len) = IsOfKind x over.Fd timer
CanCall x lane (calls.Readable timer) = IsOfKind x over.Fd timer
CanCall x lane (calls.Sleep timer flags time) = IsOfKind x over.Sleeper timer
CanCall x lane (calls.Interrupt timer) = IsOfKind x over.Sleeper timer
CanCall x lane (calls.Slept timer) = IsOfKind x over.Sleeper timer
CanCall x lane calls.Sigwait = Unit
CanCall x lane (calls.Offline base heir budget) =
    (lane ≡ 0) × (base < x.timers.about.bases) × (heir < base) × (budget ≤ most_budget) × IsEvacuable x.timers.about
CanCall x lane (calls.Online base) = (lane ≡ 0) × (base < x.timers.about.bases) × IsEvacuable x.timers.about

-- what a call does and answers, by a reading that was taken where it takes one
abbrev pub CalledThen : WorldOf → LaneOf → Call → Answer → LaneOf → Type 0
CalledThen x l (calls.Start timer request) a m = CallsStart x l m a timer request
CalledThen x l (calls.Cancel timer) a m = CallsCancel x l m a timer
CalledThen x l (calls.Peek timer) a m =
    (seen : Peek) × LooksAtTimer x l m timer seen × (a ≡ answers.Peek seen.stamp seen.base seen.enqueued seen.running seen.moving)
CalledThen x l (calls.Expire context base budget) a m = CallsExpire x l m a context base budget
CalledThen x l (calls.Clock write) a m = ⊥
CalledThen x l (calls.Settime timer flags value interval) a m =
    (s : SettimeAnswer) × (a ≡ settime_told s)
    × CallsObject x l m a (λ old new reading. Settimes x.objects x.timers.about old new timer flags value interval reading s)
CalledThen x l (calls.Gettime timer) a m =
    (g : Gettime) × CallsObject x l m a (λ old new reading.
    Gettimes x.objects x.timers.about old new timer reading (decl_at x.objects timer).kind g
    × (a ≡ gettime_told (decl_at x.objects timer).kind reading.stamp g))
CalledThen x l (calls.Accept timer) a m =
    (s : AcceptAnswer) × (a ≡ accept_told s)
    × CallsObject x l m a (λ old new reading. Accepts x.objects x.timers.about old new timer reading s)
CalledThen x l (calls.Overrun timer) a m =
    (found : Overrun) × CallsLook x l m a (λ old new. LooksOverrun old new timer found) (answers.Overrun found.overrun found.stamp)
CalledThen x l (calls.Read timer len) a m =
    (s : ReadAnswer) × (a ≡ read_told s)
    × CallsObject x l m a (λ old new reading. ReadsFd x.objects x.timers.about old new timer len reading s)
CalledThen x l (calls.Readable timer) a m =
    (found : Readable) × CallsObject x l m a (λ old new reading.
    LooksReadable old new timer reading found × (a ≡ answers.Readable found.ready reading.stamp found.stamp))
CalledThen x l (calls.Sleep timer flags time) a m =
    (s : SleepAnswer) × (a ≡ sleep_told s)
    × CallsObject x l m a (λ old new reading. Sleeps x.objects x.timers.about old new timer flags time reading s)
CalledThen x l (calls.Interrupt timer) a m =
    (s : InterruptAnswer) × (a ≡ interrupt_told s)
    × CallsObject x l m a (λ old new reading. Interrupts x.objects x.timers.about old new timer reading s)
CalledThen x l (calls.Slept timer) a m =
    (found : Slept) × CallsLook x l m a (λ old new. LooksSlept old new timer found) (slept_told found.answer found.stamp)
CalledThen x l calls.Sigwait a m = CallsSigwait x l m a
CalledThen x l (calls.Offline base heir budget) a m = CallsOffline x l m a base heir budget
CalledThen x l (calls.Online base) a m = CallsOnline x l m a base

-- the call reads the clock, and only then does something
abbrev pub ReadsClockFirst : Call → Type 0
ReadsClockFirst (calls.Clock write) = ⊥
ReadsClockFirst call = reads_clock call ≡ true

-- a call that begins with a reading
pub record CallsReading (x : WorldOf) (l m : LaneOf) (call : Call) (a : Answer) : Type 0 where
  pub begun : LaneOf
  pub reads : ReadsFirst l begun
  pub called : CalledThen x begun call a m

-- what a call does and answers
abbrev pub Called : WorldOf → LaneOf → Call → Answer → LaneOf → Type 0
Called x l (calls.Clock write) a m = CallsWrite x l m a write
Called x l call a m = MatchBool (reads_clock call) (CallsReading x l m call a) (CalledThen x l call a m)
