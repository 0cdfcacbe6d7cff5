-- What each call answers, and which entries it makes, in the one history of all timers. A clause names the moment of the call, `at`, as the list of
-- all entries so far; what the call answers is a function of the timer at that moment.
use Rattle.std.specs.Prelude.{ℕ, ◌≡◌, ◌≢◌, ◌+◌, ◌≤◌, ◌<◌, ◌⊎◌, Bool, true, false, List, [], ◌∷◌, ◌++◌, length, Some, None, is_some}
use Rattle.ktime.specs.Readings.{ClockReading}
use Rattle.pass_names.specs.Counts.{without_first}
use Rattle.pass_names.specs.Passes.{Begins}
use Rattle.pass_names.specs.SharedHistory.{LooksOn}
use Rattle.seq_timer.specs.Events.{Asked, Event}
use Rattle.seq_timer.specs.declared.event.EventBy.TheVariants as events
use Rattle.seq_timer.specs.declared.event.Reply.TheVariants as replies
use Rattle.seq_timer.specs.declared.observation.Peek.{Peek}
use Rattle.seq_timer.specs.Steps.{Timer, placement_of, reply_to, rearmed_by}
use Rattle.ktime.specs.declared.clock_id.ClockId.{ClockId}
use Rattle.seq_timer.specs.declared.context.Context.{Context}
use Rattle.seq_timer.specs.Tables.{IsNextDue, IsStopped, in_context, runs_on}
use Rattle.seq_timer.specs.Halves.{running_on}
use Rattle.seq_timer.specs.Histories as seq
use Rattle.seq_timer.specs.declared.answer.CancelAnswer.{CancelAnswer}
use Rattle.seq_timer.specs.declared.answer.CancelAnswer.TheVariants as cancels
use Rattle.seq_timer.specs.declared.answer.ForwardAnswer.{ForwardAnswer}
use Rattle.seq_timer.specs.declared.answer.ForwardAnswer.TheVariants as forwards
use Rattle.seq_timer.specs.declared.answer.Finished.{Finished}
use Rattle.seq_timer.specs.Calls.{forwarded_as, step_all, entries_along}
use Rattle.seq_timer.specs.declared.system.SystemEntry.{SystemEntry}
use Rattle.base_row.specs.declared.view.Opening.{Opening}
use Rattle.base_row.specs.Rules.{is_base_claim}
use Rattle.seq_timer.specs.Systems.{next_on, system_after}
use Rattle.hr_timers.specs.declared.answer.ClaimAnswer.{ClaimAnswer}
use Rattle.hr_timers.specs.declared.answer.ClaimAnswer.TheVariants as claimings
use Rattle.hr_timers.specs.declared.answer.NowAnswer.{NowAnswer}
use Rattle.hr_timers.specs.declared.answer.NowAnswer.TheVariants as nows
use Rattle.hr_timers.specs.declared.answer.StartAnswer.{StartAnswer}
use Rattle.hr_timers.specs.declared.answer.StartAnswer.TheVariants as starts
use Rattle.hr_timers.specs.declared.numbers.ClaimNumbers.{ClaimNumbers}
use Rattle.hr_timers.specs.Ways.{IsSentBy, bits_of, start_on}
use Rattle.hr_timers.specs.Known.{KnownOfTimers, PassOf, MadeAt, HasMissed, claimed_as, count_of, timer_then}

-- the entry of an event, as it stands in its timer's history
abbrev pub entry_by : Timer → Event → seq.Entry
entry_by t event = record { event = event; reply = reply_to t event }

-- ---- peek

pub record Peeks (o : Opening) (v w : KnownOfTimers) (t : ℕ) (p : Peek) : Type 0 where
  pub at : List SystemEntry
  pub made : MadeAt v w t at []
  pub fits : p ≡ seq.peek_of (timer_then o at t)
  pub claims : w.claims ≡ v.claims

-- ---- start

-- what a start answers, of the timer before and after it, the bases that it was sent to, and the base that it asked for last
abbrev pub start_answer : Timer → Timer → List ℕ → ℕ → StartAnswer
start_answer t now sent last = starts.Started (is_some t.armed) now.stamp last (bits_of sent) (placement_of now)

abbrev pub start_entries : Timer → Asked → List ℕ → ℕ → StartAnswer → List seq.Entry
start_entries t asked sent last (starts.Started was_armed generation base outs placement) = entries_along t (start_on asked sent last)
start_entries t asked sent last (starts.Spent n) = []

-- the answer for this timer
abbrev pub StartFits : Timer → Asked → List ℕ → ℕ → StartAnswer → Type 0
StartFits t asked sent last (starts.Started was_armed generation base outs placement) =
    (t.moving ≡ false) × (t.stamp < t.terms.limit)
    × (starts.Started was_armed generation base outs placement ≡ start_answer t (step_all t (start_on asked sent last)) sent last)
StartFits t asked sent last (starts.Spent n) = (t.moving ≡ false) × (t.terms.limit ≤ t.stamp) × (n ≡ t.stamp)

pub record StartsTimer (o : Opening) (v w : KnownOfTimers) (t : ℕ) (asked : Asked) (a : StartAnswer) : Type 0 where
  pub at : List SystemEntry
  -- the bases that the timer was sent to in turn, and the one that the start asked for last
  pub sent : List ℕ
  pub last : ℕ
  pub on_way : IsSentBy o w.seen t v.seen (timer_then o at t).stamp asked.base sent last
  pub made : MadeAt v w t at (start_entries (timer_then o at t) asked sent last a)
  pub fits : StartFits (timer_then o at t) asked sent last a
  pub claims : w.claims ≡ v.claims

-- ---- try_to_cancel

abbrev pub cancel_entries : CancelAnswer → List seq.Entry
cancel_entries (cancels.Idle n) = []
cancel_entries (cancels.Cancelled g n) = record { event = events.Cancel; reply = replies.Cancel g } ∷ []
cancel_entries (cancels.Running g n) = []

-- the answer for this timer
abbrev pub CancelFits : Timer → CancelAnswer → Type 0
CancelFits t (cancels.Idle n) = seq.IsIdle t × (n ≡ t.stamp)
CancelFits t (cancels.Cancelled g n) = (t.armed ≡ Some g) × (t.running ≡ None) × (t.moving ≡ false) × (n ≡ t.stamp + 1)
CancelFits t (cancels.Running g n) = (t.running ≡ Some g) × (n ≡ t.stamp)

-- whether it tells that the timer's function runs
abbrev pub tells_running : CancelAnswer → Bool
tells_running (cancels.Idle n) = false
tells_running (cancels.Cancelled g n) = false
tells_running (cancels.Running g n) = true

pub record Cancels (o : Opening) (v w : KnownOfTimers) (t : ℕ) (a : CancelAnswer) : Type 0 where
  pub at : List SystemEntry
  pub made : MadeAt v w t at (cancel_entries a)
  pub fits : CancelFits (timer_then o at t) a
  pub claims : w.claims ≡ v.claims

-- ---- cancel_now

-- a call that made no entry, and a moment of it
pub record LooksAt (v w : KnownOfTimers) (x : List SystemEntry) : Type 0 where
  pub looks : LooksOn v w
  pub from : Begins v.seen x
  pub seen : Begins x w.seen

-- at a moment of a call that made no entry the timer was on this base
pub record WasOn (o : Opening) (v w : KnownOfTimers) (t b : ℕ) : Type 0 where
  pub at : List SystemEntry
  pub looks : LooksAt v w at
  pub base : (timer_then o at t).base ≡ b

-- at a moment of a call that made no entry the timer was on the move to this base
pub record WasMoving (o : Opening) (v w : KnownOfTimers) (t b : ℕ) : Type 0 where
  pub at : List SystemEntry
  pub looks : LooksAt v w at
  pub moving : (timer_then o at t).moving ≡ true
  pub base : (timer_then o at t).base ≡ b

-- at a moment of a call that made no entry the timer was on the one base, and at a later one on the other
pub record WasMoved (o : Opening) (v w : KnownOfTimers) (t from to : ℕ) : Type 0 where
  pub at : List SystemEntry
  pub looks : LooksAt v w at
  pub base : (timer_then o at t).base ≡ from
  pub later : List SystemEntry
  pub goes_on : Begins at later
  pub seen : Begins later w.seen
  pub base_later : (timer_then o later t).base ≡ to
  pub apart : from ≢ to

-- at a moment of a call that made no entry the timer was on the move, or it was on one base and then on another
abbrev pub SawMove : Opening → KnownOfTimers → KnownOfTimers → ℕ → Type 0
SawMove o v w t = ((b : ℕ) × WasMoving o v w t b) ⊎ ((a : ℕ) × (b : ℕ) × WasMoved o v w t a b)

-- what a cancel answers that waits for nobody. Where it is contended it took no lock, so where another pass has taken the base in between, that take is
-- not among its pass's afterwards either.
abbrev pub NowFits : Opening → PassOf → PassOf → ℕ → NowAnswer → Type 0
NowFits o p q t (nows.Tried a) = Cancels o p.known q.known t a
NowFits o p q t (nows.Contended b) = HasMissed p q b × WasOn o p.known q.known t b × (q.takes ≡ p.takes)
NowFits o p q t (nows.Moving b) = WasMoving o p.known q.known t b
NowFits o p q t (nows.Moved a b) = WasMoved o p.known q.known t a b

-- the same under the lock of the base that the timer's word has named
abbrev pub HeldFits : Opening → PassOf → PassOf → ℕ → ℕ → NowAnswer → Type 0
HeldFits o p q t base (nows.Tried a) = Cancels o p.known q.known t a
HeldFits o p q t base (nows.Contended b) = ⊥
HeldFits o p q t base (nows.Moving b) = WasMoving o p.known q.known t b
HeldFits o p q t base (nows.Moved a b) = (a ≡ base) × (a ≢ b) × WasOn o p.known q.known t b

-- ---- claim_next

-- a claim of the timer of a context whose turn it is on a base where no function of it runs: of equal expiries the one that was armed first
pub record ClaimsNextDue (o : Opening) (v w : KnownOfTimers) (x : Context) (base : ℕ) (reading : ClockReading) (c : ClaimNumbers) : Type 0 where
  pub at : List SystemEntry
  pub made : MadeAt v w c.timer at (entry_by (timer_then o at c.timer) (events.Claim base reading) ∷ [])
  pub context : (timer_then o at c.timer).declared.context ≡ x
  pub idle : (t : ℕ) → runs_on base (in_context x (timer_then o at) t) ≡ false
  pub next : IsNextDue (in_context x (timer_then o at)) base reading c.timer
  pub first : next_on x ((system_after o.timers at).bases base) reading ≡ Some ((timer_then o at c.timer).expires, c.timer)
  pub within : c.timer < length o.timers
  pub armed : (timer_then o at c.timer).armed ≡ Some c.generation
  pub there : c.base ≡ base
  pub number : c.number ≡ (timer_then o at c.timer).stamp + 1
  pub fresh : count_of c v.claims ≡ 0
  pub claims : w.claims ≡ v.claims ++ claimed_as c ∷ []

-- no function of a context runs on the base, no timer of it is the first to expire there, and the base is stopped for each clock
pub record HasNoneDue (o : Opening) (at : List SystemEntry) (x : Context) (base : ℕ) (reading : ClockReading) : Type 0 where
  pub idle : (t : ℕ) → runs_on base (in_context x (timer_then o at) t) ≡ false
  pub first : next_on x ((system_after o.timers at).bases base) reading ≡ None
  pub none : (clock : ClockId) → IsStopped (in_context x (timer_then o at)) base reading clock

-- a call that claims nothing speaks of all that its pass has then seen
abbrev pub ClaimFits : Opening → KnownOfTimers → KnownOfTimers → Context → ℕ → ClockReading → ClaimAnswer → Type 0
ClaimFits o v w x base reading (claimings.Claimed c) = ClaimsNextDue o v w x base reading c
ClaimFits o v w x base reading claimings.NoneDue = LooksOn v w × HasNoneDue o w.seen x base reading
ClaimFits o v w x base reading (claimings.BaseBusy t g) = LooksOn v w × (running_on base (in_context x (timer_then o w.seen) t) ≡ Some g)

-- ---- forward and finish

abbrev pub forward_entries : Timer → ClockReading → ℕ → ForwardAnswer → List seq.Entry
forward_entries t reading interval (forwards.Forwarded number moved) = entry_by t (events.Forward reading interval) ∷ []
forward_entries t reading interval (forwards.Spent n) = []
forward_entries t reading interval (forwards.Armed g n) = []

-- the answer for this timer
abbrev pub ForwardFits : Timer → ClockReading → ℕ → ForwardAnswer → Type 0
ForwardFits t reading interval (forwards.Forwarded number moved) =
    (t.stamp < t.terms.limit) × (t.armed ≡ None) × (forwards.Forwarded number moved ≡ forwarded_as t reading interval)
ForwardFits t reading interval (forwards.Spent n) = (t.terms.limit ≤ t.stamp) × (n ≡ t.stamp)
ForwardFits t reading interval (forwards.Armed g n) = (t.stamp < t.terms.limit) × (t.armed ≡ Some g) × (n ≡ t.stamp)

pub record Forwards (o : Opening) (v w : KnownOfTimers) (c : ClaimNumbers) (reading : ClockReading) (interval : ℕ) (a : ForwardAnswer) : Type 0 where
  pub at : List SystemEntry
  pub made : MadeAt v w c.timer at (forward_entries (timer_then o at c.timer) reading interval a)
  pub runs : (timer_then o at c.timer).running ≡ Some c.generation
  pub base : (timer_then o at c.timer).base ≡ c.base
  pub fits : ForwardFits (timer_then o at c.timer) reading interval a
  pub claims : w.claims ≡ v.claims

pub record Finishes (o : Opening) (v w : KnownOfTimers) (c : ClaimNumbers) (restart : Bool) (a : Finished) : Type 0 where
  pub at : List SystemEntry
  pub made : MadeAt v w c.timer at (entry_by (timer_then o at c.timer) (events.Finish restart) ∷ [])
  pub runs : (timer_then o at c.timer).running ≡ Some c.generation
  pub base : (timer_then o at c.timer).base ≡ c.base
  pub number : a.number ≡ (timer_then o at c.timer).stamp + 1
  pub rearmed : a.rearmed ≡ rearmed_by (timer_then o at c.timer) restart
  pub claims : w.claims ≡ without_first (is_base_claim c.timer c.generation c.base) v.claims
