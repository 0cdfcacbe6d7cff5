-- What callers are told, by all that their pass has seen.
use Rattle.std.specs.Prelude.{ℕ, ◌≡◌, ◌+◌, ◌⊎◌, ◌≢◌, ◌<◌, ◌≤◌, List, [], ◌∷◌, ◌++◌, length, Some, None, false}
use Rattle.ktime.specs.Readings.{ClockReading}
use Rattle.ktime.specs.Times.{next_after, passed}
use Rattle.pass_names.specs.Counts.{count}
use Rattle.pass_names.specs.Passes.{Begins, is_place}
use Rattle.seq_timer.specs.declared.event.EventBy.TheVariants as events
use Rattle.seq_timer.specs.declared.event.Reply.TheVariants as replies
use Rattle.seq_timer.specs.declared.event.Restarted.TheVariants as restarteds
use Rattle.seq_timer.specs.declared.system.SystemEntry.{SystemEntry}
use Rattle.seq_timer.specs.Histories.{IsIdle}
use Rattle.seq_timer.specs.Steps.{Timer, moved_by, now_of}
use Rattle.seq_timer.specs.Tables.{IsNextDue, in_context}
use Rattle.seq_timer.specs.Halves.{running_on}
use Rattle.seq_timer.specs.declared.context.Context.TheVariants as contexts
use Rattle.base_row.specs.declared.view.Opening.{Opening}
use Rattle.base_row.specs.Calls as rows
use Rattle.hr_timers.specs.Known.{IsPassOf, KnownOfTimers, PassOf, timer_then}
use Rattle.hr_timers.specs.Calls.{HasNoneDue, StartsTimer}
use Rattle.hr_timers.specs.declared.answer.StartAnswer.{StartAnswer}
use Rattle.ktime.specs.declared.mode.Mode.TheVariants as modes
use Rattle.ordered_clock.specs.Moments.{ReadsAt}
use Rattle.seq_timer.specs.Calls.{asked_for}
use Rattle.base_row.specs.declared.log.Noted.TheVariants as noteds
use Rattle.base_row.specs.declared.log.Receipt.{Receipt}
use Rattle.hr_timers.specs.Handlers.{KeepsPass}
use Rattle.base_row.specs.Logs.{LogOf}
use Rattle.shared_timer_uses.specs.declared.cancelling.Stopped.{Stopped}
use Rattle.shared_timer_uses.specs.declared.cancelling.Stopped.TheVariants as stops
use Rattle.shared_timer_uses.specs.declared.periodic.Tick.{Tick}

-- a timer after all that a pass has seen
abbrev pub known_timer : Opening → KnownOfTimers → ℕ → Timer
known_timer o k t = timer_then o k.seen t

-- by all that a pass has seen no timer of the hard context is next to expire on a base, or the function of one runs there
abbrev pub HasNothingToRun : Opening → KnownOfTimers → ℕ → ClockReading → Type 0
HasNothingToRun o k base reading = HasNoneDue o k.seen contexts.Hard base reading
    ⊎ ((t : ℕ) × (g : ℕ) × (running_on base (in_context contexts.Hard (known_timer o k) t) ≡ Some g))

-- the clock was read at a moment among the entries of timers, and behind that the timer was started by this reading, for so many nanoseconds later
pub record StartsAfter (o : Opening) (v w : KnownOfTimers) (t ns base : ℕ) (a : StartAnswer) : Type 0 where
  pub read : KnownOfTimers
  pub reading : ClockReading
  pub reads : ReadsAt v.seen read.seen reading.stamp
  pub starts : StartsTimer o read w t (asked_for modes.Rel ns 0 base reading) a

-- a thread may run the function of one timer on a base by its pass, and its log has room for the receipts
pub record MayRunOne (timers : rows.BaseRowOf) (pass : PassOf) (log : LogOf Receipt) (base : ℕ) : Type 0 where
  pub of_timers : IsPassOf timers pass
  pub is_base : base < timers.about.bases
  pub few : length timers.about.timers ≤ 65536
  pub room : 2 ≤ log.spare

-- its pass is still one of the timers, and goes on; at most two receipts were noted
pub record KeepsRunner (timers : rows.BaseRowOf) (pass pass' : PassOf) (log log' : LogOf Receipt) : Type 0 where
  pub of_timers : IsPassOf timers pass'
  pub keeps : KeepsPass pass.known pass'.known
  pub room : log.spare ≤ log'.spare + 2

-- the timer, of the hard context, was the next to expire on its base when it was claimed, its function has ended, and that armed nothing
pub record RanOnce (o : Opening) (base : ℕ) (reading : ClockReading) (k k' : KnownOfTimers) (t : ℕ) (log log' : List Receipt) : Type 0 where
  pub at : List SystemEntry
  pub from : Begins k.seen at
  pub seen : Begins at k'.seen
  pub context : (timer_then o at t).declared.context ≡ contexts.Hard
  pub next : IsNextDue (in_context contexts.Hard (timer_then o at)) base reading t
  pub ended : (known_timer o k' t).running ≡ None
  pub generation : ℕ
  pub armed : (timer_then o at t).armed ≡ Some generation
  pub claim : ℕ
  pub finish : ℕ
  pub receipts : log' ≡ log
      ++ record { timer = t; number = claim; event = events.Claim base reading; reply = noteds.Entry (replies.Claim generation) }
      ∷ record { timer = t; number = finish; event = events.Finish false; reply = noteds.Entry (replies.Finish generation restarteds.No) } ∷ []

-- The timer, of the hard context, was the next to expire on its base when it was claimed. Its function has moved the expiry on by so many intervals, to the first one
-- past the reading.
pub record Ticked (o : Opening) (base : ℕ) (reading : ClockReading) (interval : ℕ) (k k' : KnownOfTimers) (tick : Tick) : Type 0 where
  pub at : List SystemEntry
  pub from : Begins k.seen at
  pub context : (timer_then o at tick.timer).declared.context ≡ contexts.Hard
  pub next : IsNextDue (in_context contexts.Hard (timer_then o at)) base reading tick.timer
  pub late : List SystemEntry
  pub goes_on : Begins at late
  pub seen : Begins late k'.seen
  pub count : tick.moved.count ≡ passed (timer_then o late tick.timer).expires (now_of (timer_then o late tick.timer) reading) interval
  pub moved : tick.moved ≡ moved_by (timer_then o late tick.timer) reading interval
  pub expires : tick.moved.expires ≡ next_after (timer_then o late tick.timer).expires (now_of (timer_then o late tick.timer) reading) interval
  pub ended : (known_timer o k' tick.timer).running ≡ None

-- what a stop that doesn't wait has come to
abbrev pub StoppedFits : Opening → KnownOfTimers → KnownOfTimers → ℕ → Stopped → Type 0
StoppedFits o k k' t stops.Disarmed = IsIdle (known_timer o k' t) × (length k'.mine ≡ length k.mine + 1)
StoppedFits o k k' t stops.AtRest = IsIdle (known_timer o k' t) × (k'.mine ≡ k.mine)
StoppedFits o k k' t (stops.Running g) = ((known_timer o k' t).running ≡ Some g) × (k'.mine ≡ k.mine)
StoppedFits o k k' t stops.Busy = k'.mine ≡ k.mine

-- so many entries of a timer were made, and none of any other
pub record MakesEntries (t n : ℕ) (k k' : KnownOfTimers) : Type 0 where
  pub keeps : KeepsPass k k'
  pub mine : length k'.mine ≡ length k.mine + n
  pub elsewhere : (i m : ℕ) → i ≢ t → count (is_place i m) k'.mine ≡ count (is_place i m) k.mine
