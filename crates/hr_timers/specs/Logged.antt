-- What each call with a sink says: what the call without one says, and that the sink got a receipt of each entry that it made, with the number
-- that the entry has. `put` is what a receipt makes of the sink, which was `s` before the call and is `s'` after it.
use Rattle.std.specs.Prelude.{ℕ, ◌≡◌, ◌≢◌, ◌<◌, ◌≤◌, ◌⊎◌, Bool, List, [], ◌∷◌}
use Rattle.ktime.specs.Readings.{ClockReading}
use Rattle.pass_names.specs.Counts.{count}
use Rattle.pass_names.specs.Passes.{Begins}
use Rattle.pass_names.specs.SharedHistory.{LooksOn}
use Rattle.seq_timer.specs.Events.{Asked}
use Rattle.seq_timer.specs.declared.event.EventBy.TheVariants as events
use Rattle.seq_timer.specs.declared.context.Context.{Context}
use Rattle.seq_timer.specs.Histories as seq
use Rattle.seq_timer.specs.declared.answer.CancelAnswer.{CancelAnswer}
use Rattle.seq_timer.specs.declared.answer.CancelAnswer.TheVariants as cancels
use Rattle.seq_timer.specs.declared.answer.ForwardAnswer.{ForwardAnswer}
use Rattle.seq_timer.specs.declared.answer.Finished.{Finished}
use Rattle.seq_timer.specs.declared.system.SystemEntry.{SystemEntry}
use Rattle.seq_timer.specs.Systems.{rises_of}
use Rattle.base_row.specs.declared.log.Receipt.{Receipt}
use Rattle.base_row.specs.declared.view.Opening.{Opening}
use Rattle.base_row.specs.Logs.{all_pushed, receipts_of}
use Rattle.base_row.specs.Plays.{RisesFrom}
use Rattle.base_row.specs.Rules.{is_base_claim}
use Rattle.hr_timers.specs.declared.answer.ClaimAnswer.{ClaimAnswer}
use Rattle.hr_timers.specs.declared.answer.ClaimAnswer.TheVariants as claimings
use Rattle.hr_timers.specs.declared.answer.StartAnswer.{StartAnswer}
use Rattle.hr_timers.specs.declared.numbers.ClaimNumbers.{ClaimNumbers}
use Rattle.hr_timers.specs.Known.{KnownOfTimers, timer_then}
use Rattle.hr_timers.specs.Ways.{most_to_start}
use Rattle.seq_timer.specs.Tables.{timer_at}
use Rattle.hr_timers.specs.Calls.{Cancels, ClaimFits, Finishes, Forwards, StartsTimer}
use Rattle.hr_timers.specs.Calls.{cancel_entries, entry_by, forward_entries, start_entries}

-- so much room is enough for the receipts of a start that asks for this base: of a timer of which the pass has a claim it makes one entry
abbrev pub HasRoomToStart : Opening → KnownOfTimers → ℕ → ℕ → ℕ → Type 0
HasRoomToStart o k t base room = (most_to_start (timer_at o.timers t).terms base ≤ room)
    ⊎ ((0 < room) × ((g : ℕ) × (b : ℕ) × (0 < count (is_base_claim t g b) k.claims)))

-- a counter rose by one, from so many, before a cancel that answered so; it didn't where the timer's function was running
abbrev pub RisesUnlessRunning : CancelAnswer → ℕ → ℕ → KnownOfTimers → KnownOfTimers → Type 0
RisesUnlessRunning (cancels.Idle n) counter from v w = LooksOn v w × RisesFrom counter from v.seen w.seen
RisesUnlessRunning (cancels.Cancelled g n) counter from v w = LooksOn v w × RisesFrom counter from v.seen w.seen
RisesUnlessRunning (cancels.Running g n) counter from v w = w ≡ v

-- at a moment of the call a counter had risen another number of times
pub record HadRisenOtherwise (counter from : ℕ) (v w : KnownOfTimers) : Type 0 where
  pub at : List SystemEntry
  pub after : Begins v.seen at
  pub seen : Begins at w.seen
  pub other : rises_of counter at ≢ from

module _ {A : Type 0} (put : A → Receipt → A) (o : Opening) where
  -- the receipts of a timer's entries that were made at this moment went to the sink
  abbrev pub IsLogged : ℕ → List SystemEntry → List seq.Entry → A → A → Type 0
  IsLogged t at es s s' = s' ≡ all_pushed put s (receipts_of t (timer_then o at t).stamp es)

  -- the receipt of a claim went to the sink, where one was made
  abbrev pub ClaimIsLogged : (v w : KnownOfTimers) (x : Context) (base : ℕ) (reading : ClockReading) (a : ClaimAnswer) → ClaimFits o v w x base reading a
      → A → A → Type 0
  ClaimIsLogged v w x base reading (claimings.Claimed n) c s s' =
      IsLogged n.timer c.at (entry_by (timer_then o c.at n.timer) (events.Claim base reading) ∷ []) s s'
  ClaimIsLogged v w x base reading claimings.NoneDue c s s' = s' ≡ s
  ClaimIsLogged v w x base reading (claimings.BaseBusy t g) c s s' = s' ≡ s

  module _ (v w : KnownOfTimers) where
    -- a start, and the receipts of its entries
    pub record StartsLogged (t : ℕ) (asked : Asked) (a : StartAnswer) (s s' : A) : Type 0 where
      pub starts : StartsTimer o v w t asked a
      pub logged : IsLogged t starts.at (start_entries (timer_then o starts.at t) asked starts.sent starts.last a) s s'

    -- a cancel, and the receipt of its entry, where it made one
    pub record CancelsLogged (t : ℕ) (a : CancelAnswer) (s s' : A) : Type 0 where
      pub cancels : Cancels o v w t a
      pub logged : IsLogged t cancels.at (cancel_entries a) s s'

    -- a claim of the next timer, and the receipt of its entry, where it made one
    pub record ClaimsLogged (x : Context) (base : ℕ) (reading : ClockReading) (a : ClaimAnswer) (s s' : A) : Type 0 where
      pub claims : ClaimFits o v w x base reading a
      pub logged : ClaimIsLogged v w x base reading a claims s s'

    -- a forward, and the receipt of its entry, where it made one
    pub record ForwardsLogged (n : ClaimNumbers) (reading : ClockReading) (interval : ℕ) (a : ForwardAnswer) (s s' : A) : Type 0 where
      pub forwards : Forwards o v w n reading interval a
      pub logged : IsLogged n.timer forwards.at (forward_entries (timer_then o forwards.at n.timer) reading interval a) s s'

    -- a finish, and the receipt of its entry
    pub record FinishesLogged (n : ClaimNumbers) (restart : Bool) (a : Finished) (s s' : A) : Type 0 where
      pub finishes : Finishes o v w n restart a
      pub logged : IsLogged n.timer finishes.at (entry_by (timer_then o finishes.at n.timer) (events.Finish restart) ∷ []) s s'

  -- a cancel behind a rise of a counter
  pub record CancelsBehind (counter from : ℕ) (v w : KnownOfTimers) (t : ℕ) (a : CancelAnswer) (s s' : A) : Type 0 where
    pub risen : KnownOfTimers
    pub rises : RisesUnlessRunning a counter from v risen
    pub cancels : CancelsLogged risen w t a s s'
