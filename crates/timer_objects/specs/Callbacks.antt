-- What the callbacks of timers by themselves do.
use Rattle.std.specs.Prelude.{ℕ, ◌≡◌, ◌+◌, max, List, [], ◌∷◌, ◌++◌, Some}
use Rattle.ktime.specs.declared.mode.Mode.TheVariants as modes
use Rattle.ktime.specs.Readings.{ClockReading}
use Rattle.seq_timer.specs.Events.{Asked, Event}
use Rattle.seq_timer.specs.declared.event.EventBy.TheVariants as events
use Rattle.seq_timer.specs.declared.observation.Observation.{Observation}
use Rattle.seq_timer.specs.declared.observation.Observation.TheVariants as observations
use Rattle.seq_timer.specs.Calls.{asked_for, entries_along}
use Rattle.seq_timer.specs.Steps.{Timer}
use Rattle.seq_timer.specs.declared.answer.CancelAnswer.TheVariants as cancels
use Rattle.seq_timer.specs.declared.answer.ForwardAnswer.{ForwardAnswer}
use Rattle.seq_timer.specs.declared.answer.ForwardAnswer.TheVariants as forwards
use Rattle.base_row.specs.declared.view.Opening.{Opening}
use Rattle.hr_timers.specs.declared.answer.StartAnswer.{StartAnswer}
use Rattle.hr_timers.specs.declared.answer.StartAnswer.TheVariants as starts
use Rattle.hr_timers.specs.declared.numbers.ClaimNumbers.{ClaimNumbers}
use Rattle.hr_timers.specs.Known.{KnownOfTimers, timer_then}
use Rattle.hr_timers.specs.Calls.{Cancels, Forwards, StartsTimer}
use Rattle.hr_timers.specs.Ways.{asking}
use Rattle.hr_timers.specs.declared.handler.Restart.{Restart}
use Rattle.hr_timers.specs.declared.handler.Restart.TheVariants as restarts
use Rattle.base_row.specs.declared.log.Noted.TheVariants as noteds
use Rattle.base_row.specs.declared.log.Receipt.{Receipt}
use Rattle.base_row.specs.Logs.{receipts_of}
use Rattle.timer_objects.specs.declared.callback.Callback.{Callback}
use Rattle.timer_objects.specs.declared.callback.Callback.TheVariants as callbacks

-- the least number above every base that a callback asks for
abbrev pub bases_for : Callback → ℕ
bases_for callbacks.Once = 0
bases_for (callbacks.Every interval) = 0
bases_for callbacks.Cancels = 0
bases_for (callbacks.Starts ns base) = base + 1

-- the least number above every base that one of the callbacks asks for
abbrev pub bases_of : List Callback → ℕ
bases_of [] = 0
bases_of (x ∷ xs) = max (bases_for x) (bases_of xs)

-- a start that was made was sent to no base
abbrev pub IsUnsent : List ℕ → StartAnswer → Type 0
IsUnsent sent (starts.Started was_armed generation base outs placement) = sent ≡ []
IsUnsent sent (starts.Spent n) = Unit {0}

-- ---- receipts

-- the receipt of what was seen of a claim's timer at this stamp, in place of an entry
abbrev pub look_receipt : ClaimNumbers → ℕ → Event → Observation → Receipt
look_receipt c stamp event seen = record { timer = c.timer; number = stamp; event = event; reply = noteds.Look seen }

-- what is noted of a forward of a claim's timer, which was so before: its entry, or the look in place of one
abbrev pub forward_noted : ClaimNumbers → Timer → ClockReading → ℕ → ForwardAnswer → List Receipt
forward_noted c t reading interval (forwards.Forwarded number moved) = receipts_of c.timer t.stamp (entries_along t (events.Forward reading interval ∷ []))
forward_noted c t reading interval (forwards.Spent n) = look_receipt c n (events.Forward reading interval) observations.Spent ∷ []
forward_noted c t reading interval (forwards.Armed g n) = look_receipt c n (events.Forward reading interval) (observations.Armed g) ∷ []

-- and of a start, by the base that it asked for last
abbrev pub start_noted : ClaimNumbers → Timer → Asked → StartAnswer → List Receipt
start_noted c t asked (starts.Started was_armed generation base outs placement) =
    receipts_of c.timer t.stamp (entries_along t (events.Start (asking asked base) ∷ []))
start_noted c t asked (starts.Spent n) = look_receipt c n (events.Start asked) observations.Spent ∷ []

-- ---- callbacks

module _ (o : Opening) (v w : KnownOfTimers) (c : ClaimNumbers) where
  -- the claim's timer was asked to move on by whole intervals
  pub record RunsForward (reading : ClockReading) (log log' : List Receipt) (interval : ℕ) : Type 0 where
    pub answer : ForwardAnswer
    pub forwards : Forwards o v w c reading interval answer
    pub receipts : log' ≡ log ++ forward_noted c (timer_then o forwards.at c.timer) reading interval answer

  -- the claim's timer was seen to run, by a try to cancel it
  pub record RunsCancel (log log' : List Receipt) : Type 0 where
    pub stamp : ℕ
    pub cancels : Cancels o v w c.timer (cancels.Running c.generation stamp)
    pub receipt : log' ≡ log ++ look_receipt c stamp events.Cancel (observations.Running c.generation) ∷ []

  -- the claim's timer was started, or its history is full. It ran, so it has kept its base, and was sent to none.
  pub record RunsStart (reading : ClockReading) (log log' : List Receipt) (ns asked : ℕ) : Type 0 where
    pub answer : StartAnswer
    pub starts : StartsTimer o v w c.timer (asked_for modes.Rel ns 0 asked reading) answer
    pub runs : (timer_then o starts.at c.timer).running ≡ Some c.generation
    pub unsent : IsUnsent starts.sent answer
    pub receipts : log' ≡ log ++ start_noted c (timer_then o starts.at c.timer) (asked_for modes.Rel ns 0 asked reading) answer

  -- what a callback does, the receipts that it notes, and whether it asks for a restart
  abbrev pub RunsCallback : ClockReading → List Receipt → List Receipt → Callback → Restart → Type 0
  RunsCallback reading log log' callbacks.Once restart = (w ≡ v) × (log' ≡ log) × (restart ≡ restarts.Stop)
  RunsCallback reading log log' (callbacks.Every interval) restart = RunsForward reading log log' interval × (restart ≡ restarts.Again)
  RunsCallback reading log log' callbacks.Cancels restart = RunsCancel log log' × (restart ≡ restarts.Stop)
  RunsCallback reading log log' (callbacks.Starts ns asked) restart = RunsStart reading log log' ns asked × (restart ≡ restarts.Again)
