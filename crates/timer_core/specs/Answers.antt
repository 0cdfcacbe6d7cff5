-- What each call answers, and which events it makes.
use Rattle.std.specs.Prelude.{ℕ, ◌≡◌, ◌+◌, ◌<◌, false, Some, None, is_some, [], ◌∷◌, length, if◌then◌else◌}
use Rattle.ktime.specs.declared.clock_id.ClockId.{ClockId}
use Rattle.ktime.specs.Readings.{ClockReading}
use Rattle.seq_timer.specs.Steps.{Timer, placement_of}
use Rattle.seq_timer.specs.declared.event.EventBy.TheVariants as events
use Rattle.seq_timer.specs.Tables.{IsNextDue, IsStopped, in_context, runs_on}
use Rattle.seq_timer.specs.Contents.{first_due}
use Rattle.seq_timer.specs.Halves.{running_on}
use Rattle.seq_timer.specs.declared.context.Context.{Context}
use Rattle.timer_core.specs.declared.answer.StartAnswer.{StartAnswer}
use Rattle.timer_core.specs.declared.answer.StartAnswer.TheVariants as starts
use Rattle.timer_core.specs.declared.answer.ClaimAnswer.{ClaimAnswer}
use Rattle.timer_core.specs.declared.answer.ClaimAnswer.TheVariants as claims
use Rattle.timer_core.specs.Kept.{Kept, Makes, content_at, timer_in}
use Rattle.seq_timer.specs.Calls.{moves_first}

-- what a start answers, of the timer before and after it
abbrev pub started_as : Timer → Timer → ℕ → StartAnswer
started_as t now asked = starts.Started (is_some t.armed) now.stamp (if moves_first t asked then Some asked else None) (placement_of now)

-- a claim of the timer of a context that is the next to expire on a base where no function of it runs: of equal expiries the one that was armed first
pub record ClaimsNext (old : Kept) (context : Context) (base : ℕ) (reading : ClockReading) (id generation number : ℕ) (new : Kept) : Type 0 where
  pub idle : (other : ℕ) → runs_on base (in_context context (timer_in old) other) ≡ false
  pub within : id < length old.timers
  pub next : IsNextDue (in_context context (timer_in old)) base reading id
  pub first : first_due context (timer_in old) (content_at old base) reading ≡ Some ((timer_in old id).expires, id)
  pub armed : (timer_in old id).armed ≡ Some generation
  pub counted : number ≡ (timer_in old id).stamp + 1
  pub entry : Makes old id (events.Claim base reading ∷ []) new
  pub running : (timer_in new id).running ≡ Some generation

-- what a claim of the next timer does, by its answer
abbrev pub IsClaim : Kept → Context → ℕ → ClockReading → ClaimAnswer → Kept → Type 0
IsClaim old context base reading (claims.BaseBusy id generation) new = (running_on base (in_context context (timer_in old) id) ≡ Some generation) × (new ≡ old)
IsClaim old context base reading claims.NoneDue new =
    ((id : ℕ) → runs_on base (in_context context (timer_in old) id) ≡ false)
    × ((clock : ClockId) → IsStopped (in_context context (timer_in old)) base reading clock) × (new ≡ old)
IsClaim old context base reading (claims.Claimed id generation number) new = ClaimsNext old context base reading id generation number new
