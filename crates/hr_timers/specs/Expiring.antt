-- What an expiry run does: for each function a claim, what the function did, and a finish.
use Rattle.std.specs.Prelude.{ℕ, zero, suc, ◌≡◌, ◌<◌, ◌+◌, List, [], ◌∷◌, ◌++◌}
use Rattle.ktime.specs.Readings.{ClockReading}
use Rattle.seq_timer.specs.declared.context.Context.{Context}
use Rattle.seq_timer.specs.declared.event.EventBy.TheVariants as events
use Rattle.seq_timer.specs.declared.event.Reply.TheVariants as replies
use Rattle.seq_timer.specs.Steps.{Timer, restarted_by}
use Rattle.seq_timer.specs.declared.answer.Finished.{Finished}
use Rattle.base_row.specs.declared.view.Opening.{Opening}
use Rattle.hr_timers.specs.declared.numbers.ClaimNumbers.{ClaimNumbers}
use Rattle.hr_timers.specs.declared.answer.ClaimAnswer.TheVariants as claimings
use Rattle.hr_timers.specs.Known.{KnownOfTimers, timer_then}
use Rattle.hr_timers.specs.Calls.{ClaimFits, Finishes}
use Rattle.base_row.specs.declared.log.Noted.TheVariants as noteds
use Rattle.base_row.specs.declared.log.Receipt.{Receipt}
use Rattle.hr_timers.specs.declared.handler.Restart.{Restart}
use Rattle.hr_timers.specs.declared.expiry.Next.{Next}
use Rattle.hr_timers.specs.declared.expiry.Next.TheVariants as nexts
use Rattle.hr_timers.specs.declared.expiry.ExpireAnswer.{ExpireAnswer}
use Rattle.hr_timers.specs.declared.expiry.ExpireAnswer.TheVariants as expiries
use Rattle.hr_timers.specs.Handlers.{KeepsPass, Meaning, asks}

-- the receipt of a claim
abbrev pub claim_receipt : ClockReading → ClaimNumbers → Receipt
claim_receipt reading c = record { timer = c.timer; number = c.number; event = events.Claim c.base reading; reply = noteds.Entry (replies.Claim c.generation) }

-- the receipt of its finish, which its timer was so before
abbrev pub finish_receipt : ClaimNumbers → Restart → Timer → Receipt
finish_receipt c restart t = record {
  timer = c.timer;
  number = t.stamp + 1;
  event = events.Finish (asks restart);
  reply = noteds.Entry (replies.Finish c.generation (restarted_by t (asks restart)));
}

-- A claim's function has run, and the claim is finished: `done` is what the pass knows after the function. Each goes on from what the one before
-- has seen.
pub record Ran {A : Type 0} (m : Meaning A) (o : Opening) (reading : ClockReading) (c : ClaimNumbers) (k : KnownOfTimers) (h : A)
    (k' : KnownOfTimers) (h' : A) : Type 0 where
  pub done : KnownOfTimers
  pub restart : Restart
  pub did : m.did o h h' k done c reading restart
  pub keeps : KeepsPass k done
  pub finished : Finished
  pub finishes : Finishes o done k' c (asks restart) finished

module _ {A : Type 0} (m : Meaning A) (o : Opening) (x : Context) (base : ℕ) (reading : ClockReading) where
  -- a claim, after which the pass knows `claimed`, and the run of its function; the log has a receipt of the claim, and one of the finish
  pub record Turn (k : KnownOfTimers) (h : A) (log : List Receipt) (k' : KnownOfTimers) (h' : A) (log' : List Receipt) : Type 0 where
    pub claim : ClaimNumbers
    pub claimed : KnownOfTimers
    pub claims : ClaimFits o k claimed x base reading (claimings.Claimed claim)
    pub ran : Ran m o reading claim claimed h k' h'
    pub receipts : log' ≡ log ++ claim_receipt reading claim ∷ finish_receipt claim ran.restart (timer_then o ran.finishes.at claim.timer) ∷ []

  -- so many turns
  abbrev pub Turns : ℕ → KnownOfTimers → A → List Receipt → KnownOfTimers → A → List Receipt → Type 0
  Turns zero k h log k' h' log' = (k' ≡ k) × (h' ≡ h) × (log' ≡ log)
  Turns (suc n) k h log k' h' log' = (k1 : KnownOfTimers) × (h1 : A) × (log1 : List Receipt) × Turns n k h log k1 h1 log1 × Turn k1 h1 log1 k' h' log'

  -- what a turn came to. What claims nothing changes neither the handler nor the log.
  abbrev pub Nexts : KnownOfTimers → A → List Receipt → KnownOfTimers → A → List Receipt → Next → Type 0
  Nexts k h log k' h' log' nexts.Fired = Turn k h log k' h' log'
  Nexts k h log k' h' log' nexts.NoneDue = ClaimFits o k k' x base reading claimings.NoneDue × (h' ≡ h) × (log' ≡ log)
  Nexts k h log k' h' log' (nexts.BaseBusy t g) = ClaimFits o k k' x base reading (claimings.BaseBusy t g) × (h' ≡ h) × (log' ≡ log)

  -- what the run answers. That no timer was next to expire, or that the base was busy, holds of all that the pass has then seen.
  abbrev pub Expires : ℕ → KnownOfTimers → A → List Receipt → KnownOfTimers → A → List Receipt → ExpireAnswer → Type 0
  Expires budget k h log k' h' log' (expiries.More fired) = (fired ≡ budget) × Turns fired k h log k' h' log'
  Expires budget k h log k' h' log' (expiries.Done fired) = (fired < budget)
      × ((k1 : KnownOfTimers) × Turns fired k h log k1 h' log' × ClaimFits o k1 k' x base reading claimings.NoneDue)
  Expires budget k h log k' h' log' (expiries.BaseBusy fired t g) = (fired < budget)
      × ((k1 : KnownOfTimers) × Turns fired k h log k1 h' log' × ClaimFits o k1 k' x base reading (claimings.BaseBusy t g))
