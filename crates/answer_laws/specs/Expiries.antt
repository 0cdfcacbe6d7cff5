-- The moments of an expiry run.
use Rattle.std.specs.Prelude.{ℕ, zero, suc, List, [], ◌∷◌}
use Rattle.ktime.specs.Readings.{ClockReading}
use Rattle.seq_timer.specs.declared.context.Context.{Context}
use Rattle.seq_timer.specs.declared.system.SystemEntry.{SystemEntry}
use Rattle.base_row.specs.declared.log.Receipt.{Receipt}
use Rattle.base_row.specs.declared.view.Opening.{Opening}
use Rattle.hr_timers.specs.Known.{KnownOfTimers}
use Rattle.hr_timers.specs.declared.expiry.ExpireAnswer.{ExpireAnswer}
use Rattle.hr_timers.specs.declared.expiry.ExpireAnswer.TheVariants as expiries
use Rattle.hr_timers.specs.declared.handler.Restart.{Restart}
use Rattle.hr_timers.specs.Expiring.{Expires, Turns}
use Rattle.hr_timers.specs.Handlers.{Meaning}

-- when a timer was claimed, what its function asked for, and when it was finished
pub record TurnMoment : Type 0 where
  pub claimed : List SystemEntry
  pub restart : Restart
  pub finished : List SystemEntry

module _ {A : Type 0} (m : Meaning A) (o : Opening) (x : Context) (base : ℕ) (reading : ClockReading) where
  -- those of so many turns, the last one first
  abbrev pub turns_at : (n : ℕ) (k : KnownOfTimers) (h : A) (log : List Receipt) (k' : KnownOfTimers) (h' : A) (log' : List Receipt)
      → Turns m o x base reading n k h log k' h' log' → List TurnMoment
  turns_at zero k h log k' h' log' t = []
  turns_at (suc n) k h log k' h' log' t =
      record { claimed = t.4.claims.at; restart = t.4.ran.restart; finished = t.4.ran.finishes.at } ∷ turns_at n k h log t.0 t.1 t.2 t.3

  -- those of a run
  abbrev pub run_at : (budget : ℕ) (k : KnownOfTimers) (h : A) (log : List Receipt) (k' : KnownOfTimers) (h' : A) (log' : List Receipt) (a : ExpireAnswer)
      → Expires m o x base reading budget k h log k' h' log' a → List TurnMoment
  run_at budget k h log k' h' log' (expiries.More fired) e = turns_at fired k h log k' h' log' e.1
  run_at budget k h log k' h' log' (expiries.Done fired) e = turns_at fired k h log e.1.0 h' log' e.1.1
  run_at budget k h log k' h' log' (expiries.BaseBusy fired t g) e = turns_at fired k h log e.1.0 h' log' e.1.1
