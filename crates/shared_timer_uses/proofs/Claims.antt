-- A call that tries a lock once, and claims nothing, leaves the claims of its pass.
use Rattle.std.proofs.Common.{◌≡◌, ℕ}
use Rattle.ktime.specs.declared.clock_id.ClockId.{ClockId}
use Rattle.seq_timer.specs.Events.{Asked}
use Rattle.seq_timer.specs.declared.context.Context.{Context}
use Rattle.base_row.specs.declared.view.Opening.{Opening}
use Rattle.hr_timers.specs.Carrying.{UnsentFits}
use Rattle.hr_timers.specs.Known.{PassOf}
use Rattle.hr_timers.specs.Once.{HereFits, MissFits, NextFits}
use Rattle.hr_timers.specs.declared.once_answer.HereAnswer.{HereAnswer}
use Rattle.hr_timers.specs.declared.once_answer.HereAnswer.TheVariants as heres
use Rattle.hr_timers.specs.declared.once_answer.Miss.{Miss}
use Rattle.hr_timers.specs.declared.once_answer.Miss.TheVariants as misses
use Rattle.hr_timers.specs.declared.once_answer.NextAnswer.{NextAnswer}
use Rattle.hr_timers.specs.declared.once_answer.NextAnswer.TheVariants as nexts
use Rattle.hr_timers.specs.declared.once_answer.Unsent.{Unsent}
use Rattle.hr_timers.specs.declared.once_answer.Unsent.TheVariants as unsents

module _ (o : Opening) (p q : PassOf) where
  miss_claims : (t : ℕ) (m : Miss) → MissFits o p q t m → q.known.claims ≡ p.known.claims
  miss_claims t (misses.Contended b) missed = missed.0.looks.claims
  miss_claims t (misses.Moving b) missed = missed.looks.looks.claims
  miss_claims t (misses.Moved a b) missed = missed.looks.looks.claims

  pub here_claims : (t : ℕ) (asked : Asked) (a : HereAnswer) → HereFits o p q t asked a → q.known.claims ≡ p.known.claims
  here_claims t asked (heres.Tried a first) tried = tried.0.claims
  here_claims t asked (heres.Elsewhere b) needs = needs.looks.looks.claims
  here_claims t asked (heres.Missed m) missed = miss_claims t m missed

  pub next_claims : (x : Context) (base : ℕ) (clock : ClockId) (a : NextAnswer) → NextFits o p q x base clock a → q.known.claims ≡ p.known.claims
  next_claims x base clock (nexts.First t expires) told = told.0.claims
  next_claims x base clock nexts.NoneArmed told = told.0.claims
  next_claims x base clock nexts.Contended told = told.looks.claims

  pub unsent_claims : (t asked : ℕ) (why : Unsent) → UnsentFits o p q t asked why → q.known.claims ≡ p.known.claims
  unsent_claims t asked (unsents.Missed m) missed = miss_claims t m missed
  unsent_claims t asked (unsents.Spent n) spent = spent.looks.looks.claims
  unsent_claims t asked (unsents.Stays b) needs = needs.looks.looks.claims
