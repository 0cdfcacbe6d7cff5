use Rattle.std.proofs.Common.{◌≡◌, ◌∙◌, ap, ℕ}
use Rattle.std.specs.Prelude.{IfNone, IfSome, MatchOption, None, Option, Some}
use Rattle.seq_timer.specs.Systems.{BaseContent}
use Rattle.base_row.specs.declared.view.HeldContent.{HeldContent}
use Rattle.base_row.specs.declared.view.BaseView.{BaseView}
use Rattle.base_row.specs.Calls as rows
use Rattle.base_row.specs.Plays.{Steady}
use Rattle.hr_timers.specs.Known.{OnlySeesMore, pass_of}
use Rattle.hr_timers.specs.Once.{IsContended}
use Rattle.hr_timers.proofs.Making.{looks_locked, looks_missed, looks_on}
use Rattle.hr_timers.proofs.once_lock.lock_once.Goals as goal

record Tried (base : ℕ) (p q : rows.BasePassOf) (r : Option (HeldContent BaseContent)) : Type 0 where
  at : IfSome r (λ h. h.base ≡ base)
  held : q.knows.held ≡ r
  looks : OnlySeesMore p.knows q.knows
  steady : Steady p.knows q.knows
  missed : IfNone r (IsContended (pass_of p) (pass_of q) base)

tried : (base : ℕ) (p q : rows.BasePassOf) (r : Option (HeldContent BaseContent))
    → p.knows.held ≡ None → MatchOption r (rows.MissesBase base p.knows q.knows) (λ h. rows.GetsBase base p.knows q.knows h) → Tried base p q r
tried base p q None idle missed =
    let looks = looks_missed base p.knows q.knows missed in
    record {
      at = tt;
      held = ap (λ (y : BaseView BaseContent). y.held) missed.waits.rest ∙ idle;
      looks = looks;
      steady = missed.waits.steady;
      missed = record {
        looks = looks_on p.knows q.knows looks;
        missed = missed.missed;
        takes = ap (λ (y : BaseView BaseContent). y.takes) missed.waits.rest;
      };
    }
tried base p q (Some h) idle got = record {
  at = got.at;
  held = ap (λ (y : BaseView BaseContent). y.held) got.rest;
  looks = looks_locked base p.knows q.knows h got;
  steady = got.steady;
  missed = tt;
}

told : (c : goal.After-try_lock_base) → Tried c.args.base c.args.pass.now c.try_lock_base.new.pass c.try_lock_base.result
told c = tried c.args.base c.args.pass.now c.try_lock_base.new.pass c.try_lock_base.result c.requires.idle c.try_lock_base.ensures.taken

pub returns-clause-at : goal.returns-clause-at
returns-clause-at c = (told c).at

pub returns-clause-held : goal.returns-clause-held
returns-clause-held c = (told c).held

pub returns-clause-looks : goal.returns-clause-looks
returns-clause-looks c = (told c).looks

pub returns-clause-steady : goal.returns-clause-steady
returns-clause-steady c = (told c).steady

pub returns-clause-missed : goal.returns-clause-missed
returns-clause-missed c = (told c).missed
