use Rattle.std.proofs.Common.{◌≡◌, ◌∙◌, ap, ℕ}
use Rattle.std.specs.Prelude.{IfSome, MatchOption, None, Option, Some}
use Rattle.seq_timer.specs.Systems.{BaseContent}
use Rattle.base_row.specs.declared.view.HeldContent.{HeldContent}
use Rattle.base_row.specs.declared.view.BaseView.{BaseView}
use Rattle.base_row.specs.Calls.{GetsBase, MissesBase}
use Rattle.hr_timers.specs.Known.{OnlySeesMore}
use Rattle.hr_timers.proofs.Making.{looks_locked, looks_missed}
use Rattle.hr_timers.proofs.under_lock.try_lock.Goals as goal

record Tried (base : ℕ) (v w : BaseView BaseContent) (r : Option (HeldContent BaseContent)) : Type 0 where
  at : IfSome r (λ h. h.base ≡ base)
  held : w.held ≡ r
  looks : OnlySeesMore v w

tried : (base : ℕ) (v w : BaseView BaseContent) (r : Option (HeldContent BaseContent))
    → v.held ≡ None → MatchOption r (MissesBase base v w) (λ h. GetsBase base v w h) → Tried base v w r
tried base v w None idle missed = record {
  at = tt;
  held = ap (λ (y : BaseView BaseContent). y.held) missed.waits.rest ∙ idle;
  looks = looks_missed base v w missed;
}
tried base v w (Some h) idle got = record {
  at = got.at;
  held = ap (λ (y : BaseView BaseContent). y.held) got.rest;
  looks = looks_locked base v w h got;
}

told : (c : goal.After-try_lock_base) → Tried c.args.base c.args.pass.now.knows c.try_lock_base.new.pass.knows c.try_lock_base.result
told c = tried c.args.base c.args.pass.now.knows c.try_lock_base.new.pass.knows c.try_lock_base.result c.requires.idle c.try_lock_base.ensures.taken

pub returns-clause-at : goal.returns-clause-at
returns-clause-at c = (told c).at

pub returns-clause-held : goal.returns-clause-held
returns-clause-held c = (told c).held

pub returns-clause-looks : goal.returns-clause-looks
returns-clause-looks c = (told c).looks
