use Rattle.std.proofs.Common.{◌∙◌, ap}
use Rattle.seq_timer.specs.Systems.{BaseContent}
use Rattle.base_row.specs.declared.view.BaseView.{BaseView}
use Rattle.base_row.specs.Calls.{timer_seen}
use Rattle.hr_timers.proofs.Making.{carry_stays, extends_freed}
use Rattle.hr_timers.proofs.under_lock.enter_once.Goals as goal

pub returns-clause-rest : goal.returns-clause-rest
returns-clause-rest g c =
    let v = c.args.pass.now.knows in
    record {
      row = c.unlock_base.ensures.row;
      rests = record {
        held = ap (λ (y : BaseView BaseContent). y.held) c.unlock_base.ensures.free.rest;
        carry = ap (λ (y : BaseView BaseContent). y.carry) c.unlock_base.ensures.free.rest
            ∙ (ap (λ (y : BaseView BaseContent). y.carry) c.append_logged-reply.ensures.adds.rest
            ∙ carry_stays c.args.timer c.args.held.base (timer_seen c.args.row.now.about v c.args.timer) c.args.event.now v.carry c.requires.stays
            c.requires.holds.holds.free);
      };
    }

pub returns-clause-adds : goal.returns-clause-adds
returns-clause-adds g c =
    extends_freed c.args.row.now.about c.fresh.ensures.fresh c.args.held c.append_logged-reply.new.held c.args.timer c.args.event.now c.args.pass.now.knows
    c.append_logged-reply.new.pass.knows c.unlock_base.new.pass.knows c.requires.holds.within
    c.append_logged-reply.ensures.adds c.append_logged-reply.ensures.held c.requires.stays c.unlock_base.ensures.free
