use Rattle.std.proofs.Common.{ap, refl, ◌∙◌}
use Rattle.seq_timer.specs.Systems.{BaseContent}
use Rattle.seq_timer.specs.declared.event.EventBy.TheVariants.{Start}
use Rattle.base_row.specs.Calls.{timer_seen}
use Rattle.base_row.specs.declared.view.BaseView.{BaseView}
use Rattle.hr_timers.proofs.Making.{carry_stays}
use Rattle.hr_timers.proofs.Trying.{adds_left, holds_after}
use Rattle.hr_timers.proofs.starting_once.stay_first.Goals as goal

pub leave_first-first-requires : goal.leave_first-first-requires
leave_first-first-requires c =
    let v = c.args.pass.now.knows in
    let told = c.append_logged-reply.ensures in
    let holds = c.requires.holds in record {
      holds = holds_after c.args.row.now c.args.held c.append_logged-reply.new.held c.args.timer (Start c.args.asked.now) c.args.pass.now
          c.append_logged-reply.new.pass c.fresh.ensures.fresh holds.within holds.holds.within told.row told.adds told.held
          (ap (λ (y : BaseView BaseContent). y.carry) told.adds.rest
          ∙ carry_stays c.args.timer c.args.held.base (timer_seen c.args.row.now.about v c.args.timer) (Start c.args.asked.now) v.carry
          (record { at = holds.on.at; still = refl }) holds.holds.free)
          (record { at = holds.on.at; still = refl });
    }

pub returns-clause-adds : goal.returns-clause-adds
returns-clause-adds c = adds_left c.args.row.now.about c.args.held c.args.timer (Start c.args.asked.now) c.args.pass.now.knows
    c.append_logged-reply.new.pass.knows c.leave_first-first.new.pass.knows c.fresh.ensures.fresh c.append_logged-reply.ensures.adds
    c.leave_first-first.ensures.looks c.leave_first-first.ensures.own
