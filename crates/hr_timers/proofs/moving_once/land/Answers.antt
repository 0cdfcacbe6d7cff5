use Rattle.std.proofs.Common.{ap, refl, sym, ◌∙◌}
use Rattle.seq_timer.specs.Steps.{Timer}
use Rattle.seq_timer.specs.declared.event.EventBy.TheVariants.{Start}
use Rattle.hr_timers.proofs.Trying.{adds_left, holds_after}
use Rattle.hr_timers.proofs.moving_once.land.Goals as goal

pub leave_first-first-requires : goal.leave_first-first-requires
leave_first-first-requires c =
    let told = c.arrive_logged-reply.ensures in record {
      holds = holds_after c.args.row.now c.args.held c.arrive_logged-reply.new.held c.args.timer (Start c.args.asked.now) c.args.pass.now
          c.arrive_logged-reply.new.pass c.fresh.ensures.fresh c.requires.within.0 c.requires.within.1 told.row told.adds told.held told.arrived
          (record { at = ap (λ (t : Timer). t.base) (sym c.requires.state) ∙ c.requires.moving.1; still = refl });
    }

pub returns-clause-adds : goal.returns-clause-adds
returns-clause-adds c = adds_left c.args.row.now.about c.args.held c.args.timer (Start c.args.asked.now) c.args.pass.now.knows
    c.arrive_logged-reply.new.pass.knows c.leave_first-first.new.pass.knows c.fresh.ensures.fresh c.arrive_logged-reply.ensures.adds
    c.leave_first-first.ensures.looks c.leave_first-first.ensures.own
