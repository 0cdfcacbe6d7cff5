use Rattle.std.proofs.Common.{ap, sym, ◌∙◌, refl}
use Rattle.seq_timer.specs.declared.event.EventBy.TheVariants.{Start}
use Rattle.seq_timer.specs.Steps.{Timer}
use Rattle.base_row.proofs.Calling.{may_start}
use Rattle.hr_timers.proofs.Making.{extends_freed}
use Rattle.hr_timers.proofs.Standing.{knows_in}
use Rattle.hr_timers.proofs.Keeping.{keeps_freed}
use Rattle.hr_timers.proofs.moving.settle.Goals as goal

pub arrive_logged-reply-requires-clause-may : goal.arrive_logged-reply-requires-clause-may
arrive_logged-reply-requires-clause-may g c =
    let o = c.args.row.now.about in
    let v = c.args.pass.now.knows in
    let same = c.requires.state in
    let there = ap (λ (t : Timer). t.base) (sym same) ∙ c.requires.moving.1 in
    may_start o v c.args.held c.args.timer c.args.asked.now c.requires.online
    ((knows_in o v c.requires.row.about c.known.ensures).held c.args.held c.requires.carries.0).1.0 c.requires.within.0
    c.requires.carries.0 c.requires.carries.1
    (ap (λ (t : Timer). t.moving) (sym same) ∙ c.requires.moving.0) (c.requires.moving.2 ∙ sym there) there

pub returns-clause-keeps : goal.returns-clause-keeps
returns-clause-keeps g c = keeps_freed c.args.row.now.about c.args.held c.arrive_logged-reply.new.held c.args.timer (Start c.args.asked.now)
    c.args.pass.now.knows c.arrive_logged-reply.new.pass.knows c.unlock_base.new.pass.knows c.arrive_logged-reply.ensures.adds c.unlock_base.ensures.free

pub returns-clause-adds : goal.returns-clause-adds
returns-clause-adds g c =
    let there = ap (λ (t : Timer). t.base) (sym c.requires.state) ∙ c.requires.moving.1 in
    extends_freed c.args.row.now.about c.fresh.ensures.fresh c.args.held c.arrive_logged-reply.new.held c.args.timer (Start c.args.asked.now)
    c.args.pass.now.knows c.arrive_logged-reply.new.pass.knows c.unlock_base.new.pass.knows
    c.requires.within.0 c.arrive_logged-reply.ensures.adds c.arrive_logged-reply.ensures.held
    (record { at = there; still = refl }) c.unlock_base.ensures.free
