use Rattle.std.proofs.Common.{ap, sym, ◌∙◌}
use Rattle.seq_timer.specs.Contents.{front_on}
use Rattle.seq_timer.specs.Systems.{BaseContent}
use Rattle.hr_timers.proofs.Leading.{leads_on, none_on}
use Rattle.hr_timers.proofs.Making.{looks_on, looks_trans}
use Rattle.hr_timers.proofs.Standing.{knows_in}
use Rattle.hr_timers.proofs.trying_once.try_next.Goals as goal

pub returns-in-Some-front-clause-next : goal.returns-in-Some-front-clause-next
returns-in-Some-front-clause-next c =
    let o = c.args.row.now.about in
    let u = c.args.pass.now.knows in
    let v = c.lock_once.new.pass.knows in
    let w = c.leave_base.new.pass.knows in
    let told = c.leave_base.ensures in (
      looks_on u w (looks_trans u v w c.in-Some.ensures.looks told.looks),
      leads_on o w c.fresh.ensures.fresh (knows_in o w told.rest.row.about c.known.ensures) c.args.context c.args.base c.args.clock
          (c.in-Some-front.expires, c.in-Some-front.timer)
          (ap (λ (b : BaseContent). front_on c.args.context c.args.clock b.content) told.content ∙ (sym c.front_on-front.ensures ∙ c.in-Some-front.is)),
    )

pub returns-in-None-clause-next : goal.returns-in-None-clause-next
returns-in-None-clause-next c =
    let o = c.args.row.now.about in
    let u = c.args.pass.now.knows in
    let v = c.lock_once.new.pass.knows in
    let w = c.leave_base.new.pass.knows in
    let told = c.leave_base.ensures in (
      looks_on u w (looks_trans u v w c.in-Some.ensures.looks told.looks),
      none_on o w c.fresh.ensures.fresh (knows_in o w told.rest.row.about c.known.ensures) c.args.context c.args.base c.args.clock
          (ap (λ (b : BaseContent). front_on c.args.context c.args.clock b.content) told.content ∙ (sym c.front_on-front.ensures ∙ c.in-None.is)),
    )
