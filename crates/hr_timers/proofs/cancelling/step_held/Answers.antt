use Rattle.hr_timers.proofs.Behind.{holds_still}
use Rattle.hr_timers.proofs.cancelling.step_held.Goals as goal

pub returns-clause-holds : goal.returns-clause-holds
returns-clause-holds c =
    (holds_still c.args.row.now c.args.pass.now c.step_counter-rose.new.pass c.args.held.now c.args.timer c.requires.holds c.step_counter-rose.ensures.row
    c.step_counter-rose.ensures.sees c.known.ensures c.known-2.ensures).0

pub returns-clause-same : goal.returns-clause-same
returns-clause-same c =
    (holds_still c.args.row.now c.args.pass.now c.step_counter-rose.new.pass c.args.held.now c.args.timer c.requires.holds c.step_counter-rose.ensures.row
    c.step_counter-rose.ensures.sees c.known.ensures c.known-2.ensures).1
