use Rattle.hulayban_c.proofs.Looking.{three_looks}
use Rattle.hulayban_c.proofs.shared.waiting.least_in.Goals as goal

pub returns-clause-looks : goal.returns-clause-looks
returns-clause-looks c =
    three_looks c.args.timers.now.about c.args.pass.now c.wait_on.new.pass c.wait_on-2.new.pass c.wait_on-3.new.pass c.args.context c.args.base c.args.reading _ _ _ _ _
    c.in_ok-mono.ensures.looks c.in_ok-real.ensures.looks c.in_ok-boot.ensures.looks c.sooner.ensures c.sooner-2.ensures
