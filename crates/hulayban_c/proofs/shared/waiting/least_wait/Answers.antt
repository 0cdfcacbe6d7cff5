use Rattle.hulayban_c.proofs.Looking.{both_contexts}
use Rattle.hulayban_c.proofs.shared.waiting.least_wait.Goals as goal

pub returns-clause-looks : goal.returns-clause-looks
returns-clause-looks c =
    both_contexts c.args.timers.now.about c.args.pass.now c.least_in.new.pass c.least_in-2.new.pass c.args.base c.args.reading _ _ _ c.in_ok-hard.ensures.looks
    c.in_ok-soft.ensures.looks c.sooner.ensures
