use Rattle.shared_timer_uses.proofs.Claims.{here_claims}
use Rattle.shared_timer_uses.proofs.tests.of_tries.start.Goals as goal

pub returns-clause-claims : goal.returns-clause-claims
returns-clause-claims c =
    here_claims c.args.timers.now.about c.args.pass.now c.try_start.new.pass c.args.timer c.args.asked.now c.try_start.result c.try_start.ensures.starts
