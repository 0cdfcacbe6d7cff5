use Rattle.hr_timers.proofs.OneClaim.{has_only}
use Rattle.shared_timer_uses.proofs.tests.of_tries.forward.Goals as goal

pub try_forward-requires-clause-claim : goal.try_forward-requires-clause-claim
try_forward-requires-clause-claim c = has_only c.args.timers.now.about c.args.pass.now.known c.args.claim.now c.requires.within c.requires.only
