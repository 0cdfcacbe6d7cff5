use Rattle.hr_timers.proofs.OneClaim.{has_only}
use Rattle.shared_timer_uses.proofs.tests.of_tries.restart.Goals as goal

pub try_finish-requires-clause-claim : goal.try_finish-requires-clause-claim
try_finish-requires-clause-claim g c = has_only c.args.timers.now.about c.args.pass.now.known c.args.claim c.requires.within c.requires.only
