use Rattle.hr_timers.proofs.OneClaim.{has_only, none_left}
use Rattle.shared_timer_uses.proofs.tests.of_hr_timers.finish.Goals as goal

pub finish-requires-clause-claim : goal.finish-requires-clause-claim
finish-requires-clause-claim g c = has_only c.args.timers.now.about c.args.pass.now.known c.args.claim c.requires.within c.requires.only

pub returns-clause-unclaimed : goal.returns-clause-unclaimed
returns-clause-unclaimed g c =
    none_left c.args.claim c.args.pass.now.known.claims c.finish.new.pass.known.claims c.finish.ensures.finishes.claims c.requires.only
