use Rattle.hr_timers.proofs.Making.{looks_locked}
use Rattle.hr_timers.proofs.under_lock.lock.Goals as goal

pub returns-clause-looks : goal.returns-clause-looks
returns-clause-looks g c = looks_locked c.args.base c.args.pass.now.knows c.lock_base.new.pass.knows c.lock_base.result c.lock_base.ensures.locks
