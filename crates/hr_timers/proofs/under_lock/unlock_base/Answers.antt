use Rattle.hr_timers.proofs.Locks.{locks_freed}
use Rattle.hr_timers.proofs.under_lock.unlock_base.Goals as goal

pub returns-clause-locks : goal.returns-clause-locks
returns-clause-locks c = locks_freed c.args.row.now.about c.args.held c.args.pass.now.knows c.unlock_base.new.pass.knows c.known.ensures c.requires.held
    c.unlock_base.ensures.free
