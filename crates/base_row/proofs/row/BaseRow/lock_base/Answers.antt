use Rattle.base_row.proofs.Calling.{locks_after}
use Rattle.base_row.proofs.row.BaseRow.lock_base.Goals as goal

pub returns-clause-locks : goal.returns-clause-locks
returns-clause-locks g c =
    locks_after c.args.base c.args.pass.now.knows c.try_lock_base.new.pass.knows c.wait_for_base.new.pass.knows c.wait_for_base.result
    c.in_default.ensures.taken.waits c.wait_for_base.ensures.locks
