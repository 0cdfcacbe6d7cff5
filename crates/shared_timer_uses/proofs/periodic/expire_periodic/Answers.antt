use Rattle.shared_timer_uses.proofs.Turning.{ticked}
use Rattle.shared_timer_uses.proofs.periodic.expire_periodic.Goals as goal

pub returns-clause-ticked : goal.returns-clause-ticked
returns-clause-ticked g c =
    ticked c.args.timers.now.about c.args.base c.args.reading c.args.pass.now.known c.expire.new.pass.known c.args.log.now.receipts
    c.expire.new.log.receipts c.args.interval c.expire.ensures.pass.knows.history c.expire.new.handler c.expire.result c.expire.ensures.expires
