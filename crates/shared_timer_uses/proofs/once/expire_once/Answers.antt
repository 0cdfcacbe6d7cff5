use Rattle.shared_timer_uses.proofs.Turning.{ran_once}
use Rattle.shared_timer_uses.proofs.once.expire_once.Goals as goal

pub returns-clause-ran : goal.returns-clause-ran
returns-clause-ran g c =
    ran_once c.args.timers.now.about c.args.base c.args.reading c.args.pass.now.known c.expire.new.pass.known c.args.log.now.receipts
    c.expire.new.log.receipts c.expire.new.handler c.expire.result c.expire.ensures.expires
