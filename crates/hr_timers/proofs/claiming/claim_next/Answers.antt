use Rattle.hr_timers.proofs.Logging.{claims_before}
use Rattle.hr_timers.proofs.claiming.claim_next.Goals as goal

pub returns-clause-claims : goal.returns-clause-claims
returns-clause-claims g c = claims_before g.S.ReceiptSink.pushed c.args.row.now.about c.args.pass.now.knows c.lock-held.new.pass.knows _ c.args.context c.args.base
    c.args.reading c.claim_on.result c.args.sink.now c.claim_on.new.sink c.lock-held.ensures.looks
    c.claim_on.ensures.claims
