use Rattle.hr_timers.proofs.Logging.{forwards_before}
use Rattle.hr_timers.proofs.claiming.forward.Goals as goal

pub returns-clause-forwards : goal.returns-clause-forwards
returns-clause-forwards g c = forwards_before g.S.ReceiptSink.pushed c.args.row.now.about c.args.pass.now.knows c.hold_claimed-held.new.pass.knows _ c.args.claim
    c.args.reading c.args.interval c.forward_held.result c.args.sink.now c.forward_held.new.sink c.hold_claimed-held.ensures.looks
    c.forward_held.ensures.forwards
