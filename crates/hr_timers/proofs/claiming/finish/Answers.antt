use Rattle.hr_timers.proofs.Logging.{finishes_before}
use Rattle.hr_timers.proofs.claiming.finish.Goals as goal

pub returns-clause-finishes : goal.returns-clause-finishes
returns-clause-finishes g c = finishes_before g.S.ReceiptSink.pushed c.args.row.now.about c.args.pass.now.knows c.hold_claimed-held.new.pass.knows _ c.args.claim
    c.args.restart c.finish_held.result c.args.sink.now c.finish_held.new.sink c.hold_claimed-held.ensures.looks
    c.finish_held.ensures.finishes
