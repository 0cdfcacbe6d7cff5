use Rattle.std.proofs.Common.{rules}
use Rattle.base_row.specs.Calls.{known_of}
use Rattle.hr_timers.proofs.Turning.{same_offline}
use Rattle.hr_timers.proofs.timers.Timers.offline_logged.Goals as goal

pub returns-clause-same : goal.returns-clause-same
returns-clause-same g c = same_offline g.S.ReceiptSink.pushed c.args.self.now.about c.args.base c.args.heir c.args.reading c.args.pass.now.known
    (known_of c.go_offline-answer.new.pass.knows) c.args.budget c.go_offline-answer.result c.args.sink.now c.go_offline-answer.new.sink (search rules)
