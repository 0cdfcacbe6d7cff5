use Rattle.std.proofs.Common.{rules}
use Rattle.base_row.specs.Calls.{known_of}
use Rattle.hr_timers.proofs.Turning.{same_online}
use Rattle.hr_timers.proofs.timers.Timers.online.Goals as goal

pub returns-clause-same : goal.returns-clause-same
returns-clause-same g c = same_online c.args.self.now.about c.args.pass.now.known (known_of c.go_online-answer.new.pass.knows) c.args.base
    c.go_online-answer.result (search rules)
