use Rattle.std.proofs.Common.{rules}
use Rattle.hulayban_c.proofs.Looking.{looks_by}
use Rattle.hulayban_c.proofs.shared.seat.Seat.next.Goals as goal

pub returns : goal.returns
returns c =
    looks_by c.args.self.now _ c.args.base c.args.now.now c.in_ok-reading.reading c.deref.result.now c.in-Rests.pass c.least_wait-wait.new.pass
    c.least_wait-wait.result c.looking_tells.result (search rules) (search rules) (search rules) c.least_wait-wait.ensures.looks c.looking_tells.ensures (search rules)
