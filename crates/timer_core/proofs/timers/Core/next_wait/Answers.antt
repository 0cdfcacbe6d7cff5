use Rattle.std.proofs.Common.{sym, subst}
use Rattle.timer_core.specs.Waits.{IsNextWait}
use Rattle.timer_core.proofs.LeastWait.{wait-contexts}
use Rattle.timer_core.proofs.timers.Core.next_wait.Goals as goal

pub returns : goal.returns
returns g c =
    let k = c.args.self.now in
    subst (IsNextWait k c.args.base c.args.reading) (sym c.sooner.ensures)
    (wait-contexts k c.args.base c.args.reading c.wait_in-hard.result c.wait_in-soft.result c.wait_in-hard.ensures c.wait_in-soft.ensures)
