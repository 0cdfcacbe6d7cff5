use Rattle.timer_core.proofs.LeastWait.{one-wait}
use Rattle.timer_core.proofs.laws.the_wait_is_one.Goals as goal

pub returns : goal.returns
returns c = one-wait
