use Rattle.std.proofs.Common.{sym, subst, arith}
use Rattle.timer_queue.specs.Pairs.{IsQueue}
use Rattle.timer_queue.proofs.Pairs.{IsQueue-empty}
use Rattle.timer_queue.proofs.list.ListQueueQueue.make.Goals as goal

pub invariant_of-result : goal.invariant_of-result
invariant_of-result c = (
  subst (λ ps. IsQueue c.args.room ps) (sym c.in_ok-list.ensures.items) (IsQueue-empty c.args.room),
  omega (arith, c.in_ok-list.ensures.capacity),
)
