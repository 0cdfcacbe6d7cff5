use Rattle.std.proofs.Common.{arith, ap, sym}
use Rattle.timer_tree.specs.Trees.{last_id}
use Rattle.timer_tree.proofs.Stores.{empty_stored}
use Rattle.timer_tree.proofs.tree.TimerTreeQueue.make.Goals as goal

pub invariant_of-result : goal.invariant_of-result
invariant_of-result c =
    let empty = empty_stored c.in_ok-block.block c.args.room (omega arith) c.in_ok-block.ensures in
    (empty.0, λ k gone. empty.2 k, sym (ap last_id empty.1))
