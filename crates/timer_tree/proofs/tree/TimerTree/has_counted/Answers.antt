use Rattle.std.proofs.Common.{ap, ◌∙◌}
use Rattle.timer_queue.specs.Pairs.{has_id}
use Rattle.timer_tree.specs.Trees.{queue_at}
use Rattle.timer_tree.proofs.Stores.{has_stored}
use Rattle.timer_tree.proofs.tree.TimerTree.has_counted.Goals as goal

pub returns-clause-has : goal.returns-clause-has
returns-clause-has g c = c.is_linked.ensures.linked
    ∙ has_stored _ _ _ (queue_at c.self.inside.block c.self.inside.tree.root) c.args.id c.self.invariant.0 (c.self.invariant.1 c.args.id)
    ∙ ap (λ v. has_id c.args.id v.0) c.self.view_is
