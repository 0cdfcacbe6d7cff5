use Rattle.std.proofs.Common.{ap, ◌∙◌}
use Rattle.timer_queue.specs.Pairs.{has_any}
use Rattle.timer_tree.proofs.Forests.{has_stored_all}
use Rattle.timer_tree.proofs.six.SixTrees.has_counted.Goals as goal

pub returns-clause-has : goal.returns-clause-has
returns-clause-has g c = c.is_linked.ensures.linked ∙ has_stored_all c.self.inside.block c.self.inside.trees c.args.id c.self.invariant.0
    ∙ ap (λ v. has_any c.args.id v.0) c.self.view_is
