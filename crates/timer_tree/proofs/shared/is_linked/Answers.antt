use Rattle.std.proofs.Common.{ap, ◌∙◌, not, nat_eq, sym}
use Rattle.std.proofs.lemmas.Bool.{ltb-false}
use Rattle.std.proofs.lemmas.List.{get_or_past}
use Rattle.timer_tree.specs.Nodes.{blank}
use Rattle.timer_tree.specs.declared.node.Node.{Node}
use Rattle.timer_tree.proofs.shared.is_linked.Goals as goal

pub returns-then-not-holds-clause-linked : goal.returns-then-not-holds-clause-linked
returns-then-not-holds-clause-linked g c = ap (λ (x : Node). not (nat_eq x.rank 0))
    (sym (get_or_past c.args.block.now c.args.id blank (ltb-false _ _ (sym c.holds.ensures ∙ c.if-not-holds.true))))
