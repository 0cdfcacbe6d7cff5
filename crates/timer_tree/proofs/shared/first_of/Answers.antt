use Rattle.std.proofs.Common.{if◌then◌else◌, Some, None, sym, ap, ◌∙◌}
use Rattle.std.proofs.lemmas.Bool.{ne_eqb}
use Rattle.timer_tree.specs.Nodes.{node_at}
use Rattle.timer_tree.specs.declared.node.Node.{Node}
use Rattle.timer_tree.proofs.Stores.{first_stored}
use Rattle.timer_tree.proofs.shared.first_of.Goals as goal

pub read-node-requires : goal.read-node-requires
read-node-requires g c = record { inside = (first_stored _ _ _ _ c.requires.stored).1 c.if-tree.false }

pub returns-clause-first : goal.returns-clause-first
returns-clause-first g c =
    let first = c.args.tree.now.first in
    let stored = first_stored _ _ _ _ c.requires.stored in
    ap (λ (x : Node). Some (x.expires, first)) c.read-node.ensures.node
    ∙ sym (stored.0 ∙ ap (λ b. if b then None else Some ((node_at c.args.block.now first).expires, first)) (ne_eqb _ _ c.if-tree.false))
