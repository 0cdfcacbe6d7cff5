use Rattle.std.proofs.Common.{ap, ◌≡◌, ◌⊎◌, arith, inl, inr, subst, sym}
use Rattle.timer_tree.specs.declared.node.Node.{Node}
use Rattle.timer_tree.specs.Takes.{IsTaken}
use Rattle.timer_tree.proofs.Taking.{place_of, above_right, right_part, taking_rank, taken_one, taken_two}
use Rattle.timer_tree.proofs.erase.take_out.Goals.{else-node-ne-NONE-via-then-node-ne-NONE+else-node-ne-NONE-2, else-node-ne-NONE-via-else-node-ne-NONE}
use Rattle.timer_tree.proofs.erase.take_out.Goals as goal

pub leftmost-heir-requires : goal.leftmost-heir-requires
leftmost-heir-requires g c =
    let taking = c.requires.taking.1 in
    let below = right_part _ _ _ _ _ taking c.args.steps.now c.requires.node c.if-node-ne-NONE-2.true in
    (c.args.root.now, above_right (place_of _ _ _ _ taking), c.requires.taking.0, below)

pub returns-then-node-ne-NONE-2 : goal.returns-then-node-ne-NONE-2
returns-then-node-ne-NONE-2 g c = λ ps taking.
    let lowest = c.leftmost-heir.ensures.lowest c.args.root.now (above_right (place_of _ _ _ _ taking)) ps
    (right_part _ _ _ _ ps taking c.args.steps.now c.requires.node c.if-node-ne-NONE-2.true) in
    subst (λ child. IsTaken c.args.block.now c.args.id ps c.substitute.new.block c.substitute.new.root
    (record { at = c.parent_of_gap-at.result; child = child.root; rank = child.rank }) c.args.steps.now c.substitute.new.steps)
    (sym c.only_child-child.ensures)
    (taken_two _ _ _ ps c.leftmost-heir.result (c.splice.new.block, c.splice.new.root) (c.substitute.new.block, c.substitute.new.root) _ _ _ _ taking lowest
    c.leftmost-heir.ensures.last c.splice.ensures.block c.substitute.ensures.block c.parent_of_gap-at.ensures
    (omega (arith, c.splice.ensures.steps, c.substitute.ensures.steps)))

pub returns : goal.returns
returns g c = λ ps taking.
    let part_free : (c.args.node.left ≡ 4294967295) ⊎ (c.args.node.right ≡ 4294967295) = elim c.else-node-ne-NONE.branch [
      | else-node-ne-NONE-via-then-node-ne-NONE+else-node-ne-NONE-2 w ↦ inr w.if-node-ne-NONE-2.false
      | else-node-ne-NONE-via-else-node-ne-NONE w ↦ inl w.if-node-ne-NONE.false
    ] in
    subst (λ child. IsTaken c.args.block.now c.args.id ps c.splice-2.new.block c.splice-2.new.root
    (record { at = c.args.node.parent; child = child.root; rank = child.rank }) c.args.steps.now c.splice-2.new.steps) (sym c.only_child-child-2.ensures)
    (taken_one _ _ _ c.args.node ps (c.splice-2.new.block, c.splice-2.new.root) _ _ taking c.requires.node part_free c.splice-2.ensures.block
    c.splice-2.ensures.steps)

pub only_child-child-requires-2 : goal.only_child-child-requires-2
only_child-child-requires-2 g c = omega (arith, ap (λ (x : Node). x.rank) c.requires.node, taking_rank _ _ _ _ c.requires.taking.1)

pub splice-requires-2-clause-high : goal.splice-requires-2-clause-high
splice-requires-2-clause-high g c = omega (arith, ap (λ (x : Node). x.rank) c.requires.node, taking_rank _ _ _ _ c.requires.taking.1)
