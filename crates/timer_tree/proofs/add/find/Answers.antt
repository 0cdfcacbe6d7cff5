use Rattle.std.proofs.Common.{arith, refl, subst, ◌≤◌}
use Rattle.timer_tree.specs.declared.node.Node.{Node}
use Rattle.timer_tree.proofs.Ends.{end_place, last_inside}
use Rattle.timer_tree.proofs.Finds.{finding_end}
use Rattle.timer_tree.specs.Places.{IsPlace}
use Rattle.timer_tree.proofs.add.find.Goals as goal

pub read-node-requires : goal.read-node-requires
read-node-requires g c = record { inside = last_inside _ _ _ _ c.requires.1 c.requires.2 c.if-last-eq-NONE.false }

pub find_below-requires : goal.find_below-requires
find_below-requires g c = (c.requires.0, c.requires.1)

pub returns-then-last-eq-NONE-clause-place : goal.returns-then-last-eq-NONE-clause-place
returns-then-last-eq-NONE-clause-place g c = λ ps tree is.
    subst (λ k. IsPlace c.args.block.now c.args.root k c.args.expires ps c.args.steps.now c.args.steps.now) c.if-last-eq-NONE.true
    (end_place _ _ c.args.last c.args.expires ps _ _ tree is (λ some. absurd (some c.if-last-eq-NONE.true)) (omega arith))

pub returns-then-node-expires-clause-place : goal.returns-then-node-expires-clause-place
returns-then-node-expires-clause-place g c = λ ps tree is.
    end_place _ _ c.args.last c.args.expires ps _ _ tree is
    (λ some. subst (λ (x : Node). x.expires ≤ c.args.expires) c.read-node.ensures.node c.if-node-expires.true) (omega (arith, c.read-node.ensures.steps))

pub returns-clause-place : goal.returns-clause-place
returns-clause-place g c = λ ps tree is.
    finding_end _ _ _ _ ps _ _ _ c.read-node.ensures.steps (c.find_below.ensures.place ps tree)

pub returns-then-node-expires-clause-link : goal.returns-then-node-expires-clause-link
returns-then-node-expires-clause-link g c = last_inside _ _ _ _ c.requires.1 c.requires.2
