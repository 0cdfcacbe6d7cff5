use Rattle.std.proofs.Common.{arith, ap, ◌+◌, ◌∙◌, sym, subst}
use Rattle.timer_tree.specs.declared.node.Node.{Node}
use Rattle.timer_tree.specs.Takes.{IsLowering}
use Rattle.timer_tree.proofs.Taking.{lowering_step}
use Rattle.timer_tree.proofs.erase.leftmost.Goals as goal

pub loop-node-init : goal.loop-node-init
loop-node-init g c = record {
  lowering = λ root above ps start. subst (λ k. IsLowering c.args.block.now root above ps c.args.from c.read-node.result c.args.steps.now k)
      (sym c.read-node.ensures.steps) (subst (λ x. IsLowering c.args.block.now root above ps c.args.from x c.args.steps.now (c.args.steps.now + 1))
      (sym c.read-node.ensures.node) start);
  links = c.read-node.ensures.links;
}

pub loop-node-preserved : goal.loop-node-preserved
loop-node-preserved g c =
    let read = c.read-node-in-loop-node in
    record {
      lowering = λ root above ps below. (lowering_step _ root _ _ _ _ _ _ above ps (c.loop-node.invariant.lowering root above ps below) c.loop-node-test.true
          read.ensures.node read.ensures.steps).0;
      links = read.ensures.links;
    }

pub loop-node-smaller : goal.loop-node-smaller
loop-node-smaller g c =
    let read = c.read-node-in-loop-node in
    (lowering_step _ c.requires.0 _ _ _ _ _ _ c.requires.1 c.requires.2 (c.loop-node.invariant.lowering c.requires.0 c.requires.1 c.requires.2 c.requires.3)
    c.loop-node-test.true read.ensures.node read.ensures.steps).1

pub returns-clause-high : goal.returns-clause-high
returns-clause-high g c =
    let so_far = c.loop-node.invariant.lowering c.requires.0 c.requires.1 c.requires.2 c.requires.3 in
    omega (arith, ap (λ (x : Node). x.rank) (so_far.node_is ∙ so_far.cut.under.0.is), so_far.cut.balanced.0.below_a)

pub returns-clause-inside : goal.returns-clause-inside
returns-clause-inside g c =
    (c.loop-node.invariant.lowering c.requires.0 c.requires.1 c.requires.2 c.requires.3).cut.under.0.inside
