use Rattle.std.proofs.Common.{refl, subst, ℕ}
use Rattle.timer_tree.specs.Places.{IsFinding}
use Rattle.timer_tree.proofs.Finds.{finding_down, finding_start, finding_inside}
use Rattle.timer_tree.proofs.add.find_below.Goals as goal

pub loop-at-init : goal.loop-at-init
loop-at-init g c = record {
  finding = λ ps tree. finding_start _ _ c.args.expires ps _ tree;
  link = λ some. absurd (some refl);
}

pub read-node-requires : goal.read-node-requires
read-node-requires g c =
    record { inside = finding_inside _ _ _ _ _ _ _ _ c.loop-at-test.true (c.loop-at.invariant.finding c.requires.0 c.requires.1) }

pub loop-at-preserved : goal.loop-at-preserved
loop-at-preserved g c = record {
  finding = λ ps tree. (finding_down _ _ _ _ _ _ ps _ _ _ _ _ c.loop-at-test.true (c.loop-at.invariant.finding ps tree)
      c.read-node.ensures.node c.read-node.ensures.steps c.side_of.ensures c.near-at.ensures).0;
  link = λ some. finding_inside _ _ _ _ _ _ _ _ c.loop-at-test.true (c.loop-at.invariant.finding c.requires.0 c.requires.1);
}

pub loop-at-smaller : goal.loop-at-smaller
loop-at-smaller g c = (finding_down _ _ _ _ _ _ c.requires.0 _ _ _ _ _ c.loop-at-test.true
    (c.loop-at.invariant.finding c.requires.0 c.requires.1) c.read-node.ensures.node c.read-node.ensures.steps c.side_of.ensures c.near-at.ensures).1

pub returns-clause-place : goal.returns-clause-place
returns-clause-place g c = λ ps tree.
    subst (λ (at : ℕ). IsFinding c.args.block.now c.args.root c.loop-at.parent at c.args.expires ps c.args.steps.now c.loop-at.steps) c.loop-at-test.false
    (c.loop-at.invariant.finding ps tree)
