use Rattle.timer_tree.proofs.Climbs.{can_step, repairing_step, repairing_smaller, repairing_end}
use Rattle.timer_tree.proofs.repair.repair.Goals as goal

pub step-next-requires : goal.step-next-requires
step-next-requires g c =
    let can = can_step c.args.rising c.loop-at.block c.loop-at.root _ c.requires.1 c.loop-at-test.true
    (c.loop-at.invariant c.requires.0 c.requires.1 c.requires.2 c.requires.3 c.requires.4).unbalanced in
    record { inside = can.inside; small = can.small; child = can.child; low = can.low }

pub loop-at-preserved : goal.loop-at-preserved
loop-at-preserved g c = λ xs ps levels old start.
    repairing_step c.args.rising _ _ _ _ _ _ _ ps levels _ _ _ (c.loop-at.invariant xs ps levels old start) c.loop-at-test.true c.step-next.ensures.block
    c.step-next.ensures.steps

pub loop-at-smaller : goal.loop-at-smaller
loop-at-smaller g c = repairing_smaller c.args.rising _ _ _ _ _ _ _
    (c.loop-at.invariant c.requires.0 c.requires.1 c.requires.2 c.requires.3 c.requires.4).unbalanced c.loop-at-test.true c.step-next.ensures.block

pub returns : goal.returns
returns g c = λ xs ps levels old start. repairing_end c.args.rising _ _ _ _ ps levels _ _ (c.loop-at.invariant xs ps levels old start) c.loop-at-test.false
