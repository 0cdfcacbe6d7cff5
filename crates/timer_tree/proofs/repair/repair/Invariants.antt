use Rattle.std.proofs.Common.{ℕ, List}
use Rattle.timer_tree.specs.Contexts.{IsRepairing}
use Rattle.timer_tree.specs.declared.node.Node.{Node}
use Rattle.timer_tree.proofs.Climbs.{way_left}
use Rattle.timer_tree.proofs.repair.repair.Given as goal

-- the nodes that are left get fewer with each step
abbrev pub invariant-loop-at : goal.invariant-loop-at
invariant-loop-at g l = (xs : List Node) (ps : List (ℕ × ℕ)) (levels old : ℕ) →
    IsRepairing l.rising xs l.fn.block l.fn.root l.fn.broken ps levels old l.fn.steps →
    IsRepairing l.rising xs l.block l.root (record { at = l.at; child = l.child; rank = l.rank }) ps levels old l.steps

abbrev pub decreases-loop-at : goal.decreases-loop-at
decreases-loop-at g l = way_left l.block l.at
