use Rattle.std.proofs.Common.{ℕ, List, length}
use Rattle.timer_tree.specs.Nodes.{node_at, IsLink}
use Rattle.timer_tree.specs.Places.{IsFinding}
use Rattle.timer_tree.specs.Contexts.{IsTree}
use Rattle.timer_tree.proofs.add.find_below.Given as goal

-- the place is found in the subtree that is left
abbrev pub invariant-loop-at : goal.invariant-loop-at
invariant-loop-at g l = record {
  finding : (ps : List (ℕ × ℕ)) → IsTree l.fn.block l.fn.root ps → IsFinding l.fn.block l.fn.root l.parent l.at l.expires ps l.fn.steps l.steps;
  link : IsLink (length l.block) l.parent;
}

abbrev pub decreases-loop-at : goal.decreases-loop-at
decreases-loop-at g l = (node_at l.block l.at).rank
