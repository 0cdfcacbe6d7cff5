use Rattle.std.proofs.Common.{ℕ, ◌+◌, List, length}
use Rattle.timer_tree.specs.Nodes.{node_at, HasLinks}
use Rattle.timer_tree.specs.Contexts.{Frame}
use Rattle.timer_tree.specs.Takes.{IsLowering}
use Rattle.timer_tree.proofs.erase.leftmost.Given as goal

-- the first node is found on the left of each node that is passed
abbrev pub invariant-loop-node : goal.invariant-loop-node
invariant-loop-node g l = record {
  lowering : (root : ℕ) (above : List Frame) (ps : List (ℕ × ℕ)) →
      IsLowering l.fn.block root above ps l.fn.from (node_at l.fn.block l.fn.from) l.fn.steps (l.fn.steps + 1) →
      IsLowering l.fn.block root above ps l.n l.node l.fn.steps l.steps;
  links : HasLinks (length l.block) l.node;
}

abbrev pub decreases-loop-node : goal.decreases-loop-node
decreases-loop-node g l = (node_at l.block l.n).rank
