-- How a timer is taken out of the tree.
use Rattle.std.specs.Prelude.{ℕ, ◌+◌, ◌*◌, ◌^◌, ◌<◌, ◌≤◌, ◌≡◌, List, [], ◌++◌, length, false}
use Rattle.timer_queue.specs.Pairs.{without}
use Rattle.timer_tree.specs.Nodes.{node_at}
use Rattle.timer_tree.specs.Trees.{Tree, Fork, times, Keeps}
use Rattle.timer_tree.specs.Contexts.{Frame, pairs_before, Cut, IsTree, IsUnbalanced}
use Rattle.timer_tree.specs.declared.node.Node.{Node}
use Rattle.timer_tree.specs.declared.repair.Unbalanced.{Unbalanced}

-- on the way to the first node of a subtree, with one step for each node
pub record IsLowering (xs : List Node) (root : ℕ) (above : List Frame) (ps : List (ℕ × ℕ)) (n : ℕ) (node : Node) (old_steps steps : ℕ) : Type 0 where
  pub context : List Frame
  pub l : Tree
  pub e : ℕ
  pub h : ℕ
  pub r : Tree
  pub cut : Cut xs root (context ++ above) (Fork l n e h r) h ps
  pub first : pairs_before context ≡ []
  pub node_is : node ≡ node_at xs n
  pub count : steps ≡ old_steps + length context + 1

-- a timer that stands in a tree of these pairs
pub record IsTaking (xs : List Node) (root id : ℕ) (ps : List (ℕ × ℕ)) : Type 0 where
  pub tree : IsTree xs root ps
  pub present : 0 < times id ps

-- the tree without it, which is balanced but for some ranks; other timers' nodes have not changed
pub record IsTaken (xs : List Node) (id : ℕ) (ps : List (ℕ × ℕ)) (ys : List Node) (new_root : ℕ) (r : Unbalanced) (old_steps steps : ℕ) : Type 0 where
  pub unbalanced : IsUnbalanced false ys new_root r (without id ps)
  pub kept : Keeps (λ k. times k ps) xs ys
  pub low : (d : ℕ) → length ps + 1 < 2 ^ d → length unbalanced.context + 1 ≤ 2 * d
  pub count : steps ≤ old_steps + length unbalanced.context + 10
