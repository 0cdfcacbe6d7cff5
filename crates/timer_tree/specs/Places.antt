-- A place in the tree where a timer is to be inserted.
use Rattle.std.specs.Prelude.{ℕ, ◌+◌, ◌≤◌, ◌≡◌, nat_eq, nat_lt, if◌then◌else◌, List, [], ◌∷◌, ◌++◌, length}
use Rattle.timer_queue.specs.Pairs.{put}
use Rattle.timer_tree.specs.Nodes.{none, pick}
use Rattle.timer_tree.specs.Trees.{Tree, Leaf, top, tall, pairs}
use Rattle.timer_tree.specs.Contexts.{Frame, parent_of, pairs_before, pairs_after, Cut}
use Rattle.timer_tree.specs.declared.node.Node.{Node}
use Rattle.timer_tree.specs.declared.node.Side.{Side}
use Rattle.timer_tree.specs.declared.node.Side.TheVariants as sides

-- the side of a node of this expiry where a timer belongs
abbrev pub side_of : (expires node : ℕ) → Side
side_of expires node = if nat_lt expires node then sides.Left else sides.Right

-- a timer of this expiry belongs on the hole's side of its parent
abbrev pub IsOnSide : (expires : ℕ) → List Frame → Type 0
IsOnSide expires [] = Unit
IsOnSide expires (f ∷ c) = side_of expires f.e ≡ f.side

-- on the way down to the place for this expiry, with one step for each node that was passed
pub record IsFinding (xs : List Node) (root parent at expires : ℕ) (ps : List (ℕ × ℕ)) (old_steps steps : ℕ) : Type 0 where
  pub context : List Frame
  pub subtree : Tree
  pub cut : Cut xs root context subtree (tall subtree) ps
  pub at_is : at ≡ top subtree
  pub parent_is : parent ≡ parent_of context
  pub side : IsOnSide expires context
  pub puts : (id : ℕ) → put expires id ps ≡ pairs_before context ++ (put expires id (pairs subtree) ++ pairs_after context)
  pub count : steps ≡ old_steps + length context

-- the place where a pair of this expiry belongs
pub record IsPlace (xs : List Node) (root parent expires : ℕ) (ps : List (ℕ × ℕ)) (old_steps steps : ℕ) : Type 0 where
  pub context : List Frame
  pub cut : Cut xs root context Leaf 0 ps
  pub parent_is : parent ≡ parent_of context
  pub side : IsOnSide expires context
  pub puts : (id : ℕ) → put expires id ps ≡ pairs_before context ++ ((expires, id) ∷ pairs_after context)
  pub count : steps ≤ old_steps + length context + 1

-- the number of the first timer once this one is inserted on a side of this parent
abbrev pub first_on : Side → (parent first id : ℕ) → ℕ
first_on sides.Left parent first id = if nat_eq parent first then id else first
first_on sides.Right parent first id = first

-- the number of the first timer once this one, with this node, is taken out
abbrev pub first_off : Node → (first id : ℕ) → ℕ
first_off node first id = if nat_eq first id then (if nat_eq node.right none then node.parent else node.right) else first

-- the number of the last timer once this one is inserted on a side of this parent: the only one has no parent
abbrev pub last_on : Side → (parent last id : ℕ) → ℕ
last_on side parent last id = if nat_eq parent (pick side none last) then id else last

-- the number of the last timer once this one, with this node, is taken out
abbrev pub last_off : Node → (last id : ℕ) → ℕ
last_off node last id = if nat_eq last id then (if nat_eq node.left none then node.parent else node.left) else last
