-- The nodes of the block, one for each timer number below the room.
use Rattle.std.specs.Prelude.{Bool, nat_eq, if◌then◌else◌, ◌&&◌, ◌≡◌, ℕ, ◌+◌, ◌-◌, ◌^◌, ◌<◌, List, length, ◌%◌, slice_index_or}
use Rattle.timer_tree.specs.declared.node.Node.{Node}
use Rattle.timer_tree.specs.declared.node.Side.{Side}
use Rattle.timer_tree.specs.declared.node.Side.TheVariants as sides

-- the number of no node
abbrev pub none : ℕ
none = 2 ^ 32 - 1

-- the node of a timer that isn't in the tree
abbrev pub blank : Node
blank = record { expires = 0; left = none; right = none; parent = none; rank = 0 }

-- the node with this number, the blank one past the end
abbrev pub node_at : List Node → ℕ → Node
node_at xs n = slice_index_or xs n blank

-- what stands on the left where two stand on a side and on the other
abbrev pub pick : {A : Type 0} → Side → A → A → A
pick sides.Left a b = a
pick sides.Right a b = b

-- the node below on a side
abbrev pub near : Side → Node → ℕ
near s node = pick s node.left node.right

-- the node below on the other side
abbrev pub far : Side → Node → ℕ
far s node = pick s node.right node.left

-- the other side
abbrev pub other_side : Side → Side
other_side s = pick s sides.Right sides.Left

-- the side of one of a node's subtrees
abbrev pub child_side : Node → ℕ → Side
child_side node child = if nat_eq node.left child then sides.Left else sides.Right

-- a node with no subtree
abbrev pub is_leaf : Node → Bool
is_leaf node = nat_eq node.left none && nat_eq node.right none

-- a leaf whose rank is too high
abbrev pub is_high_leaf : Node → Bool
is_high_leaf node = nat_eq node.rank 2 && nat_eq node.left none && nat_eq node.right none

-- a node from what stands on a side and on the other
abbrev pub with_links : Side → (expires near far parent rank : ℕ) → Node
with_links s e a b p h = record { expires = e; left = pick s a b; right = pick s b a; parent = p; rank = h }

-- one more, within 32 bits
unfoldable pub next : ℕ → ℕ
next h = (h + 1) % 2 ^ 32

-- the number of no node, or one below the room
abbrev pub IsLink : ℕ → ℕ → Type 0
IsLink room n = (n ≡ none → ⊥) → n < room

-- each of a node's links is the number of a node or of none
pub record HasLinks (room : ℕ) (node : Node) : Type 0 where
  pub left : IsLink room node.left
  pub right : IsLink room node.right
  pub parent : IsLink room node.parent

-- each link of each node is the number of a node or of none
abbrev pub AreLinked : List Node → Type 0
AreLinked xs = (k : ℕ) → HasLinks (length xs) (node_at xs k)
