-- How links are written.
use Rattle.std.specs.Prelude.{ℕ, List, nat_eq, if◌then◌else◌, slice_set}
use Rattle.timer_tree.specs.Nodes.{none, node_at, pick, child_side}
use Rattle.timer_tree.specs.declared.node.Node.{Node}
use Rattle.timer_tree.specs.declared.node.Side.{Side}

-- a node with another one below it on a side
abbrev pub with_child : Node → Side → ℕ → Node
with_child node s n = record node { left = pick s n node.left; right = pick s node.right n }

-- a node with another one below it on a side, another parent and another rank
abbrev pub linked : Side → Node → (child parent rank : ℕ) → Node
linked side node child parent rank = record (with_child node side child) { parent = parent; rank = rank }

-- the nodes after one has got another parent
abbrev pub adopted : List Node → (n parent : ℕ) → List Node
adopted xs n parent = slice_set xs n (record (node_at xs n) { parent = parent })

-- a node with another node in place of one below it
abbrev pub replaced : Node → (from to : ℕ) → Node
replaced node from to = with_child node (child_side node from) to

-- the nodes and the root after one node has got another's place
abbrev pub relinked : List Node → (root parent from to : ℕ) → List Node × ℕ
relinked xs root parent from to = if nat_eq parent none then (xs, to) else (slice_set xs parent (replaced (node_at xs parent) from to), root)
