-- How a subtree is rotated where one of its sides is too high.
use Rattle.std.specs.Prelude.{ℕ, List, nat_eq, ◌||◌, if◌then◌else◌, slice_set}
use Rattle.timer_tree.specs.Nodes.{none, node_at, near, far, other_side, with_links, next}
use Rattle.timer_tree.specs.Links.{linked, adopted, relinked}
use Rattle.timer_tree.specs.declared.node.Node.{Node}
use Rattle.timer_tree.specs.declared.node.Side.{Side}

-- one node of the block gets other links
abbrev pub set_linked : List Node → (n : ℕ) → Side → (child parent rank : ℕ) → List Node
set_linked xs n side child parent rank = slice_set xs n (linked side (node_at xs n) child parent rank)

-- the high node m is set above the low one n, which gets the inner subtree k
unfoldable pub rotated_once : List Node → Side → (n m k parent rank : ℕ) → List Node
rotated_once xs side n m k parent rank =
    set_linked (set_linked (adopted xs k n) n side k m (next (node_at xs k).rank)) m (other_side side) n parent rank

-- the inner node k is set above both, which get its two subtrees
unfoldable pub rotated_twice : List Node → Side → (n m k inner outer expires low parent rank : ℕ) → List Node
rotated_twice xs side n m k inner outer expires low parent rank =
    let kept = adopted (adopted xs inner m) outer n in
    let lowered = set_linked (set_linked kept n side outer k low) m (other_side side) inner k low in
    slice_set lowered k (with_links side expires m n parent rank)

-- the same by the inner node
abbrev pub twice_by : List Node → Side → (n m k : ℕ) → (inner : Node) → (parent rank : ℕ) → List Node
twice_by xs side n m k inner parent rank = rotated_twice xs side n m k (near side inner) (far side inner) inner.expires inner.rank parent rank

-- a subtree that is too high on a side, with the nodes at its root and at the high one's, and its new root
unfoldable pub rotated : List Node → Side → (n : ℕ) → (low : Node) → (m : ℕ) → (high : Node) → List Node × ℕ
rotated xs side n low m high =
    let k = far side high in
    if nat_eq (next (node_at xs (near side high)).rank) high.rank || nat_eq k none then (rotated_once xs side n m k low.parent low.rank, m)
    else (twice_by xs side n m k (node_at xs k) low.parent low.rank, k)

-- the tree is rotated at a node
unfoldable pub rotated_up : List Node → (root : ℕ) → Side → (at high : ℕ) → List Node × ℕ
rotated_up xs root side at high =
    let low = node_at xs at in
    let done = rotated xs side at low high (node_at xs high) in
    relinked done.0 root low.parent at done.1

-- a node with another rank
abbrev pub ranked : List Node → (n rank : ℕ) → List Node
ranked xs n rank = slice_set xs n (record (node_at xs n) { rank = rank })
