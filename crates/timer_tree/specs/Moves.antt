-- How the tree is rebalanced above a subtree that has changed, and how a timer's link is inserted and taken out.
use Rattle.std.specs.Prelude.{ℕ, ◌+◌, ◌-◌, List, nat_eq, nat_lt, if◌then◌else◌, ◌||◌, Bool, true, false, slice_set}
use Rattle.timer_tree.specs.Nodes.{none, node_at, far, next, other_side, child_side, is_leaf, is_high_leaf}
use Rattle.timer_tree.specs.Links.{with_child, adopted, relinked}
use Rattle.timer_tree.specs.Places.{side_of}
use Rattle.timer_tree.specs.Rotate.{ranked, rotated_up}
use Rattle.timer_tree.specs.declared.node.Node.{Node}
use Rattle.timer_tree.specs.declared.node.Side.{Side}
use Rattle.timer_tree.specs.declared.node.Side.TheVariants as sides
use Rattle.timer_tree.specs.declared.rotate.Numbered.{Numbered}
use Rattle.timer_tree.specs.declared.rotate.Top.{Top}
use Rattle.timer_tree.specs.declared.repair.Unbalanced.{Unbalanced}
use Rattle.timer_tree.specs.declared.add.Link.{Link}

-- the nodes, the number of the root, and where a repair goes on
abbrev pub Repairing : Type 0
Repairing = List Node × ℕ × Unbalanced

-- a node has got another rank, and the repair goes on at its parent
abbrev pub gone_on : Unbalanced → (parent rank : ℕ) → Unbalanced
gone_on r parent rank = record { at = parent; child = r.at; rank = rank }

-- the repair goes on nowhere
abbrev pub ended : Unbalanced
ended = record { at = none; child = none; rank = 0 }

-- a node that its subtree on a side has come up to
unfoldable pub raised : List Node → (root : ℕ) → Side → Unbalanced → (sibling parent rank : ℕ) → Repairing
raised xs root side r sibling parent rank =
    let rotated = rotated_up xs root side r.at r.child in
    if nat_eq (next (node_at xs sibling).rank) rank then (ranked xs r.at (next rank), root, gone_on r parent (next rank))
    else (rotated.0, rotated.1, ended)

-- a node whose subtree has risen
unfoldable pub risen : List Node → (root : ℕ) → Unbalanced → Node → Repairing
risen xs root r node =
    let side = child_side node r.child in
    if nat_lt r.rank node.rank then (xs, root, ended) else raised xs root side r (far side node) node.parent node.rank

-- whether one of a node's subtrees is higher
abbrev pub has_higher : List Node → Node → ℕ → Bool
has_higher xs node rank = nat_lt rank (node_at xs node.left).rank || nat_lt rank (node_at xs node.right).rank

-- a node that has its subtree on a side three lower
unfoldable pub sunk : List Node → (root : ℕ) → Side → Unbalanced → (sibling parent rank : ℕ) → Repairing
sunk xs root side r sibling parent rank =
    let rotated = rotated_up xs root (other_side side) r.at sibling in
    let on : List Node → Repairing = λ ys. (ranked ys r.at (rank - 1), root, gone_on r parent (rank - 1)) in
    if nat_eq (node_at xs sibling).rank (rank - 1) then (
    if has_higher xs (node_at xs sibling) r.rank then (rotated.0, rotated.1, ended) else on (ranked xs sibling (rank - 2))
    ) else on xs

-- a node whose subtree has sunk
unfoldable pub lowered : List Node → (root : ℕ) → Unbalanced → Node → Repairing
lowered xs root r node =
    let side = child_side node r.child in
    if nat_lt (r.rank + 2) node.rank then sunk xs root side r (far side node) node.parent node.rank
    else (if is_high_leaf node then (ranked xs r.at 1, root, gone_on r node.parent 1) else (xs, root, ended))

-- one step of a repair
abbrev pub repair_step : (rising : Bool) → List Node → (root : ℕ) → Unbalanced → Repairing
repair_step true xs root r = risen xs root r (node_at xs r.at)
repair_step false xs root r = lowered xs root r (node_at xs r.at)

-- a timer inserted into its place
unfoldable pub inserted : List Node → (root parent expires id : ℕ) → List Node × ℕ × Link
inserted xs root parent expires id =
    let linked = slice_set xs id (record { expires = expires; left = none; right = none; parent = parent; rank = 1 }) in
    let node = node_at linked parent in
    let side = side_of expires node.expires in
    if nat_eq parent none then (linked, id, record { side = sides.Left; leaf = false })
    else (slice_set linked parent (with_child node side id), root, record { side = side; leaf = is_leaf node })

-- the subtree of a node with at most one, and its rank
abbrev pub only_child : Node → Top
only_child node = record { root = if nat_eq node.left none then node.right else node.left; rank = node.rank - 1 }

-- a node with at most one subtree is taken out, and the subtree gets its place
unfoldable pub spliced : List Node → (root : ℕ) → Numbered → List Node × ℕ
spliced xs root gone = relinked (adopted xs (only_child gone.node).root gone.node.parent) root gone.node.parent gone.n (only_child gone.node).root

-- another node gets a node's place and all its links
unfoldable pub substituted : List Node → (root id : ℕ) → Numbered → List Node × ℕ
substituted xs root id heir =
    let node = node_at xs id in
    let kept = adopted (adopted xs node.left heir.n) node.right heir.n in
    relinked (slice_set kept heir.n (record node { expires = heir.node.expires })) root node.parent id heir.n
