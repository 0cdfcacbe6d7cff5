-- The tree that the nodes make, and what a queue of it holds.
use Rattle.std.specs.Prelude.{ℕ, ◌+◌, ◌≤◌, ◌<◌, ◌≡◌, List, [], ◌∷◌, ◌++◌, length, zero, suc, nat_eq, if◌then◌else◌}
use Rattle.timer_tree.specs.Nodes.{none, node_at}
use Rattle.timer_tree.specs.declared.node.Node.{Node}

-- the pairs of the subtree of the tree below a node, the first due at the front; the first number is at least its rank
abbrev pub pairs_below : ℕ → List Node → ℕ → List (ℕ × ℕ)
pairs_below zero xs n = []
pairs_below (suc k) xs n =
    if nat_eq n none then [] else pairs_below k xs (node_at xs n).left ++ ((node_at xs n).expires, n) ∷ pairs_below k xs (node_at xs n).right

-- the pairs of the whole tree
abbrev pub queue_at : List Node → ℕ → List (ℕ × ℕ)
queue_at xs root = pairs_below (node_at xs root).rank xs root

-- a subtree of a tree: nothing, or a node with its number, expiry and rank between two parts
pub data Tree : Type 0 where
  Leaf : Tree
  Fork : (l : Tree) (n e h : ℕ) (r : Tree) → Tree

-- the number of the node at the top
abbrev pub top : Tree → ℕ
top Leaf = none
top (Fork l n e h r) = n

-- the rank of its root
abbrev pub tall : Tree → ℕ
tall Leaf = 0
tall (Fork l n e h r) = h

-- the pairs from left to right
abbrev pub pairs : Tree → List (ℕ × ℕ)
pairs Leaf = []
pairs (Fork l n e h r) = pairs l ++ (e, n) ∷ pairs r

-- a node of the block is linked like this
pub record Stands (xs : List Node) (n : ℕ) (node : Node) : Type 0 where
  pub inside : n < length xs
  pub is : node_at xs n ≡ node

-- the nodes are linked as this subtree of a tree below a parent
abbrev pub IsAt : List Node → ℕ → Tree → Type 0
IsAt xs p Leaf = Unit
IsAt xs p (Fork l n e h r) = Stands xs n (record { expires = e; left = top l; right = top r; parent = p; rank = h }) × IsAt xs n l × IsAt xs n r

-- a node's rank is one or two more than those of both subtrees, and 1 at a leaf
pub record HasRank (a b h : ℕ) : Type 0 where
  pub below_a : a < h
  pub below_b : b < h
  pub near_a : h ≤ a + 2
  pub near_b : h ≤ b + 2
  pub near_both : h ≤ a + b + 1

-- all ranks are right
abbrev pub IsBalanced : Tree → Type 0
IsBalanced Leaf = Unit
IsBalanced (Fork l n e h r) = HasRank (tall l) (tall r) h × IsBalanced l × IsBalanced r

-- 1 where two numbers are equal, else 0
abbrev pub one : ℕ → ℕ → ℕ
one k n = if nat_eq k n then 1 else 0

-- how often a timer stands in a list of pairs
abbrev pub times : ℕ → List (ℕ × ℕ) → ℕ
times k [] = 0
times k (p ∷ ps) = one k p.1 + times k ps

-- the number of the first pair
abbrev pub first_id : List (ℕ × ℕ) → ℕ
first_id [] = none
first_id (p ∷ ps) = p.1

-- the number of the last pair
abbrev pub last_id : List (ℕ × ℕ) → ℕ
last_id [] = none
last_id (p ∷ []) = p.1
last_id (p ∷ q ∷ ps) = last_id (q ∷ ps)

-- no node has changed but those that this counts
pub record Keeps (out : ℕ → ℕ) (xs ys : List Node) : Type 0 where
  pub size : length ys ≡ length xs
  pub rest : (k : ℕ) → out k ≡ 0 → node_at ys k ≡ node_at xs k
