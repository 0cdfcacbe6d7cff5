-- A tree with a hole in it: what stands above a subtree, from the nearest node to the root.
use Rattle.std.specs.Prelude.{ℕ, Bool, true, false, ◌+◌, ◌*◌, ◌^◌, ◌<◌, ◌≤◌, min, max, nat_eq, ◌≡◌, List, [], ◌∷◌, ◌++◌, length}
use Rattle.timer_tree.specs.Nodes.{none, pick, with_links, node_at}
use Rattle.timer_tree.specs.Trees.{Tree, Leaf, Fork, top, tall, pairs, IsAt, HasRank, IsBalanced, Stands, times, first_id, Keeps}
use Rattle.timer_queue.specs.Pairs.{IsQueue}
use Rattle.timer_tree.specs.declared.node.Node.{Node}
use Rattle.timer_tree.specs.declared.repair.Unbalanced.{Unbalanced}
use Rattle.timer_tree.specs.declared.node.Side.{Side}

-- a node between a subtree on a side and one on the other
abbrev pub fork : Side → Tree → (n e h : ℕ) → Tree → Tree
fork s a n e h b = Fork (pick s a b) n e h (pick s b a)

-- the parent of a hole: the hole's side, the node, and the subtree on the other side
pub record Frame : Type 0 where
  pub side : Side
  pub n : ℕ
  pub e : ℕ
  pub h : ℕ
  pub other : Tree

-- the subtree from a node on, with its hole filled
abbrev pub filled : Frame → Tree → Tree
filled f t = fork f.side t f.n f.e f.h f.other

-- the whole tree, with its hole filled
abbrev pub plug : List Frame → Tree → Tree
plug [] t = t
plug (f ∷ c) t = plug c (filled f t)

-- the number of the hole's parent
abbrev pub parent_of : List Frame → ℕ
parent_of [] = none
parent_of (f ∷ c) = f.n

-- the number of the root, where the hole holds this number
abbrev pub root_of : ℕ → List Frame → ℕ
root_of hole [] = hole
root_of hole (f ∷ c) = root_of f.n c

-- the nodes are linked as this context, with this number in its hole
abbrev pub IsAround : List Node → ℕ → List Frame → Type 0
IsAround xs hole [] = Unit
IsAround xs hole (f ∷ c) = Stands xs f.n (with_links f.side f.e hole (top f.other) (parent_of c) f.h) × IsAt xs f.n f.other × IsAround xs f.n c

-- the pairs of the context, in any order
abbrev pub around : List Frame → List (ℕ × ℕ)
around [] = []
around (f ∷ c) = (f.e, f.n) ∷ pairs f.other ++ around c

-- all pairs before the hole
abbrev pub pairs_before : List Frame → List (ℕ × ℕ)
pairs_before [] = []
pairs_before (f ∷ c) = pick f.side (pairs_before c) (pairs_before c ++ (pairs f.other ++ (f.e, f.n) ∷ []))

-- all pairs behind the hole
abbrev pub pairs_after : List Frame → List (ℕ × ℕ)
pairs_after [] = []
pairs_after (f ∷ c) = pick f.side ((f.e, f.n) ∷ pairs f.other ++ pairs_after c) (pairs_after c)

-- the context is balanced where its hole holds a subtree of this rank
abbrev pub FitsRank : List Frame → ℕ → Type 0
FitsRank [] h = Unit
FitsRank (f ∷ c) h = HasRank h (tall f.other) f.h × IsBalanced f.other × FitsRank c f.h

-- these pairs are a queue that fits the block, and each timer stands once
pub record Fit (xs : List Node) (ps : List (ℕ × ℕ)) : Type 0 where
  pub small : length xs ≤ none
  pub few : length ps ≤ none
  pub once : (k : ℕ) → times k ps ≤ 1
  pub queue : IsQueue (length xs) ps

-- the block holds a tree of these pairs, cut at a balanced subtree; all ranks are right where that has this one
pub record Cut (xs : List Node) (root : ℕ) (c : List Frame) (t : Tree) (h : ℕ) (ps : List (ℕ × ℕ)) : Type 0 where
  pub fit : Fit xs ps
  pub linked : IsAround xs (top t) c
  pub under : IsAt xs (parent_of c) t
  pub root_is : root ≡ root_of (top t) c
  pub balanced : IsBalanced t
  pub fits : FitsRank c h
  pub pairs_are : pairs (plug c t) ≡ ps

-- the block holds a balanced tree of these pairs
pub record IsTree (xs : List Node) (root : ℕ) (ps : List (ℕ × ℕ)) : Type 0 where
  pub tree : Tree
  pub whole : Cut xs root [] tree (tall tree) ps

-- the store has this queue as a tree with this root and this first node. Of nodes that aren't in it nothing is said.
pub record IsStored (xs : List Node) (root first : ℕ) (ps : List (ℕ × ℕ)) : Type 0 where
  pub is_tree : IsTree xs root ps
  pub first_is : first ≡ first_id ps
  pub queue : IsQueue (length xs) ps

-- each timer that this doesn't count has the rank 0
abbrev pub AreUnranked : List Node → (ℕ → ℕ) → Type 0
AreUnranked xs count = (k : ℕ) → count k ≡ 0 → (node_at xs k).rank ≡ 0

-- the store's queue after a call, which has left the nodes of all other timers as they were, and how many steps that took
pub record Becomes (ps qs : List (ℕ × ℕ)) (xs zs : List Node) (root first old_steps steps : ℕ) : Type 0 where
  pub stored : IsStored zs root first qs
  pub kept : Keeps (λ k. times k ps + times k qs) xs zs
  pub gone : (k : ℕ) → 0 < times k ps → times k qs ≡ 0 → (node_at zs k).rank ≡ 0
  pub count : (d : ℕ) → length ps + 1 < 2 ^ d → steps ≤ old_steps + 32 * (d + 1)

-- a node has a subtree one lower than it is, and one two lower than this rank
abbrev pub IsTilted : Tree → ℕ → Type 0
IsTilted Leaf h = Unit
IsTilted (Fork l n e g r) h = (g ≤ max (tall l) (tall r) + 1) × (min (tall l) (tall r) + 2 ≤ h)

-- a subtree that had a rank has risen, or has sunk, by one at most
abbrev pub Way : (rising : Bool) → (old : ℕ) → Tree → Type 0
Way true old t = (old ≤ tall t) × (tall t ≤ old + 1) × (old < tall t → 1 < tall t → IsTilted t (tall t))
Way false old t = (tall t ≤ old) × (old ≤ tall t + 1)

-- the block holds a tree of these pairs that is balanced but for the ranks from one node upwards, and the context is what stands from there up
pub record IsUnbalanced (rising : Bool) (xs : List Node) (root : ℕ) (r : Unbalanced) (ps : List (ℕ × ℕ)) : Type 0 where
  pub context : List Frame
  pub subtree : Tree
  pub old_rank : ℕ
  pub cut : Cut xs root context subtree old_rank ps
  pub at_is : r.at ≡ parent_of context
  pub changed : (r.at ≡ none → ⊥) → (r.child ≡ top subtree) × (r.rank ≡ tall subtree) × Way rising old_rank subtree

-- what a repair has done so far, at 15 steps a node
pub record IsRepairing (rising : Bool) (xs ys : List Node) (root : ℕ) (r : Unbalanced) (ps : List (ℕ × ℕ)) (levels old_steps steps : ℕ) : Type 0 where
  pub unbalanced : IsUnbalanced rising ys root r ps
  pub kept : Keeps (λ k. times k ps) xs ys
  pub count : steps + 15 * length unbalanced.context ≤ old_steps + 15 * levels

-- the block holds a balanced tree of the same pairs, after so many steps at most
pub record IsRepaired (xs ys : List Node) (root : ℕ) (ps : List (ℕ × ℕ)) (levels old_steps steps : ℕ) : Type 0 where
  pub tree : IsTree ys root ps
  pub kept : Keeps (λ k. times k ps) xs ys
  pub count : steps ≤ old_steps + 15 * levels

-- whether the hole's parent has nothing on the other side
abbrev pub IsOver : List Frame → (leaf : Bool) → Type 0
IsOver [] leaf = Unit
IsOver (f ∷ c) leaf = leaf ≡ nat_eq (top f.other) none
