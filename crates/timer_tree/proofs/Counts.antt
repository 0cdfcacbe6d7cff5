-- How high a tree of so many pairs is.
use Rattle.std.proofs.Common.{ℕ, ◌+◌, ◌*◌, ◌^◌, ◌<◌, ◌≤◌, List, [], ◌∷◌, length, arith, zero, suc, inl, inr, subst, sym}
use Rattle.std.proofs.lemmas.Bool.{cases_lt}
use Rattle.timer_tree.specs.Trees.{Tree, Leaf, Fork, tall, pairs, IsBalanced}
use Rattle.timer_tree.specs.Contexts.{Frame, plug, filled, FitsRank, Cut}
use Rattle.timer_tree.proofs.Trees.{length-fork, cut_whole}
use Rattle.timer_tree.specs.declared.node.Node.{Node}
use Rattle.timer_tree.specs.declared.node.Side.TheVariants as sides

enough : (k : ℕ) (t : Tree) → IsBalanced t → 2 * k ≤ tall t → 2 ^ k ≤ length (pairs t) + 1
enough zero t balanced high = omega arith
enough (suc k) Leaf balanced high = let never : ⊥ = omega (arith, high) in absurd never
enough (suc k) (Fork l n e h r) balanced high =
    let left = enough k l balanced.1 (omega (arith, high, balanced.0.near_a)) in
    let right = enough k r balanced.2 (omega (arith, high, balanced.0.near_b)) in
    grind (arith, left, right, length-fork sides.Left l r n e h)

-- a tree is lower than twice as many binary digits as its pairs and one have
pub tall-lt : (d : ℕ) (t : Tree) → IsBalanced t → length (pairs t) + 1 < 2 ^ d → tall t + 1 ≤ 2 * d
tall-lt d t balanced few =
    elim (cases_lt (tall t) (2 * d)) [
      | inl low ↦ omega (arith, low)
      | inr high ↦ let never : ⊥ = omega (arith, enough d t balanced high, few) in absurd never
    ]

-- a context has no more nodes than the tree is high
context_low : (c : List Frame) (t : Tree) → FitsRank c (tall t) → tall t + length c ≤ tall (plug c t)
context_low [] t fits = omega arith
context_low (f ∷ c) t fits = omega (arith, fits.0.below_a, context_low c (filled f t) fits.2)

pub cut_low : (xs : List Node) (root : ℕ) (c : List Frame) (t : Tree) (ps : List (ℕ × ℕ)) → Cut xs root c t (tall t) ps → (d : ℕ) → length ps + 1 < 2 ^ d →
    tall t + length c + 1 ≤ 2 * d
cut_low xs root c t ps cut d few =
    let whole = cut_whole xs root c t ps cut in
    omega (arith, tall-lt d (plug c t) whole.balanced (subst (λ qs. length qs + 1 < 2 ^ d) (sym whole.pairs_are) few), context_low c t cut.fits)
