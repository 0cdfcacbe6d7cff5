-- What a step of a repair makes of a node.
use Rattle.std.proofs.Common.{◌≡◌, ℕ, Bool, true, false, ◌+◌, ◌-◌, ◌<◌, ◌≤◌, List, length, nat_eq, nat_lt, ◌||◌}
use Rattle.std.proofs.Common.{◌&&◌, if◌then◌else◌, arith, refl, ap, ◌∙◌, sym}
use Rattle.std.proofs.Common.{subst, max, inl, inr}
use Rattle.std.proofs.lemmas.Bool.{cases_lt, cases_eq}
use Rattle.timer_tree.specs.Nodes.{none, node_at, far, with_links, next, other_side, child_side, is_high_leaf}
use Rattle.timer_tree.specs.Links.{relinked}
use Rattle.timer_tree.specs.Rotate.{rotated, rotated_up, ranked}
use Rattle.timer_tree.specs.Moves.{Repairing, gone_on, ended, raised, risen, has_higher, sunk, lowered, repair_step}
use Rattle.timer_tree.specs.declared.repair.Unbalanced.{Unbalanced}
use Rattle.timer_tree.specs.Trees.{Tree, Leaf, Fork, top, tall, pairs, IsAt, HasRank, IsBalanced, times}
use Rattle.timer_tree.specs.Contexts.{fork, IsTilted, Way}
use Rattle.timer_tree.proofs.Trees.{child_side_is, by_eq, by_lt, times-fork, one_same, top_apart, rank_at, no_top, IsAt-fork, fork-IsBalanced, turned}
use Rattle.timer_tree.specs.declared.node.Node.{Node}
use Rattle.timer_tree.specs.declared.node.Side.{Side}
use Rattle.timer_tree.specs.declared.node.Side.TheVariants as sides
use Rattle.timer_tree.proofs.Rotations.{Whole, Remade, next_is, ranked_rebalanced, both_ranked, fork-tilted, lean_rotated}

-- ---- a node with a subtree on a side that has risen or sunk

pub record Changed (xs : List Node) (p : ℕ) (s : Side) (t o : Tree) (n e h old : ℕ) : Type 0 where
  pub whole : Whole xs p (fork s t n e h o)
  pub low : tall t + tall o < none
  pub balanced_t : IsBalanced t
  pub balanced_o : IsBalanced o
  pub has : HasRank old (tall o) h

-- where a repair goes on at a node
abbrev pub rest_at : ℕ → Tree → Unbalanced
rest_at n t = record { at = n; child = top t; rank = tall t }

-- what follows from each result of a step at this subtree
pub record Handles (rising : Bool) (xs : List Node) (p : ℕ) (t : Tree) (h root : ℕ) (r : Unbalanced) (Goal : Repairing → Type 0) : Type 0 where
  pub on : (ys : List Node) (rank : ℕ) → (new : Remade xs p t rank (ys, r.at)) → Way rising h new.u → Goal (ys, root, gone_on r p rank)
  pub moved : (new : List Node × ℕ) → Remade xs p t h new → Goal ((relinked new.0 root p r.at new.1).0, (relinked new.0 root p r.at new.1).1, ended)
  pub stop : IsBalanced t → Goal (xs, root, ended)

-- a node is rotated whose links are known
up_rotated : (xs : List Node) (root : ℕ) (d : Side) (at high : ℕ) (node : Node) → node_at xs at ≡ node → rotated_up xs root d at high ≡
    relinked (rotated xs d at node high (node_at xs high)).0 root node.parent at (rotated xs d at node high (node_at xs high)).1
unfolding rotated_up
up_rotated xs root d at high node is =
    ap (λ (x : Node). relinked (rotated xs d at x high (node_at xs high)).0 root x.parent at (rotated xs d at x high (node_at xs high)).1) is

-- a node gets another rank
abbrev reranked : (xs : List Node) (s : Side) (t o : Tree) (n e h old p i : ℕ) → Changed xs p s t o n e h old → HasRank (tall t) (tall o) i →
    Remade xs p (fork s t n e h o) i (ranked xs n i, n)
reranked xs s t o n e h old p i is has = record {
  u = fork s t n e i o;
  done = ranked_rebalanced xs s t o n e h p i is.whole (has, is.balanced_t, is.balanced_o);
  root_is = refl;
  rank_is = refl;
}

pub far-with_links : (s : Side) (e a b p h : ℕ) → far s (with_links s e a b p h) ≡ b
far-with_links sides.Left e a b p h = refl
far-with_links sides.Right e a b p h = refl

-- two subtrees of a node that are not both empty have different roots
roots_apart : (xs : List Node) (s : Side) (t o : Tree) (n e h : ℕ) → length xs ≤ none → ((k : ℕ) → times k (pairs (fork s t n e h o)) ≤ 1) → IsAt xs n t →
    IsAt xs n o → 0 < tall t + tall o → top o ≡ top t → ⊥
roots_apart xs s Leaf Leaf n e h small once at_t at_o some same = omega (arith, some)
roots_apart xs s Leaf (Fork l m f g r) n e h small once at_t at_o some same = omega (arith, same, at_o.0.inside, small)
roots_apart xs s (Fork l m f g r) o n e h small once at_t at_o some same =
    top_apart m o (omega (arith, at_t.0.inside, small))
    (omega (arith, once m, times-fork m s (Fork l m f g r) o n e h, times-fork m sides.Left l r m f g, one_same m)) same

-- the side of the subtree, and the number on the other one
at_side : (xs : List Node) (s : Side) (t o : Tree) (n e h old p : ℕ) (P : Side → ℕ → Type 0) → Changed xs p s t o n e h old → 0 < tall t + tall o →
    P s (top o) → let node = with_links s e (top t) (top o) p h in P (child_side node (top t)) (far (child_side node (top t)) node)
at_side xs s t o n e h old p P is some holds =
    let parts = IsAt-fork xs p s t o n e h is.whole.at in
    let node = with_links s e (top t) (top o) p h in
    let side = child_side_is s e (top t) (top o) p h (roots_apart xs s t o n e h is.whole.small is.whole.once parts.1 parts.2 some) in
    subst (λ d. P d (far d node)) (sym side) (subst (λ k. P s k) (sym (far-with_links s e (top t) (top o) p h)) holds)

-- ---- a subtree that has sunk

sunk_rotated : (xs : List Node) (s : Side) (t o : Tree) (n e h old p : ℕ) → Changed xs p s t o n e h old → tall o ≡ tall t + 2 → tall o + 1 ≡ h →
    IsTilted o h →
    Remade xs p (fork s t n e h o) h (rotated xs (other_side s) n (with_links s e (top t) (top o) p h) (top o) (node_at xs (top o)))
sunk_rotated xs sides.Left t o n e h old p is lean high tilted =
    lean_rotated xs sides.Right o t n e h p is.whole is.balanced_o is.balanced_t lean (omega arith) (omega arith) (omega arith) tilted
sunk_rotated xs sides.Right t o n e h old p is lean high tilted =
    lean_rotated xs sides.Left o t n e h p is.whole is.balanced_o is.balanced_t lean (omega arith) (omega arith) (omega arith) tilted

sunk_ranked : (xs : List Node) (s : Side) (t l q : Tree) (n e h m f g old p : ℕ) → Changed xs p s t (Fork l m f g q) n e h old →
    HasRank (tall l) (tall q) (h - 2) →
    HasRank (h - 2) (tall t) (h - 1) → Remade xs p (fork s t n e h (Fork l m f g q)) (h - 1) (ranked (ranked xs m (h - 2)) n (h - 1), n)
sunk_ranked xs sides.Left t l q n e h m f g old p is has_o has =
    both_ranked xs sides.Right q l t n e h m f g p (h - 1) (h - 2) is.whole (turned (tall l) (tall q) (h - 2) has_o, is.balanced_o.2, is.balanced_o.1) has
    is.balanced_t
sunk_ranked xs sides.Right t l q n e h m f g old p is has_o has =
    both_ranked xs sides.Left l q t n e h m f g p (h - 1) (h - 2) is.whole (has_o, is.balanced_o.1, is.balanced_o.2) has is.balanced_t

sunk_handled : (xs : List Node) (root : ℕ) (s : Side) (t o : Tree) (n e h old p : ℕ) (Goal : Repairing → Type 0) → Changed xs p s t o n e h old →
    Way false old t → tall t + 2 < h → Handles false xs p (fork s t n e h o) h root (rest_at n t) Goal → Goal (sunk xs root s (rest_at n t) (top o) p h)
unfolding sunk
sunk_handled xs root s t Leaf n e h old p Goal is way down handles = let never : ⊥ = omega (arith, down, is.has.near_b) in absurd never
sunk_handled xs root s t (Fork l m f g q) n e h old p Goal is way down handles =
    let o = Fork l m f g q in
    let parts = IsAt-fork xs p s t o n e h is.whole.at in
    let r = rest_at n t in
    let rank_m : (node_at xs m).rank ≡ g = ap (λ (x : Node). x.rank) parts.2.0.is in
    let turned : List Node × ℕ → Repairing = λ new. (new.0, new.1, ended) in
    let on : List Node → Repairing = λ ys. (ranked ys n (h - 1), root, gone_on r p (h - 1)) in
    let chosen : Bool → Repairing = λ x. if x then turned (rotated_up xs root (other_side s) n m) else on (ranked xs m (h - 2)) in
    let test_is : has_higher xs (node_at xs m) (tall t) ≡ nat_lt (tall t) (tall l) || nat_lt (tall t) (tall q) =
    ap (λ (x : Node). has_higher xs x (tall t)) parts.2.0.is
    ∙ ap (λ k. nat_lt (tall t) k || nat_lt (tall t) (node_at xs (top q)).rank) (rank_at xs m l is.whole.small parts.2.1)
    ∙ ap (λ k. nat_lt (tall t) (tall l) || nat_lt (tall t) k) (rank_at xs m q is.whole.small parts.2.2) in
    by_eq (λ x. Goal (if x then chosen (has_higher xs (node_at xs m) (tall t)) else on xs)) (node_at xs m).rank (h - 1) (λ same.
    let up : g ≤ max (tall l) (tall q) + 1 → Goal (turned (rotated_up xs root (other_side s) n m)) = λ tilt.
    subst (λ x. Goal (turned x)) (sym (up_rotated xs root (other_side s) n m (with_links s e (top t) m p h) parts.0.is))
    (handles.moved _ (sunk_rotated xs s t o n e h old p is (omega arith) (omega arith) (tilt, omega arith))) in
    subst (λ x. Goal (chosen x)) (sym test_is) (by_lt (λ x. Goal (chosen (x || nat_lt (tall t) (tall q)))) (tall t) (tall l) (λ less. up (omega arith))
    (λ few. by_lt (λ x. Goal (chosen x)) (tall t) (tall q) (λ less. up (omega arith))
    (λ less.
    let new = sunk_ranked xs s t l q n e h m f g old p is
    (search arith) (search arith) in
    handles.on _ (h - 1) new (omega arith, omega arith)))))
    (λ apart.
    let new = reranked xs s t o n e h old p (h - 1) is (search arith) in
    handles.on _ (h - 1) new (omega arith, omega arith))

-- a node whose subtree has come one or two lower than it is
by_three : (P : Bool → Type 0) (h a b : ℕ) → ((h ≡ 2) × (a ≡ none) × (b ≡ none) → P true) → (((h ≡ 2) × (a ≡ none) × (b ≡ none) → ⊥) → P false) →
    P (nat_eq h 2 && nat_eq a none && nat_eq b none)
by_three P h a b all some = by_eq (λ x. P (x && nat_eq a none && nat_eq b none)) h 2 (λ two. by_eq (λ x. P (x && nat_eq b none)) a none
    (λ end. by_eq P b none (λ end'. all (two, end, end')) (λ other. some (λ is. other is.2))) (λ other. some (λ is. other is.1)))
    (λ other. some (λ is. other is.0))

by_leaf : (P : Bool → Type 0) (s : Side) (e a b p h : ℕ) → ((h ≡ 2) × (a ≡ none) × (b ≡ none) → P true) →
    (((h ≡ 2) × (a ≡ none) × (b ≡ none) → ⊥) → P false) → P (is_high_leaf (with_links s e a b p h))
by_leaf P sides.Left e a b p h all some = by_three P h a b all some
by_leaf P sides.Right e a b p h all some = by_three P h b a (λ is. all (is.0, is.2, is.1)) (λ never. some (λ is. never (is.0, is.2, is.1)))

pub no_tree : (t : Tree) → IsBalanced t → tall t ≡ 0 → t ≡ Leaf
no_tree Leaf balanced flat = refl
no_tree (Fork l n e h r) balanced flat = let never : ⊥ = omega (arith, balanced.0.below_a, flat) in absurd never

-- ---- a step at a node

module _ (xs : List Node) (root : ℕ) (s : Side) (t o : Tree) (n e h old p : ℕ) (Goal : Repairing → Type 0) (is : Changed xs p s t o n e h old) where
  raised_handled : Way true old t → h ≤ tall t → Handles true xs p (fork s t n e h o) h root (rest_at n t) Goal →
      Goal (raised xs root s (rest_at n t) (top o) p h)
  unfolding raised
  raised_handled way up handles =
      let parts = IsAt-fork xs p s t o n e h is.whole.at in
      let more : next h ≡ h + 1 = next_is h (omega arith) in
      let other_is : next (node_at xs (top o)).rank ≡ tall o + 1 = ap next (rank_at xs n o is.whole.small parts.2) ∙ next_is (tall o) (omega arith) in
      let turned : List Node × ℕ → Repairing = λ new. (new.0, new.1, ended) in
      by_eq (λ x. Goal (if x then (ranked xs n (next h), root, gone_on (rest_at n t) p (next h)) else turned (rotated_up xs root s n (top t))))
      (next (node_at xs (top o)).rank) h (λ same.
      let new = reranked xs s t o n e h old p (next h) is (search arith) in
      handles.on _ (next h) new (omega arith, omega arith, λ rises tall. fork-tilted s t o n e (next h) (next h) (omega arith) (omega arith)))
      (λ apart. subst (λ x. Goal (turned x)) (sym (up_rotated xs root s n (top t) (with_links s e (top t) (top o) p h) parts.0.is))
      (handles.moved _ (lean_rotated xs s t o n e h p is.whole is.balanced_t is.balanced_o (omega arith) (omega arith) (omega arith) (omega arith)
      (let same : tall t ≡ h = omega arith in subst (λ k. IsTilted t k) same (way.2 (omega arith) (omega arith))))))

  risen_handled : Way true old t → Handles true xs p (fork s t n e h o) h root (rest_at n t) Goal →
      Goal (risen xs root (rest_at n t) (with_links s e (top t) (top o) p h))
  unfolding risen
  risen_handled way handles =
      let node = with_links s e (top t) (top o) p h in
      let d = child_side node (top t) in
      by_lt (λ x. Goal (if x then (xs, root, ended) else raised xs root d (rest_at n t) (far d node) p h)) (tall t) h
      (λ over. handles.stop (fork-IsBalanced s t o n e h (search arith, is.balanced_t, is.balanced_o)))
      (λ high. at_side xs s t o n e h old p (λ d k. Goal (raised xs root d (rest_at n t) k p h)) is (omega arith) (raised_handled way high handles))

  -- a node that has got a timer of the rank 1 below it
  pub leaf_handled : tall t ≡ 1 → Way true old t → Handles true xs p (fork s t n e h o) h root (rest_at n t) Goal →
      Goal (if nat_eq (top o) none then (ranked xs n 2, root, gone_on (rest_at n t) p 2) else (xs, root, ended))
  leaf_handled one way handles =
      by_eq (λ x. Goal (if x then (ranked xs n 2, root, gone_on (rest_at n t) p 2) else (xs, root, ended))) (top o) none (λ end.
      let flat = ap tall (no_top xs n o is.whole.small (IsAt-fork xs p s t o n e h is.whole.at).2 end) in
      let new = reranked xs s t o n e h old p 2 is (search arith) in
      handles.on _ 2 new (omega arith, omega arith, λ rises tall. fork-tilted s t o n e 2 2 (omega arith) (omega arith))) (λ some.
      let high : 0 < tall o = elim (cases_eq (tall o) 0) [
        | inl flat ↦ absurd (some (ap top (no_tree o is.balanced_o flat)))
        | inr high ↦ omega arith
      ] in
      handles.stop (fork-IsBalanced s t o n e h (search arith, is.balanced_t, is.balanced_o)))

  settled_handled : tall t < h → h ≤ tall t + 2 → Handles false xs p (fork s t n e h o) h root (rest_at n t) Goal →
      Goal (if is_high_leaf (with_links s e (top t) (top o) p h) then (ranked xs n 1, root, gone_on (rest_at n t) p 1) else (xs, root, ended))
  settled_handled over near handles =
      let parts = IsAt-fork xs p s t o n e h is.whole.at in
      by_leaf (λ x. Goal (if x then (ranked xs n 1, root, gone_on (rest_at n t) p 1) else (xs, root, ended))) s e (top t) (top o) p h (λ leaf.
      let flat_t = ap tall (no_top xs n t is.whole.small parts.1 leaf.1) in
      let flat_o = ap tall (no_top xs n o is.whole.small parts.2 leaf.2) in
      let new = reranked xs s t o n e h old p 1 is (search arith) in
      handles.on _ 1 new (omega (arith, leaf.0), omega (arith, leaf.0))) (λ other.
      let both : h ≤ tall t + tall o + 1 = elim (cases_lt 0 (tall t + tall o)) [
        | inl some ↦ omega arith
        | inr nothing ↦ elim (cases_eq h 2) [
          | inl two ↦ absurd (other (two, ap top (no_tree t is.balanced_t (omega arith)), ap top (no_tree o is.balanced_o (omega arith))))
          | inr one ↦ omega arith
        ]
      ] in
      handles.stop (fork-IsBalanced s t o n e h (search arith, is.balanced_t, is.balanced_o)))

  lowered_handled : Way false old t → Handles false xs p (fork s t n e h o) h root (rest_at n t) Goal →
      Goal (lowered xs root (rest_at n t) (with_links s e (top t) (top o) p h))
  unfolding lowered
  lowered_handled way handles =
      let node = with_links s e (top t) (top o) p h in
      let d = child_side node (top t) in
      let r = rest_at n t in
      let settled : Repairing = if is_high_leaf node then (ranked xs n 1, root, gone_on r p 1) else (xs, root, ended) in
      by_lt (λ x. Goal (if x then sunk xs root d r (far d node) p h else settled))
      (tall t + 2) h (λ down. at_side xs s t o n e h old p (λ d k. Goal (sunk xs root d r k p h)) is (omega arith)
      (sunk_handled xs root s t o n e h old p Goal is way down handles)) (λ close. settled_handled (omega arith) close handles)

  pub stepped_handled : (rising : Bool) → Way rising old t → Handles rising xs p (fork s t n e h o) h root (rest_at n t) Goal →
      Goal (repair_step rising xs root (rest_at n t))
  stepped_handled true way handles =
      subst (λ x. Goal (risen xs root (rest_at n t) x)) (sym (IsAt-fork xs p s t o n e h is.whole.at).0.is) (risen_handled way handles)
  stepped_handled false way handles =
      subst (λ x. Goal (lowered xs root (rest_at n t) x)) (sym (IsAt-fork xs p s t o n e h is.whole.at).0.is) (lowered_handled way handles)
