-- What a rotation, and another rank at a node, make of the subtree there.
use Rattle.std.proofs.Common.{◌≡◌, ℕ, ◌+◌, ◌<◌, ◌≤◌, List, ◌∷◌, ◌++◌, length, nat_eq, ◌||◌, if◌then◌else◌, arith, refl, ap, ◌∙◌, sym, subst}
use Rattle.std.proofs.Common.{min, max, slice_set, append_assoc}
use Rattle.std.proofs.Math.Nat.{mod-eq_of_lt}
use Rattle.timer_tree.specs.Nodes.{none, node_at, near, other_side, with_links, next}
use Rattle.timer_tree.specs.Links.{linked, adopted}
use Rattle.timer_tree.specs.Rotate.{set_linked, rotated_once, rotated_twice, twice_by, rotated, ranked}
use Rattle.timer_tree.specs.Trees.{Tree, Leaf, Fork, top, tall, pairs, Stands, IsAt, HasRank, IsBalanced, one, times, Keeps}
use Rattle.timer_tree.specs.Contexts.{fork, IsTilted}
use Rattle.timer_tree.proofs.Trees.{by_eq, times-fork, one_same, Keeps-then, Keeps-for, set_keeps, set_stands, Stands-kept, IsAt-kept, rank_at, no_top}
use Rattle.timer_tree.proofs.Trees.{adopted_keeps, IsAt-adopted, both_adopted, IsAt-fork, fork-IsAt, IsBalanced-fork, fork-IsBalanced, Balances}
use Rattle.timer_tree.specs.declared.node.Node.{Node}
use Rattle.timer_tree.specs.declared.node.Side.{Side}
use Rattle.timer_tree.specs.declared.node.Side.TheVariants as sides

-- a subtree that stands in the block, with each timer once
pub record Whole (xs : List Node) (p : ℕ) (t : Tree) : Type 0 where
  pub small : length xs ≤ none
  pub once : (k : ℕ) → times k (pairs t) ≤ 1
  pub at : IsAt xs p t

-- it has become a balanced one of the same pairs, and no node outside has changed
pub record Rebalanced (xs ys : List Node) (p : ℕ) (t u : Tree) : Type 0 where
  pub at : IsAt ys p u
  pub kept : Keeps (λ k. times k (pairs t)) xs ys
  pub balanced : IsBalanced u
  pub same : pairs u ≡ pairs t

-- that has this rank, and its root this number
pub record Remade (xs : List Node) (p : ℕ) (t : Tree) (h : ℕ) (new : List Node × ℕ) : Type 0 where
  pub u : Tree
  pub done : Rebalanced xs new.0 p t u
  pub root_is : new.1 ≡ top u
  pub rank_is : tall u ≡ h

remade : {xs ys : List Node} {p : ℕ} {t : Tree} (u : Tree) → IsAt ys p u → Keeps (λ k. times k (pairs t)) xs ys → IsBalanced u → pairs u ≡ pairs t →
    Remade xs p t (tall u) (ys, top u)
remade u at kept balanced same = record { u = u; done = record { at = at; kept = kept; balanced = balanced; same = same }; root_is = refl; rank_is = refl }

pub next_is : (h : ℕ) → h < none → next h ≡ h + 1
unfolding next
next_is h fits = mod-eq_of_lt (omega (arith, fits))

-- ---- a node gets another subtree on a side, another parent and another rank

linked-near : (s : Side) (e a b p h c q i : ℕ) → linked s (with_links s e a b p h) c q i ≡ with_links s e c b q i
linked-near sides.Left e a b p h c q i = refl
linked-near sides.Right e a b p h c q i = refl

linked-far : (s : Side) (e a b p h c q i : ℕ) → linked (other_side s) (with_links s e a b p h) c q i ≡ with_links s e a c q i
linked-far sides.Left e a b p h c q i = refl
linked-far sides.Right e a b p h c q i = refl

set_near : (xs : List Node) (n : ℕ) (s : Side) (e a b p h c q i : ℕ) → Stands xs n (with_links s e a b p h) →
    Stands (set_linked xs n s c q i) n (with_links s e c b q i)
set_near xs n s e a b p h c q i stands =
    let new = set_stands xs n (linked s (node_at xs n) c q i) stands.inside in
    record { inside = new.inside; is = new.is ∙ ap (λ x. linked s x c q i) stands.is ∙ linked-near s e a b p h c q i }

set_far : (xs : List Node) (n : ℕ) (s : Side) (e a b p h c q i : ℕ) → Stands xs n (with_links s e a b p h) →
    Stands (set_linked xs n (other_side s) c q i) n (with_links s e a c q i)
set_far xs n s e a b p h c q i stands =
    let new = set_stands xs n (linked (other_side s) (node_at xs n) c q i) stands.inside in
    record { inside = new.inside; is = new.is ∙ ap (λ x. linked (other_side s) x c q i) stands.is ∙ linked-far s e a b p h c q i }

linked_keeps : (xs : List Node) (n : ℕ) (s : Side) (c q i : ℕ) → Keeps (λ k. one k n) xs (set_linked xs n s c q i)
linked_keeps xs n s c q i = set_keeps xs n (linked s (node_at xs n) c q i)

-- ---- a single rotation

pairs-once : (s : Side) (a b c : Tree) (n e h m f g i : ℕ) →
    pairs (fork s a m f h (fork s b n e i c)) ≡ pairs (fork s (fork s a m f g b) n e h c)
pairs-once sides.Left a b c n e h m f g i = sym (append_assoc (pairs a) ((f, m) ∷ pairs b) ((e, n) ∷ pairs c))
pairs-once sides.Right a b c n e h m f g i = append_assoc (pairs c) ((e, n) ∷ pairs b) ((f, m) ∷ pairs a)

once_rotated : (xs : List Node) (s : Side) (a b c : Tree) (n e h m f g p : ℕ) → Whole xs p (fork s (fork s a m f g b) n e h c) →
    IsBalanced (fork s a m f g b) → IsBalanced c → g ≡ tall c + 2 → g ≤ h → h ≤ g + 1 → tall b + 2 ≤ h → h ≤ tall a + 2 → tall b < none →
    Remade xs p (fork s (fork s a m f g b) n e h c) h (rotated_once xs s n m (top b) p h, m)
unfolding rotated_once
once_rotated xs s a b c n e h m f g p whole balanced_t balanced_c lean low near least most fits =
    let outer = IsAt-fork xs p s (fork s a m f g b) c n e h whole.at in
    let inner = IsAt-fork xs n s a b m f g outer.1 in
    let ranks = IsBalanced-fork s a b m f g balanced_t in
    let i = next (node_at xs (top b)).rank in
    let is_i : i ≡ tall b + 1 = ap next (rank_at xs m b whole.small inner.2) ∙ next_is (tall b) fits in
    let sum : (k : ℕ) → times k (pairs (fork s (fork s a m f g b) n e h c)) ≡ times k (pairs a) + times k (pairs b) + times k (pairs c) + one k m +
    one k n = λ k. omega (arith, times-fork k s (fork s a m f g b) c n e h, times-fork k s a b m f g) in
    let once = whole.once in
    let ys = adopted xs (top b) n in
    let zs = set_linked ys n s (top b) m i in
    let ws = set_linked zs m (other_side s) n p h in
    let to_y = adopted_keeps xs n b whole.small in
    let to_z = linked_keeps ys n s (top b) m i in
    let to_w = linked_keeps zs m (other_side s) n p h in
    let sets = Keeps-then to_z to_w in
    let all = Keeps-then to_y sets in
    let low_stands = Stands-kept to_w (omega (arith, sum n, once n, one_same n)) (set_near ys n s e m (top c) p h (top b) m i
    (Stands-kept to_y (omega (arith, sum n, once n, one_same n)) outer.0)) in
    let high_stands = set_far zs m s f (top a) (top b) n g n p h
    (Stands-kept (Keeps-then to_y to_z) (omega (arith, sum m, once m, one_same m)) inner.0) in
    let final_a = IsAt-kept m a all (λ k. omega (arith, sum k, once k)) inner.1 in
    let final_c = IsAt-kept n c all (λ k. omega (arith, sum k, once k)) outer.2 in
    let final_b = IsAt-kept n b sets (λ k. omega (arith, sum k, once k)) (IsAt-adopted xs m n b (λ k. omega (arith, sum k, once k)) inner.2) in
    remade (fork s a m f h (fork s b n e i c))
    (fork-IsAt ws p s a (fork s b n e i c) m f h high_stands final_a (fork-IsAt ws m s b c n e i low_stands final_b final_c))
    (Keeps-for (λ k gone. omega (arith, sum k, gone)) all)
    (fork-IsBalanced s a (fork s b n e i c) m f h (search arith, ranks.1, fork-IsBalanced s b c n e i (search arith, ranks.2, balanced_c)))
    (pairs-once s a b c n e h m f g i)

-- ---- a double rotation

pairs-twice : (s : Side) (a b d c : Tree) (n e h m f g k i j : ℕ) →
    pairs (fork s (fork s a m f j b) k i h (fork s d n e j c)) ≡ pairs (fork s (fork s a m f g (fork s b k i j d)) n e h c)
pairs-twice sides.Left a b d c n e h m f g k i j = simp append_assoc refl
pairs-twice sides.Right a b d c n e h m f g k i j = simp append_assoc refl

twice_rotated : (xs : List Node) (s : Side) (a b d c : Tree) (n e h m f g k i j p : ℕ) → Whole xs p (fork s (fork s a m f g (fork s b k i j d)) n e h c) →
    IsBalanced (fork s a m f g (fork s b k i j d)) → IsBalanced c → g ≡ tall c + 2 → g ≤ h → h ≤ g + 1 → tall a < j →
    Remade xs p (fork s (fork s a m f g (fork s b k i j d)) n e h c) h (rotated_twice xs s n m k (top b) (top d) i j p h, k)
unfolding rotated_twice
twice_rotated xs s a b d c n e h m f g k i j p whole balanced_t balanced_c lean low near more =
    let outer = IsAt-fork xs p s (fork s a m f g (fork s b k i j d)) c n e h whole.at in
    let middle = IsAt-fork xs n s a (fork s b k i j d) m f g outer.1 in
    let inner = IsAt-fork xs m s b d k i j middle.2 in
    let ranks = IsBalanced-fork s a (fork s b k i j d) m f g balanced_t in
    let ranks_k = IsBalanced-fork s b d k i j ranks.2 in
    let sum : (r : ℕ) → times r (pairs (fork s (fork s a m f g (fork s b k i j d)) n e h c)) ≡ times r (pairs a) + times r (pairs b) + times r (pairs d) +
    times r (pairs c) + one r k + one r m + one r n = λ r. omega (
      arith,
      times-fork r s (fork s a m f g (fork s b k i j d)) c n e h,
      times-fork r s a (fork s b k i j d) m f g,
      times-fork r s b d k i j,
    ) in
    let once = whole.once in
    let vs = adopted (adopted xs (top b) m) (top d) n in
    let ws = set_linked vs n s (top d) k j in
    let ys = set_linked ws m (other_side s) (top b) k j in
    let new = with_links s i m n p h in
    let zs = slice_set ys k new in
    let adopt = both_adopted xs k k m n b d whole.small (λ x. omega (arith, sum x, once x)) inner.1 inner.2 in
    let to_w = linked_keeps vs n s (top d) k j in
    let to_y = linked_keeps ws m (other_side s) (top b) k j in
    let to_z = set_keeps ys k new in
    let sets = Keeps-then to_w (Keeps-then to_y to_z) in
    let all = Keeps-then adopt.2 sets in
    let stands_n = Stands-kept (Keeps-then to_y to_z) (omega (arith, sum n, once n, one_same n)) (set_near vs n s e m (top c) p h (top d) k j
    (Stands-kept adopt.2 (omega (arith, sum n, once n, one_same n)) outer.0)) in
    let stands_m = Stands-kept to_z (omega (arith, sum m, once m, one_same m)) (set_far ws m s f (top a) k n g (top b) k j
    (Stands-kept (Keeps-then adopt.2 to_w) (omega (arith, sum m, once m, one_same m)) middle.0)) in
    let stands_k = set_stands ys k new (omega (arith, all.size, to_z.size, inner.0.inside)) in
    let final_a = IsAt-kept m a all (λ x. omega (arith, sum x, once x)) middle.1 in
    let final_b = IsAt-kept m b sets (λ x. omega (arith, sum x, once x)) adopt.0 in
    let final_d = IsAt-kept n d sets (λ x. omega (arith, sum x, once x)) adopt.1 in
    let final_c = IsAt-kept n c all (λ x. omega (arith, sum x, once x)) outer.2 in
    let left = fork s a m f j b in
    let right = fork s d n e j c in
    remade (fork s left k i h right)
    (fork-IsAt zs p s left right k i h stands_k (fork-IsAt zs k s a b m f j stands_m final_a final_b) (fork-IsAt zs k s d c n e j stands_n final_d final_c))
    (Keeps-for (λ x gone. omega (arith, sum x, gone)) all)
    (fork-IsBalanced s left right k i h (
      search arith,
      fork-IsBalanced s a b m f j (search arith, ranks.1, ranks_k.1),
      fork-IsBalanced s d c n e j (search arith, ranks_k.2, balanced_c),
    ))
    (pairs-twice s a b d c n e h m f g k i j)

-- ---- another rank at a node

pairs-ranked : (s : Side) (a b : Tree) (n e h i : ℕ) → pairs (fork s a n e i b) ≡ pairs (fork s a n e h b)
pairs-ranked sides.Left a b n e h i = refl
pairs-ranked sides.Right a b n e h i = refl

pub ranked_rebalanced : (xs : List Node) (s : Side) (a b : Tree) (n e h p i : ℕ) → Whole xs p (fork s a n e h b) → Balances a b i →
    Rebalanced xs (ranked xs n i) p (fork s a n e h b) (fork s a n e i b)
ranked_rebalanced xs s a b n e h p i whole ranks =
    let parts = IsAt-fork xs p s a b n e h whole.at in
    let new = record (node_at xs n) { rank = i } in
    let stands = set_stands xs n new parts.0.inside in
    let kept = set_keeps xs n new in
    record {
      at = fork-IsAt (slice_set xs n new) p s a b n e i
          (record { inside = stands.inside; is = stands.is ∙ ap (λ (x : Node). record x { rank = i }) parts.0.is })
          (IsAt-kept n a kept (λ k. omega (arith, times-fork k s a b n e h, whole.once k)) parts.1)
          (IsAt-kept n b kept (λ k. omega (arith, times-fork k s a b n e h, whole.once k)) parts.2);
      kept = Keeps-for (λ k gone. omega (arith, times-fork k s a b n e h, gone)) kept;
      balanced = fork-IsBalanced s a b n e i ranks;
      same = pairs-ranked s a b n e h i;
    }

pairs-below : (s : Side) (t u c : Tree) (n e h : ℕ) → pairs u ≡ pairs t → pairs (fork s u n e h c) ≡ pairs (fork s t n e h c)
pairs-below sides.Left t u c n e h same = ap (λ ps. ps ++ (e, n) ∷ pairs c) same
pairs-below sides.Right t u c n e h same = ap (λ ps. pairs c ++ (e, n) ∷ ps) same

-- the node and the high one below it get lower ranks
pub both_ranked : (xs : List Node) (s : Side) (a t c : Tree) (n e h m f g p i j : ℕ) → Whole xs p (fork s (fork s a m f g t) n e h c) → Balances a t j →
    HasRank j (tall c) i → IsBalanced c → Remade xs p (fork s (fork s a m f g t) n e h c) i (ranked (ranked xs m j) n i, n)
both_ranked xs s a t c n e h m f g p i j whole ranks has balanced_c =
    let old = fork s a m f g t in
    let mid = fork s a m f j t in
    let outer = IsAt-fork xs p s old c n e h whole.at in
    let sum = λ (k : ℕ). times-fork k s old c n e h in
    let once = whole.once in
    let below = ranked_rebalanced xs s a t m f g n j
    (record { small = whole.small; once = λ k. omega (arith, sum k, once k); at = outer.1 }) ranks in
    let same = pairs-below s old mid c n e h below.same in
    let ys = ranked xs m j in
    let last = ranked_rebalanced ys s mid c n e h p i
    (record {
      small = omega (arith, below.kept.size, whole.small);
      once = λ k. subst (λ ps. times k ps ≤ 1) (sym same) (once k);
      at = fork-IsAt ys p s mid c n e h (Stands-kept below.kept (omega (arith, sum n, once n, one_same n)) outer.0) below.at
          (IsAt-kept n c below.kept (λ k. omega (arith, sum k, once k)) outer.2);
    }) (has, below.balanced, balanced_c) in
    remade (fork s mid n e i c) last.at (Keeps-for (λ k gone. omega (arith, sum k, gone, ap (λ ps. times k ps) same)) (Keeps-then below.kept last.kept))
    last.balanced (last.same ∙ same)

-- ---- the choice of the rotation

pub fork-tilted : (s : Side) (a b : Tree) (n e g h : ℕ) → g ≤ max (tall a) (tall b) + 1 → min (tall a) (tall b) + 2 ≤ h → IsTilted (fork s a n e g b) h
fork-tilted sides.Left a b n e g h high low = (high, low)
fork-tilted sides.Right a b n e g h high low = (omega (arith, high), omega (arith, low))

tilted-fork : (s : Side) (a b : Tree) (n e g h : ℕ) → IsTilted (fork s a n e g b) h → (g ≤ max (tall a) (tall b) + 1) × (min (tall a) (tall b) + 2 ≤ h)
tilted-fork sides.Left a b n e g h tilted = tilted
tilted-fork sides.Right a b n e g h tilted = (omega (arith, tilted.0), omega (arith, tilted.1))

rotated_is : (xs : List Node) (s : Side) (a t n f m g : ℕ) (low : Node) → rotated xs s n low m (with_links s f a t n g) ≡
    (if nat_eq (next (node_at xs a).rank) g || nat_eq t none then (rotated_once xs s n m t low.parent low.rank, m)
    else (twice_by xs s n m t (node_at xs t) low.parent low.rank, t))
unfolding rotated
rotated_is xs sides.Left a t n f m g low = refl
rotated_is xs sides.Right a t n f m g low = refl

-- where the inner subtree is the higher one, it has a root
twice_at : (xs : List Node) (s : Side) (a b c : Tree) (n e h m f g p : ℕ) → Whole xs p (fork s (fork s a m f g b) n e h c) →
    IsBalanced (fork s a m f g b) → IsBalanced c → g ≡ tall c + 2 → g ≤ h → h ≤ g + 1 → tall a < tall b →
    Remade xs p (fork s (fork s a m f g b) n e h c) h (twice_by xs s n m (top b) (node_at xs (top b)) p h, top b)
twice_at xs s a Leaf c n e h m f g p whole balanced_t balanced_c lean low near more = let never : ⊥ = omega (arith, more) in absurd never
twice_at xs sides.Left a (Fork b k i j d) c n e h m f g p whole balanced_t balanced_c lean low near more =
    subst (λ (x : Node). Remade xs p (fork sides.Left (Fork a m f g (Fork b k i j d)) n e h c) h (twice_by xs sides.Left n m k x p h, k))
    (sym whole.at.1.2.0.is) (twice_rotated xs sides.Left a b d c n e h m f g k i j p whole balanced_t balanced_c lean low near more)
twice_at xs sides.Right a (Fork d k i j b) c n e h m f g p whole balanced_t balanced_c lean low near more =
    subst (λ (x : Node). Remade xs p (fork sides.Right (Fork (Fork d k i j b) m f g a) n e h c) h (twice_by xs sides.Right n m k x p h, k))
    (sym whole.at.2.1.0.is) (twice_rotated xs sides.Right a b d c n e h m f g k i j p whole balanced_t balanced_c lean low near more)

leaning : (xs : List Node) (s : Side) (a b c : Tree) (n e h m f g p : ℕ) → Whole xs p (fork s (fork s a m f g b) n e h c) →
    IsBalanced (fork s a m f g b) → IsBalanced c → g ≡ tall c + 2 → g ≤ h → h ≤ g + 1 → g ≤ none → IsTilted (fork s a m f g b) h →
    Remade xs p (fork s (fork s a m f g b) n e h c) h (rotated xs s n (with_links s e m (top c) p h) m (node_at xs m))
leaning xs s a b c n e h m f g p whole balanced_t balanced_c lean low near fits tilted =
    let inner = IsAt-fork xs n s a b m f g (IsAt-fork xs p s (fork s a m f g b) c n e h whole.at).1 in
    let tilt = tilted-fork s a b m f g h tilted in
    let rank = (IsBalanced-fork s a b m f g balanced_t).0 in
    let next_a : next (node_at xs (top a)).rank ≡ tall a + 1 = ap next (rank_at xs m a whole.small inner.1) ∙ next_is (tall a) (omega arith) in
    let Done : List Node × ℕ → Type 0 = λ new. Remade xs p (fork s (fork s a m f g b) n e h c) h new in
    let once : List Node × ℕ = (rotated_once xs s n m (top b) p h, m) in
    let twice : List Node × ℕ = (twice_by xs s n m (top b) (node_at xs (top b)) p h, top b) in
    subst Done (sym (ap (λ x. rotated xs s n (with_links s e m (top c) p h) m x) inner.0.is ∙ rotated_is xs s (top a) (top b) n f m g _))
    (by_eq (λ x. Done (if x || nat_eq (top b) none then once else twice)) (next (node_at xs (top a)).rank) g
    (λ same. once_rotated xs s a b c n e h m f g p whole balanced_t balanced_c lean low near (omega arith) (omega arith) (omega arith))
    (λ apart. let less : tall a < tall b = omega arith in by_eq (λ x. Done (if x then once else twice)) (top b) none
    (λ end. let never : ⊥ = omega (arith, less, ap tall (no_top xs m b whole.small inner.2 end)) in absurd never)
    (λ some. twice_at xs s a b c n e h m f g p whole balanced_t balanced_c lean low near less)))

-- a node that leans to a side
pub lean_rotated : (xs : List Node) (s : Side) (t c : Tree) (n e h p : ℕ) → Whole xs p (fork s t n e h c) → IsBalanced t → IsBalanced c →
    tall t ≡ tall c + 2 → tall t ≤ h → h ≤ tall t + 1 → tall t ≤ none → IsTilted t h →
    Remade xs p (fork s t n e h c) h (rotated xs s n (with_links s e (top t) (top c) p h) (top t) (node_at xs (top t)))
lean_rotated xs s Leaf c n e h p whole balanced_t balanced_c lean low near fits tilted = let never : ⊥ = omega (arith, lean) in absurd never
lean_rotated xs sides.Left (Fork a m f g b) c n e h p whole balanced_t balanced_c lean low near fits tilted =
    leaning xs sides.Left a b c n e h m f g p whole balanced_t balanced_c lean low near fits tilted
lean_rotated xs sides.Right (Fork b m f g a) c n e h p whole balanced_t balanced_c lean low near fits tilted =
    leaning xs sides.Right a b c n e h m f g p whole balanced_t balanced_c lean low near fits tilted
