-- The way down to the place of a pair.
use Rattle.std.proofs.Common.{◌≡◌, ℕ, ◌+◌, ◌<◌, ◌≤◌, List, [], ◌∷◌, ◌++◌, length, if◌then◌else◌, arith, refl, ap, ◌∙◌, sym, subst}
use Rattle.std.proofs.Common.{append_assoc, append-nil}
use Rattle.std.specs.List.{AllByRecursion}
use Rattle.std.proofs.lemmas.Bool.{lt-ltb, le-ltb}
use Rattle.timer_queue.specs.Pairs.{put, IsByExpiry}
use Rattle.timer_queue.proofs.Pairs.{AllByRecursion-follows}
use Rattle.timer_tree.specs.Nodes.{none, node_at, near}
use Rattle.timer_tree.specs.Trees.{Tree, Leaf, Fork, top, tall, pairs, IsAt}
use Rattle.timer_tree.specs.Contexts.{Frame, plug, parent_of, pairs_before, pairs_after, Cut, IsTree}
use Rattle.timer_tree.specs.Places.{side_of, IsFinding, IsPlace}
use Rattle.timer_tree.proofs.Trees.{by_lt, rank_at, no_top, pairs-plug, cut_down}
use Rattle.timer_tree.proofs.Puts.{put_left, put_right, up_to, IsByExpiry-behind}
use Rattle.timer_tree.specs.declared.node.Node.{Node}
use Rattle.timer_tree.specs.declared.node.Side.{Side}
use Rattle.timer_tree.specs.declared.node.Side.TheVariants as sides

-- where the pair goes if it is put into a subtree
abbrev Puts : (expires : ℕ) → List Frame → Tree → List (ℕ × ℕ) → Type 0
Puts expires c t ps = (id : ℕ) → put expires id ps ≡ pairs_before c ++ (put expires id (pairs t) ++ pairs_after c)

puts_left : (expires : ℕ) (ps : List (ℕ × ℕ)) (c : List Frame) (l : Tree) (n e h : ℕ) (r : Tree) → expires < e → Puts expires c (Fork l n e h r) ps →
    Puts expires (record { side = sides.Left; n = n; e = e; h = h; other = r } ∷ c) l ps
puts_left expires ps c l n e h r less puts id =
    puts id ∙ ap (λ qs. pairs_before c ++ (qs ++ pairs_after c)) (put_left expires id (pairs l) (pairs r) (e, n) less) ∙ simp append_assoc refl

puts_right : (expires : ℕ) (ps : List (ℕ × ℕ)) (c : List Frame) (l : Tree) (n e h : ℕ) (r : Tree) → e ≤ expires → IsByExpiry ps →
    pairs (plug c (Fork l n e h r)) ≡ ps → Puts expires c (Fork l n e h r) ps →
    Puts expires (record { side = sides.Right; n = n; e = e; h = h; other = l } ∷ c) r ps
puts_right expires ps c l n e h r more sorted pairs_are puts id =
    let whole : IsByExpiry (pairs_before c ++ ((pairs l ++ (e, n) ∷ pairs r) ++ pairs_after c)) = subst IsByExpiry (sym pairs_are ∙ pairs-plug c (Fork l n e h r))
    sorted in
    let behind : IsByExpiry (pairs l ++ (e, n) ∷ (pairs r ++ pairs_after c)) = subst IsByExpiry (append_assoc (pairs l) ((e, n) ∷ pairs r) (pairs_after c))
    (IsByExpiry-behind (pairs_before c) ((pairs l ++ (e, n) ∷ pairs r) ++ pairs_after c) whole) in
    let earlier : AllByRecursion (λ p. p.0 ≤ expires) (pairs l) = AllByRecursion-follows (λ p. p.0 ≤ e) (λ p. p.0 ≤ expires)
    (λ p at_most. omega (arith, at_most, more)) (pairs l) (up_to (pairs l) (pairs r ++ pairs_after c) (e, n) behind) in
    puts id ∙ ap (λ qs. pairs_before c ++ (qs ++ pairs_after c)) (put_right expires id (pairs l) ((e, n) ∷ pairs r) earlier
    ∙ ap (λ qs. pairs l ++ qs) (put_right expires id ((e, n) ∷ []) (pairs r) (more, tt))) ∙ simp append_assoc refl

-- what holds below a node that was read
abbrev pub Down : List Node → ℕ → ℕ → ℕ → List (ℕ × ℕ) → ℕ → ℕ → ℕ → Type 0
Down xs root at expires ps old steps to = IsFinding xs root at to expires ps old steps × ((node_at xs to).rank < (node_at xs at).rank)

down_at : (xs : List Node) (root expires : ℕ) (ps : List (ℕ × ℕ)) (old steps : ℕ) (c : List Frame) (t : Tree) → (top t ≡ none → ⊥) →
    Cut xs root c t (tall t) ps → Puts expires c t ps → steps ≡ old + length c →
    let node = node_at xs (top t) in Down xs root (top t) expires ps old (steps + 1) (near (side_of expires node.expires) node)
down_at xs root expires ps old steps c Leaf some cut puts count = absurd (some refl)
down_at xs root expires ps old steps c (Fork l n e h r) some cut puts count =
    let node : Node = record { expires = e; left = top l; right = top r; parent = parent_of c; rank = h } in
    let at = cut.under in
    let stored = ap (λ (x : Node). x.rank) at.0.is in
    let step : (s : Side) (t o : Tree) → let f : Frame = record { side = s; n = n; e = e; h = h; other = o } in Cut xs root (f ∷ c) t (tall t) ps →
    side_of expires e ≡ s → Puts expires (f ∷ c) t ps → Down xs root n expires ps old (steps + 1) (top t) = λ s t o cut side puts.
    let f : Frame = record { side = s; n = n; e = e; h = h; other = o } in (
      record { context = f ∷ c; subtree = t; cut = cut; at_is = refl; parent_is = refl; side = side; puts = puts; count = omega (arith, count) },
      omega (arith, rank_at xs n t cut.fit.small cut.under, cut.fits.0.below_a, stored),
    ) in
    subst (λ (x : Node). Down xs root n expires ps old (steps + 1) (near (side_of expires x.expires) x)) (sym at.0.is)
    (by_lt (λ b. Down xs root n expires ps old (steps + 1) (near (if b then sides.Left else sides.Right) node)) expires e
    (λ less. step sides.Left l r (cut_down sides.Left l r n e h cut) (ap (λ b. if b then sides.Left else sides.Right) (lt-ltb expires e less))
    (puts_left expires ps c l n e h r less puts))
    (λ more. step sides.Right r l (cut_down sides.Right r l n e h cut) (ap (λ b. if b then sides.Left else sides.Right) (le-ltb expires e more))
    (puts_right expires ps c l n e h r more cut.fit.queue.by_expiry cut.pairs_are puts)))

pub finding_down : (xs : List Node) (root parent at to expires : ℕ) (ps : List (ℕ × ℕ)) (old steps new : ℕ) (node : Node) (side : Side) →
    (at ≡ none → ⊥) → IsFinding xs root parent at expires ps old steps → node ≡ node_at xs at → new ≡ steps + 1 →
    side ≡ side_of expires node.expires → to ≡ near side node → Down xs root at expires ps old new to
finding_down xs root parent at to expires ps old steps new node side some so_far is one_more side_is to_is =
    let below : Node → ℕ = λ x. near (side_of expires x.expires) x in
    let down = down_at xs root expires ps old steps so_far.context so_far.subtree (λ same. some (so_far.at_is ∙ same)) so_far.cut
    so_far.puts so_far.count in
    subst (λ k. Down xs root at expires ps old new k) (sym (to_is ∙ ap (λ s. near s node) side_is ∙ ap below (is ∙ ap (λ k. node_at xs k) so_far.at_is)))
    (subst (λ k. Down xs root at expires ps old k (below (node_at xs (top so_far.subtree)))) (sym one_more)
    (subst (λ k. Down xs root k expires ps old (steps + 1) (below (node_at xs (top so_far.subtree)))) (sym so_far.at_is) down))

-- a subtree that is linked has its root in the block
top_inside : (xs : List Node) (p : ℕ) (t : Tree) → (top t ≡ none → ⊥) → IsAt xs p t → top t < length xs
top_inside xs p Leaf some at = absurd (some refl)
top_inside xs p (Fork l n e h r) some at = at.0.inside

pub finding_inside : (xs : List Node) (root parent at expires : ℕ) (ps : List (ℕ × ℕ)) (old steps : ℕ) → (at ≡ none → ⊥) →
    IsFinding xs root parent at expires ps old steps → at < length xs
finding_inside xs root parent at expires ps old steps some so_far = subst (λ k. k < length xs) (sym so_far.at_is)
    (top_inside xs (parent_of so_far.context) so_far.subtree (λ same. some (so_far.at_is ∙ same)) so_far.cut.under)

pub finding_end : (xs : List Node) (root parent expires : ℕ) (ps : List (ℕ × ℕ)) (old begun steps : ℕ) → begun ≡ old + 1 →
    IsFinding xs root parent none expires ps begun steps → IsPlace xs root parent expires ps old steps
finding_end xs root parent expires ps old begun steps read so_far =
    let c = so_far.context in
    let leaf = no_top xs (parent_of c) so_far.subtree so_far.cut.fit.small so_far.cut.under (sym so_far.at_is) in
    let cut = subst (λ t. Cut xs root c t (tall t) ps) leaf so_far.cut in
    let puts = subst (λ t. Puts expires c t ps) leaf so_far.puts in
    record { context = c; cut = cut; parent_is = so_far.parent_is; side = so_far.side; puts = puts; count = omega (arith, read, so_far.count) }

pub finding_start : (xs : List Node) (root expires : ℕ) (ps : List (ℕ × ℕ)) (steps : ℕ) → IsTree xs root ps →
    IsFinding xs root none root expires ps steps steps
finding_start xs root expires ps steps tree =
    let whole = tree.whole in
    let puts : Puts expires [] tree.tree ps = λ id. ap (λ qs. put expires id qs) (sym whole.pairs_are) ∙ sym (append-nil (put expires id (pairs tree.tree))) in
    record { context = []; subtree = tree.tree; cut = whole; at_is = whole.root_is; parent_is = refl; side = tt; puts = puts; count = omega arith }
