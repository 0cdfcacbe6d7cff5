-- What hanging a timer into its place makes of the tree.
use Rattle.std.proofs.Common.{◌≡◌, ℕ, Bool, true, false, ◌&&◌, ◌+◌, ◌<◌, ◌≤◌, List, [], ◌∷◌, ◌++◌, length, nat_eq, if◌then◌else◌, arith}
use Rattle.std.proofs.Common.{refl, ap, ◌∙◌, sym, subst, slice_set}
use Rattle.std.proofs.lemmas.Bool.{eq-eqb, ne_eqb}
use Rattle.timer_queue.specs.Pairs.{put, has_id}
use Rattle.timer_queue.proofs.Pairs.{IsQueue-put}
use Rattle.timer_tree.specs.Nodes.{none, pick, node_at, with_links, is_leaf}
use Rattle.timer_tree.specs.Moves.{inserted}
use Rattle.timer_tree.specs.Links.{with_child}
use Rattle.timer_tree.specs.Trees.{Leaf, Fork, top, pairs, Stands, IsBalanced, one, times, first_id, last_id, Keeps}
use Rattle.timer_tree.specs.Contexts.{Frame, parent_of, root_of, IsAround, around, pairs_before, pairs_after, Cut, IsStored, Becomes, IsUnbalanced}
use Rattle.timer_tree.specs.Contexts.{IsRepaired, IsOver}
use Rattle.timer_tree.specs.Places.{side_of, first_on, last_on, IsOnSide, IsPlace}
use Rattle.timer_tree.proofs.Trees.{with_child-with_links, times-append, one_same, once_with, Keeps-then, Keeps-for, Fit-size}
use Rattle.timer_tree.proofs.Trees.{set_keeps, set_stands, Stands-kept, IsAround-kept}
use Rattle.timer_tree.proofs.Trees.{frame_written, pairs-plug, cut_times, cut_unbalanced}
use Rattle.timer_tree.proofs.Puts.{times-put}
use Rattle.timer_tree.proofs.Counts.{cut_low}
use Rattle.timer_tree.proofs.Stores.{times-absent, fit_of}
use Rattle.timer_tree.proofs.Ends.{last_frame}
use Rattle.timer_tree.specs.declared.add.Link.{Link}
use Rattle.timer_tree.specs.declared.node.Node.{Node}
use Rattle.timer_tree.specs.declared.node.Side.{Side}
use Rattle.timer_tree.specs.declared.node.Side.TheVariants as sides

-- a timer has come on the hole's side of its parent, and on the left where it has none
abbrev HasSide : Side → List Frame → Type 0
HasSide side [] = side ≡ sides.Left
HasSide side (f ∷ c) = side ≡ f.side

-- the context, with the new node in its hole
record Inserted (xs : List Node) (c : List Frame) (expires id : ℕ) (new : List Node × ℕ × Link) : Type 0 where
  at : IsAround new.0 id c
  stands : Stands new.0 id (record { expires = expires; left = none; right = none; parent = parent_of c; rank = 1 })
  root_is : new.1 ≡ root_of id c
  side_is : HasSide new.2.side c
  over : IsOver c new.2.leaf
  kept : Keeps (λ k. times k (around c) + one k id) xs new.0

leaf_is : (s : Side) (e b p h : ℕ) → is_leaf (with_links s e none b p h) ≡ nat_eq b none
leaf_is sides.Left e b p h = refl
leaf_is sides.Right e b p h = elim (nat_eq b none) as (λ x. x && nat_eq none none ≡ x) [ true ↦ refl | false ↦ refl ]

inserted_at : (xs : List Node) (root expires id : ℕ) (c : List Frame) → length xs ≤ none → id < length xs → ((k : ℕ) → times k (around c) + one k id ≤ 1) →
    IsOnSide expires c → IsAround xs none c → root ≡ root_of none c → Inserted xs c expires id (inserted xs root (parent_of c) expires id)
unfolding inserted
inserted_at xs root expires id [] small inside once side linked root_is =
    let node : Node = record { expires = expires; left = none; right = none; parent = none; rank = 1 } in
    let stands = set_stands xs id node inside in
    record { at = tt; stands = stands; root_is = refl; side_is = refl; over = tt; kept = Keeps-for (λ k gone. omega (arith, gone)) (set_keeps xs id node) }
inserted_at xs root expires id (f ∷ c) small inside once side linked root_is =
    let node : Node = record { expires = expires; left = none; right = none; parent = f.n; rank = 1 } in
    let ys = slice_set xs id node in
    let first = set_keeps xs id node in
    let kept = IsAround-kept none (f ∷ c) first (λ k. omega (arith, once k)) linked in
    let on : side_of expires (node_at ys f.n).expires ≡ f.side = ap (λ (x : Node). side_of expires x.expires) kept.0.is ∙ side in
    let new = with_child (node_at ys f.n) (side_of expires (node_at ys f.n).expires) id in
    let zs = slice_set ys f.n new in
    let is : new ≡ with_links f.side f.e id (top f.other) (parent_of c) f.h = ap (λ s. with_child (node_at ys f.n) s id) on
    ∙ ap (λ x. with_child x f.side id) kept.0.is ∙ with_child-with_links f.side f.e none (top f.other) (parent_of c) f.h id in
    let some : nat_eq f.n none ≡ false = ne_eqb f.n none (λ same. omega (arith, same, linked.0.inside, small)) in
    let done = frame_written ys none id f c new (λ k. omega (arith, once k)) kept is in
    subst (λ b. Inserted xs (f ∷ c) expires id (if b then (ys, id, record { side = sides.Left; leaf = false })
    else (zs, root, record { side = side_of expires (node_at ys f.n).expires; leaf = is_leaf (node_at ys f.n) }))) (sym some) (record {
      at = done.0;
      stands = Stands-kept done.1 (omega (arith, once id, one_same id)) (set_stands xs id node inside);
      root_is = root_is;
      side_is = on;
      over = ap is_leaf kept.0.is ∙ leaf_is f.side f.e (top f.other) (parent_of c) f.h;
      kept = Keeps-for (λ k gone. omega (arith, gone)) (Keeps-then first done.1);
    })

-- ---- the first timer

first_left : (ps qs : List (ℕ × ℕ)) (p q : ℕ × ℕ) → times q.1 ps ≡ 0 →
    (if nat_eq q.1 (first_id (ps ++ q ∷ qs)) then p.1 else first_id (ps ++ q ∷ qs)) ≡ first_id (ps ++ p ∷ q ∷ qs)
first_left [] qs p q gone = ap (λ b. if b then p.1 else q.1) (eq-eqb q.1 q.1 refl)
first_left (r ∷ ps) qs p q gone = ap (λ b. if b then p.1 else r.1) (ne_eqb q.1 r.1 (λ same. omega (arith, gone, one_same q.1, ap (λ k. one q.1 k) same)))

first_right : (ps os qs : List (ℕ × ℕ)) (p q : ℕ × ℕ) → first_id ((ps ++ (os ++ q ∷ [])) ++ qs) ≡ first_id ((ps ++ (os ++ q ∷ [])) ++ p ∷ qs)
first_right [] [] qs p q = refl
first_right [] (o ∷ os) qs p q = refl
first_right (r ∷ ps) os qs p q = refl

-- a timer in the hole of a context is the first where the first one was its parent on the right
first_frame : (s : Side) (os ps qs : List (ℕ × ℕ)) (e n first id expires : ℕ) →
    let left = pick s ps (ps ++ (os ++ (e, n) ∷ [])) in let right = pick s ((e, n) ∷ os ++ qs) qs in times n (left ++ right) ≤ 1 →
    first ≡ first_id (left ++ right) → first_on s n first id ≡ first_id (left ++ (expires, id) ∷ right)
first_frame sides.Left os ps qs e n first id expires once is = ap (λ k. if nat_eq n k then id else k) is ∙ first_left ps (os ++ qs) (expires, id) (e, n)
    (omega (arith, once, one_same n, times-append n ps ((e, n) ∷ (os ++ qs))))
first_frame sides.Right os ps qs e n first id expires once is = is ∙ first_right ps os qs (expires, id) (e, n)

first_placed : (side : Side) (parent : ℕ) (c : List Frame) (first id expires : ℕ) → parent ≡ parent_of c → HasSide side c →
    ((k : ℕ) → times k (pairs_before c ++ pairs_after c) ≤ 1) →
    first ≡ first_id (pairs_before c ++ pairs_after c) → first_on side parent first id ≡ first_id (pairs_before c ++ (expires, id) ∷ pairs_after c)
first_placed side parent [] first id expires parent_is side_is once is =
    ap (λ s. first_on s parent first id) side_is ∙ ap (λ b. if b then id else first) (eq-eqb parent first (parent_is ∙ sym is))
first_placed side parent (f ∷ c) first id expires parent_is side_is once is =
    ap (λ s. first_on s parent first id) side_is ∙ ap (λ k. first_on f.side k first id) parent_is
    ∙ first_frame f.side (pairs f.other) (pairs_before c) (pairs_after c) f.e f.n first id expires (once f.n) is

last_placed : {xs : List Node} {root : ℕ} {ps : List (ℕ × ℕ)} (side : Side) (parent : ℕ) (c : List Frame) (last id expires : ℕ) →
    Cut xs root c Leaf 0 ps → parent ≡ parent_of c → HasSide side c → ((k : ℕ) → times k (pairs_before c ++ pairs_after c) ≤ 1) →
    last ≡ last_id (pairs_before c ++ pairs_after c) → last_on side parent last id ≡ last_id (pairs_before c ++ (expires, id) ∷ pairs_after c)
last_placed side parent [] last id expires cut parent_is side_is once is =
    ap (λ s. last_on s parent last id) side_is ∙ ap (λ b. if b then id else last) (eq-eqb parent none parent_is)
last_placed side parent (f ∷ c) last id expires cut parent_is side_is once is =
    ap (λ s. last_on s parent last id) side_is ∙ ap (λ k. last_on f.side k last id) parent_is
    ∙ last_frame f.side (pairs f.other) (pairs_before c) (pairs_after c) f.e f.n last id expires
    (λ end. omega (arith, end, cut.linked.0.inside, cut.fit.small)) (once f.n) is

-- ---- the whole call

module _ (xs : List Node) (root first parent expires id : ℕ) (ps : List (ℕ × ℕ)) (old steps : ℕ) (new : List Node × ℕ × Link)
    (stored : IsStored xs root first ps)
    (absent : has_id id ps ≡ false) (inside : id < length xs) (found : IsPlace xs root parent expires ps old steps)
    (is : new ≡ inserted xs root parent expires id) where
  inserted_new : Inserted xs found.context expires id new
  inserted_new =
      let c = found.context in
      let cut = found.cut in
      let gone = times-absent id ps absent in
      subst (λ x. Inserted xs c expires id x) (sym is) (subst (λ k. Inserted xs c expires id (inserted xs root k expires id)) (sym found.parent_is)
      (inserted_at xs root expires id c cut.fit.small inside (λ k. omega (arith, cut_times cut k, once_with k id ps gone (cut.fit.once k)))
      found.side cut.linked cut.root_is))

  -- what a repair is asked for
  pub inserted_can : (b : IsUnbalanced true new.0 new.1 (record { at = parent; child = id; rank = 1 }) (put expires id ps)) ×
      IsOver b.context new.2.leaf × (length b.context ≡ length found.context) × Keeps (λ k. times k (put expires id ps)) xs new.0
  inserted_can =
      let c = found.context in
      let done = inserted_new in
      let t = Fork Leaf id expires 1 Leaf in
      let queue = IsQueue-put (length xs) expires id ps absent inside stored.queue in
      let fit = Fit-size done.kept.size (fit_of xs (put expires id ps) found.cut.fit.small queue) in
      let balanced : IsBalanced t = (search arith, tt, tt) in
      let pairs_are = pairs-plug c t ∙ sym (found.puts id) in
      let hung : Cut new.0 new.1 c t 0 (put expires id ps) = search arith in (
        cut_unbalanced _ hung found.parent_is refl refl (omega arith, omega arith, λ up more. let never : ⊥ = omega (arith, more) in absurd never),
        done.over,
        refl,
        Keeps-for (λ k gone. omega (arith, gone, times-put k expires id ps, cut_times found.cut k)) done.kept,
      )

  whole : ps ≡ pairs_before found.context ++ pairs_after found.context
  whole = sym found.cut.pairs_are ∙ pairs-plug found.context Leaf

  whole_once : (k : ℕ) → times k (pairs_before found.context ++ pairs_after found.context) ≤ 1
  whole_once k = subst (λ qs. times k qs ≤ 1) whole (found.cut.fit.once k)

  -- the last timer after one was added
  pub added_last : (last new_last : ℕ) → last ≡ last_id ps → new_last ≡ last_on new.2.side parent last id → new_last ≡ last_id (put expires id ps)
  added_last last new_last last_is is = is ∙ last_placed new.2.side parent found.context last id expires found.cut found.parent_is inserted_new.side_is
      whole_once (last_is ∙ ap last_id whole) ∙ sym (ap last_id (found.puts id))

  -- the queue after a timer was added
  pub added : (inserted_steps : ℕ) (zs : List Node) (new_root new_first new_steps : ℕ) → inserted_steps ≤ steps + 3 → ((qs : List (ℕ × ℕ)) (b : IsUnbalanced true new.0 new.1 (record { at = parent; child = id; rank = 1 }) qs) →
      IsOver b.context new.2.leaf → IsRepaired new.0 zs new_root qs (length b.context) inserted_steps new_steps) →
      new_first ≡ first_on new.2.side parent first id →
      Becomes ps (put expires id ps) xs zs new_root new_first old new_steps
  added inserted_steps zs new_root new_first new_steps few repairs first_is =
      let c = found.context in
      let can = inserted_can in
      let repaired = repairs (put expires id ps) can.0 can.1 in
      let kept = Keeps-then can.3 repaired.kept in
      record {
        stored = record {
          is_tree = repaired.tree;
          first_is = first_is ∙ first_placed new.2.side parent c first id expires found.parent_is inserted_new.side_is whole_once
              (stored.first_is ∙ ap first_id whole) ∙ sym (ap first_id (found.puts id));
          queue = repaired.tree.whole.fit.queue;
        };
        kept = Keeps-for (λ k gone. omega (arith, gone)) kept;
        gone = λ k here left. let never : ⊥ = omega (arith, here, left, times-put k expires id ps) in absurd never;
        count = λ d fits. omega (arith, found.count, few, can.2, repaired.count, cut_low xs root c Leaf ps found.cut d fits);
      }
