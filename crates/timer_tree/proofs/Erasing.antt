-- The queue after a timer was taken out.
use Rattle.std.proofs.Common.{◌≡◌, ℕ, true, false, ◌+◌, ◌<◌, ◌≤◌, List, [], ◌∷◌, ◌++◌, length, nat_eq, if◌then◌else◌, arith, refl, ap, ◌∙◌, sym}
use Rattle.std.proofs.Common.{subst, append_assoc, append-nil, length-append, inl, inr}
use Rattle.std.proofs.lemmas.Bool.{ne_eqb, cases_eq}
use Rattle.timer_queue.specs.Pairs.{without, has_id}
use Rattle.timer_tree.specs.Nodes.{none, node_at, pick}
use Rattle.timer_tree.specs.Rotate.{ranked}
use Rattle.timer_tree.specs.Trees.{Tree, Leaf, Fork, top, tall, pairs, IsAt, IsBalanced, one, times, first_id, last_id, Keeps}
use Rattle.timer_tree.specs.Contexts.{Frame, parent_of, pairs_before, pairs_after, IsStored, Becomes, IsRepairing, IsRepaired, Cut}
use Rattle.timer_tree.specs.Places.{first_off, last_off}
use Rattle.timer_tree.specs.Takes.{IsTaking, IsTaken}
use Rattle.timer_tree.proofs.Trees.{by_eq, times-append, one_same, apart_one, once_with, Keeps-then, Keeps-for, Fit-size, set_keeps}
use Rattle.timer_tree.proofs.Trees.{set_stands, IsAt-kept, IsAround-kept, pairs-plug}
use Rattle.timer_tree.proofs.Trees.{tall-le, cut_times}
use Rattle.timer_tree.proofs.Stores.{present_times}
use Rattle.timer_tree.proofs.Ends.{last_stays, nothing_behind, low_last}
use Rattle.timer_tree.proofs.Climbs.{repairing_start}
use Rattle.timer_tree.proofs.Taking.{place_of, without_part, gone_times, other_times}
use Rattle.timer_tree.specs.declared.node.Node.{Node}
use Rattle.timer_tree.specs.declared.node.Side.{Side}
use Rattle.timer_tree.specs.declared.node.Side.TheVariants as sides
use Rattle.timer_tree.specs.declared.repair.Unbalanced.{Unbalanced}

-- ---- the first timer

first_behind : (s : Side) (os ps qs : List (ℕ × ℕ)) (e n : ℕ) → pick s ps (ps ++ (os ++ (e, n) ∷ [])) ≡ [] → first_id (pick s ((e, n) ∷ os ++ qs) qs) ≡ n
first_behind sides.Left os ps qs e n nothing = refl
first_behind sides.Right os ps qs e n nothing =
    let never : ⊥ = omega (arith, ap length nothing, length-append ps (os ++ (e, n) ∷ []), length-append os ((e, n) ∷ [])) in absurd never

first_after : (c : List Frame) → pairs_before c ≡ [] → first_id (pairs_after c) ≡ parent_of c
first_after [] nothing = refl
first_after (f ∷ c) nothing = first_behind f.side (pairs f.other) (pairs_before c) (pairs_after c) f.e f.n nothing

nothing_both : (ps qs : List (ℕ × ℕ)) → ps ++ qs ≡ [] → (ps ≡ []) × (qs ≡ [])
nothing_both [] qs nothing = (refl, nothing)
nothing_both (p ∷ ps) qs nothing = let never : ⊥ = omega (arith, ap length nothing) in absurd never

-- a timer before which nothing stands is the first
nothing_before : (ps qs : List (ℕ × ℕ)) (e id : ℕ) → times id ps ≡ 0 → first_id (ps ++ (e, id) ∷ qs) ≡ id → ps ≡ []
nothing_before [] qs e id gone first = refl
nothing_before (p ∷ ps) qs e id gone first = let never : ⊥ = omega (arith, gone, one_same id, ap (λ k. one id k) first) in absurd never

first_stays : (ps qs : List (ℕ × ℕ)) (e id : ℕ) → (first_id (ps ++ (e, id) ∷ qs) ≡ id → ⊥) → first_id (ps ++ (e, id) ∷ qs) ≡ first_id (ps ++ qs)
first_stays [] qs e id other = absurd (other refl)
first_stays (p ∷ ps) qs e id other = refl

-- a subtree of rank one at most has its first node at the top
low_first : (xs : List Node) (p : ℕ) (r : Tree) (c : List Frame) → length xs ≤ none → IsAt xs p r → IsBalanced r → tall r ≤ 1 → pairs_before c ≡ [] →
    first_id (pairs r ++ pairs_after c) ≡ (if nat_eq (top r) none then parent_of c else top r)
low_first xs p Leaf c small at balanced low nothing = first_after c nothing
low_first xs p (Fork Leaf m f g b) c small at balanced low nothing =
    sym (ap (λ x. if x then parent_of c else m) (ne_eqb m none (λ same. omega (arith, same, at.0.inside, small))))
low_first xs p (Fork (Fork a m' f' g' b') m f g b) c small at balanced low nothing = let never : ⊥ =
    omega (arith, balanced.0.below_a, balanced.1.0.below_a, low) in absurd never

-- what stands before a timer and behind it
record Parts (xs : List Node) (root id : ℕ) (node : Node) (ps : List (ℕ × ℕ)) : Type 0 where
  c : List Frame
  l : Tree
  e : ℕ
  h : ℕ
  r : Tree
  cut : Cut xs root c (Fork l id e h r) h ps
  here : node ≡ record { expires = e; left = top l; right = top r; parent = parent_of c; rank = h }
  whole : ps ≡ (pairs_before c ++ pairs l) ++ (e, id) ∷ (pairs r ++ pairs_after c)
  rest : without id ps ≡ (pairs_before c ++ pairs l) ++ (pairs r ++ pairs_after c)
  gone : times id (pairs_before c ++ pairs l) + times id (pairs r ++ pairs_after c) ≡ 0

parts : (xs : List Node) (root id : ℕ) (node : Node) (ps : List (ℕ × ℕ)) → IsTaking xs root id ps → node ≡ node_at xs id → Parts xs root id node ps
parts xs root id node ps taking node_is =
    let place = place_of xs root id ps taking in
    let c = place.context in
    let l = place.l in
    let e = place.e in
    let r = place.r in
    let cut = place.cut in
    let left = pairs_before c ++ pairs l in
    let right = pairs r ++ pairs_after c in
    let whole : ps ≡ left ++ (e, id) ∷ right = sym cut.pairs_are ∙ pairs-plug c (Fork l id e place.h r) ∙ simp append_assoc refl in
    let sum : times id ps ≡ times id left + (one id id + times id right) = subst (λ qs. times id qs ≡ times id left + (one id id + times id right))
    (sym whole) (times-append id left ((e, id) ∷ right)) in
    record {
      c = c;
      l = l;
      e = e;
      h = place.h;
      r = r;
      cut = cut;
      here = node_is ∙ cut.under.0.is;
      whole = whole;
      rest = sym (without_part c l e id place.h r ps cut.pairs_are cut.fit.once) ∙ simp append_assoc refl;
      gone = omega (arith, sum, cut.fit.once id, one_same id);
    }

erased_first : (xs : List Node) (root first id : ℕ) (node : Node) (ps : List (ℕ × ℕ)) (new_first : ℕ) → IsTaking xs root id ps → first ≡ first_id ps →
    node ≡ node_at xs id → new_first ≡ first_off node first id → new_first ≡ first_id (without id ps)
erased_first xs root first id node ps new_first taking first_is node_is new_is =
    let p = parts xs root id node ps taking node_is in
    let c = p.c in
    let l = p.l in
    let e = p.e in
    let r = p.r in
    let cut = p.cut in
    let left = pairs_before c ++ pairs l in
    let right = pairs r ++ pairs_after c in
    let here = p.here in
    let whole = p.whole in
    let rest = p.rest in
    by_eq (λ b. new_first ≡ (if b then (if nat_eq node.right none then node.parent else node.right) else first) → new_first ≡ first_id (without id ps))
    first id (λ same is.
    let both = nothing_both (pairs_before c) (pairs l) (nothing_before left right e id (omega (arith, p.gone)) (sym (ap first_id whole) ∙ sym first_is ∙ same)) in
    let flat : tall l ≤ 0 = omega (arith, tall-le l cut.balanced.1, ap length both.1) in
    let low = low_first xs id r c cut.fit.small cut.under.2 cut.balanced.2 (omega (arith, cut.balanced.0.near_a, cut.balanced.0.below_b, flat)) both.0 in
    is ∙ ap (λ (x : Node). if nat_eq x.right none then x.parent else x.right) here
    ∙ sym (ap first_id rest ∙ ap (λ qs. first_id (qs ++ right)) (ap (λ qs. qs ++ pairs l) both.0 ∙ both.1) ∙ low))
    (λ other is. is ∙ first_is ∙ ap first_id whole ∙ first_stays left right e id (λ same. other (first_is ∙ ap first_id whole ∙ same))
    ∙ sym (ap first_id rest)) new_is

-- the last timer after one was taken out
pub erased_last : (xs : List Node) (root last id : ℕ) (node : Node) (ps : List (ℕ × ℕ)) (new_last : ℕ) → IsTaking xs root id ps → last ≡ last_id ps →
    node ≡ node_at xs id → new_last ≡ last_off node last id → new_last ≡ last_id (without id ps)
erased_last xs root last id node ps new_last taking last_is node_is new_is =
    let p = parts xs root id node ps taking node_is in
    let c = p.c in
    let l = p.l in
    let r = p.r in
    let cut = p.cut in
    let left = pairs_before c ++ pairs l in
    let right = pairs r ++ pairs_after c in
    by_eq (λ b. new_last ≡ (if b then (if nat_eq node.left none then node.parent else node.left) else last) → new_last ≡ last_id (without id ps))
    last id (λ same is.
    let both = nothing_both (pairs r) (pairs_after c)
    (nothing_behind left right p.e id (omega (arith, p.gone)) (sym (ap last_id p.whole) ∙ sym last_is ∙ same)) in
    let flat : tall r ≤ 0 = omega (arith, tall-le r cut.balanced.2, ap length both.0) in
    let low = low_last xs id l c cut.fit.small cut.under.1 cut.balanced.1 (omega (arith, cut.balanced.0.near_b, cut.balanced.0.below_a, flat)) both.1 in
    is ∙ ap (λ (x : Node). if nat_eq x.left none then x.parent else x.left) p.here
    ∙ sym (ap last_id p.rest ∙ ap (λ qs. last_id (left ++ qs)) (ap (λ qs. qs ++ pairs_after c) both.0 ∙ both.1) ∙ ap last_id (append-nil left) ∙ low))
    (λ other is. is ∙ last_is ∙ ap last_id p.whole ∙ last_stays left right p.e id (λ same. other (last_is ∙ ap last_id p.whole ∙ same))
    ∙ sym (ap last_id p.rest)) new_is

-- ---- the node that was taken out is written

cut_kept : {xs ys : List Node} {root h : ℕ} {c : List Frame} {t : Tree} {ps : List (ℕ × ℕ)} (n : ℕ) → times n ps ≡ 0 → Keeps (λ k. one k n) xs ys →
    Cut xs root c t h ps → Cut ys root c t h ps
cut_kept {c = c} {t = t} {ps = ps} n gone kept cut =
    let apart : (k : ℕ) → one k n + times k ps ≤ 1 = λ k. once_with k n ps gone (cut.fit.once k) in
    let fit = Fit-size kept.size cut.fit in
    let linked = IsAround-kept (top t) c kept (λ k. omega (arith, apart k, cut_times cut k)) cut.linked in
    let under = IsAt-kept (parent_of c) t kept (λ k. omega (arith, apart k, cut_times cut k)) cut.under in search arith

pub takes : (xs : List Node) (root first id : ℕ) (ps : List (ℕ × ℕ)) → IsStored xs root first ps → has_id id ps ≡ true → IsTaking xs root id ps
takes xs root first id ps stored present = record { tree = stored.is_tree; present = present_times id ps present }

-- what a repair is asked for
pub taken_can : (xs : List Node) (id : ℕ) (ps : List (ℕ × ℕ)) (ys : List Node) (mid_root : ℕ) (r : Unbalanced) (old steps : ℕ) (zs : List Node) (new : ℕ) →
    (taken : IsTaken xs id ps ys mid_root r old steps) → zs ≡ ranked ys id 0 →
    IsRepairing false zs zs mid_root r (without id ps) (length taken.unbalanced.context) new new
taken_can xs id ps ys mid_root r old steps zs new taken is =
    let b = taken.unbalanced in
    let kept = subst (λ us. Keeps (λ k. one k id) ys us) (sym is) (set_keeps ys id (record (node_at ys id) { rank = 0 })) in
    let cut = cut_kept id (gone_times id ps) kept b.cut in
    repairing_start new
    (record { context = b.context; subtree = b.subtree; old_rank = b.old_rank; cut = cut; at_is = b.at_is; changed = b.changed })

one_taken : (k id : ℕ) (ps : List (ℕ × ℕ)) → 0 < times id ps → times k ps ≡ 0 → one k id ≡ 0
one_taken k id ps present gone = elim (cases_eq k id) [
  | inl same ↦ let never : ⊥ = omega (arith, present, subst (λ j. times j ps ≡ 0) same gone) in absurd never
  | inr apart ↦ apart_one k id apart
]

-- the queue after a timer was taken out
pub erased : (xs : List Node) (root first id : ℕ) (node : Node) (ps : List (ℕ × ℕ)) (ys : List Node) (mid_root : ℕ) (r : Unbalanced)
    (old read_steps taken_steps : ℕ) (zs : List Node) (written_steps : ℕ) (ws : List Node) (new_root new_first new_steps : ℕ) → IsStored xs root first ps →
    IsTaking xs root id ps → node ≡ node_at xs id → new_first ≡ first_off node first id → read_steps ≡ old + 1 →
    IsTaken xs id ps ys mid_root r read_steps taken_steps → zs ≡ ranked ys id 0 → written_steps ≡ taken_steps + 1 →
    ((us : List Node) (qs : List (ℕ × ℕ)) (levels start : ℕ) → IsRepairing false us zs mid_root r qs levels start written_steps →
    IsRepaired us ws new_root qs levels start new_steps) →
    Becomes ps (without id ps) xs ws new_root new_first old new_steps
erased xs root first id node ps ys mid_root r old read_steps taken_steps zs written_steps ws new_root new_first new_steps stored taking node_is first_is
    one_read taken zs_is one_write repairs =
    let repaired = repairs zs (without id ps) _ _ (taken_can xs id ps ys mid_root r read_steps taken_steps zs written_steps taken zs_is) in
    let unlinked = record (node_at ys id) { rank = 0 } in
    let set = set_keeps ys id unlinked in
    let kept = Keeps-then taken.kept (Keeps-then (subst (λ us. Keeps (λ k. one k id) ys us) (sym zs_is) set) repaired.kept) in
    let inside : id < length ys = omega (arith, taken.kept.size, (place_of xs root id ps taking).cut.under.0.inside) in
    record {
      stored = record {
        is_tree = repaired.tree;
        first_is = erased_first xs root first id node ps new_first taking stored.first_is node_is first_is;
        queue = repaired.tree.whole.fit.queue;
      };
      kept = Keeps-for (λ k gone. omega (arith, gone, one_taken k id ps taking.present (omega (arith, gone)))) kept;
      gone = λ k here left. elim (cases_eq k id) [
        | inl same ↦ ap (λ (x : Node). x.rank) (repaired.kept.rest k left ∙ ap (λ us. node_at us k) zs_is ∙ ap (λ j. node_at (ranked ys id 0) j) same
            ∙ (set_stands ys id unlinked inside).is)
        | inr apart ↦ let never : ⊥ = omega (arith, here, left, other_times k id ps apart) in absurd never
      ];
      count = λ d few. omega (arith, one_read, taken.count, one_write, repaired.count, taken.low d few);
    }
