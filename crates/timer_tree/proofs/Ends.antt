-- The last timer: the place behind it, and which one it is after a call.
use Rattle.std.proofs.Common.{◌≡◌, ℕ, ◌+◌, ◌<◌, ◌≤◌, List, [], ◌∷◌, ◌++◌, length, nat_eq, if◌then◌else◌, arith, refl, ap, ◌∙◌, sym, subst}
use Rattle.std.proofs.Common.{append_assoc, append-nil}
use Rattle.std.specs.List.{AllByRecursion}
use Rattle.std.proofs.lemmas.Bool.{eq-eqb, ne_eqb, le-ltb}
use Rattle.timer_queue.specs.Pairs.{put, IsByExpiry}
use Rattle.timer_queue.proofs.Pairs.{AllByRecursion-follows}
use Rattle.timer_tree.specs.Nodes.{none, node_at, IsLink, pick}
use Rattle.timer_tree.specs.Trees.{Tree, Leaf, Fork, top, tall, pairs, IsAt, IsBalanced, times, last_id}
use Rattle.timer_tree.specs.Contexts.{Frame, parent_of, pairs_before, pairs_after, Cut, IsTree}
use Rattle.timer_tree.specs.Places.{IsPlace, last_on}
use Rattle.timer_tree.proofs.Trees.{times-append, one_same, pairs-plug, cut_down}
use Rattle.timer_tree.proofs.Puts.{put_right, up_to}
use Rattle.timer_tree.specs.declared.node.Node.{Node}
use Rattle.timer_tree.specs.declared.node.Side.{Side}
use Rattle.timer_tree.specs.declared.node.Side.TheVariants as sides

pub last_tail : (ps qs : List (ℕ × ℕ)) (q : ℕ × ℕ) → last_id (ps ++ q ∷ qs) ≡ last_id (q ∷ qs)
last_tail [] qs q = refl
last_tail (p ∷ []) qs q = refl
last_tail (p ∷ r ∷ ps) qs q = last_tail (r ∷ ps) qs q

-- the last timer stands in its list
last_times : (q : ℕ × ℕ) (qs : List (ℕ × ℕ)) → 0 < times (last_id (q ∷ qs)) (q ∷ qs)
last_times q [] = omega (arith, one_same q.1)
last_times q (r ∷ qs) = omega (arith, last_times r qs)

-- ---- the place behind the last timer

-- the hole of a context is on the right of its parent
abbrev IsRight : List Frame → Type 0
IsRight [] = Unit
IsRight (f ∷ c) = f.side ≡ sides.Right

-- the hole behind all timers
record End (xs : List Node) (root : ℕ) (ps : List (ℕ × ℕ)) : Type 0 where
  context : List Frame
  cut : Cut xs root context Leaf 0 ps
  after : pairs_after context ≡ []
  right : IsRight context

end_below : (xs : List Node) (root : ℕ) (c : List Frame) (t : Tree) (ps : List (ℕ × ℕ)) → Cut xs root c t (tall t) ps → pairs_after c ≡ [] → IsRight c →
    End xs root ps
end_below xs root c Leaf ps cut after right = record { context = c; cut = cut; after = after; right = right }
end_below xs root c (Fork l n e h r) ps cut after right =
    end_below xs root (record { side = sides.Right; n = n; e = e; h = h; other = l } ∷ c) r ps (cut_down sides.Right r l n e h cut) after refl

end_of : (xs : List Node) (root : ℕ) (ps : List (ℕ × ℕ)) → IsTree xs root ps → End xs root ps
end_of xs root ps is = end_below xs root [] is.tree ps is.whole refl tt

-- what stands before a hole on the right ends with its parent
pub last_before : (c : List Frame) → pairs_after c ≡ [] → last_id (pairs_before c) ≡ parent_of c
last_before [] after = refl
last_before (f ∷ c) after = by f.side after
  where
    os : List (ℕ × ℕ)
    os = pairs f.other

    by : (s : Side) → pick s ((f.e, f.n) ∷ os ++ pairs_after c) (pairs_after c) ≡ [] →
        last_id (pick s (pairs_before c) (pairs_before c ++ (os ++ (f.e, f.n) ∷ []))) ≡ f.n
    by sides.Left after = let never : ⊥ = omega (arith, ap length after) in absurd never
    by sides.Right after = ap last_id (sym (append_assoc (pairs_before c) os ((f.e, f.n) ∷ []))) ∙ last_tail (pairs_before c ++ os) [] (f.e, f.n)

end_pairs : {xs : List Node} {root : ℕ} {ps : List (ℕ × ℕ)} (end : End xs root ps) → ps ≡ pairs_before end.context
end_pairs end = sym end.cut.pairs_are ∙ pairs-plug end.context Leaf ∙ ap (λ qs. pairs_before end.context ++ qs) end.after ∙ append-nil _

end_parent : {xs : List Node} {root last : ℕ} {ps : List (ℕ × ℕ)} (end : End xs root ps) → last ≡ last_id ps → last ≡ parent_of end.context
end_parent end is = is ∙ ap last_id (end_pairs end) ∙ last_before end.context end.after

parent_inside : {xs : List Node} {root h : ℕ} {t : Tree} {ps : List (ℕ × ℕ)} (c : List Frame) → Cut xs root c t h ps → IsLink (length xs) (parent_of c)
parent_inside [] cut some = absurd (some refl)
parent_inside (f ∷ c) cut some = cut.linked.0.inside

pub last_inside : (xs : List Node) (root last : ℕ) (ps : List (ℕ × ℕ)) → IsTree xs root ps → last ≡ last_id ps → IsLink (length xs) last
last_inside xs root last ps tree is =
    let end = end_of xs root ps tree in subst (λ k. IsLink (length xs) k) (sym (end_parent end is)) (parent_inside end.context end.cut)

place_at : (xs : List Node) (root expires : ℕ) (c : List Frame) (ps : List (ℕ × ℕ)) (old steps : ℕ) → Cut xs root c Leaf 0 ps → pairs_after c ≡ [] →
    IsRight c → ps ≡ pairs_before c → ((parent_of c ≡ none → ⊥) → (node_at xs (parent_of c)).expires ≤ expires) → steps ≤ old + 1 →
    IsPlace xs root (parent_of c) expires ps old steps
place_at xs root expires [] ps old steps cut after right is late few = record {
  context = [];
  cut = cut;
  parent_is = refl;
  side = tt;
  puts = λ id. ap (λ qs. put expires id qs) is;
  count = omega (arith, few);
}
place_at xs root expires (f ∷ c) ps old steps cut after right is late few =
    let qs = pairs_before c ++ pairs f.other in
    let expiry : f.e ≤ expires = subst (λ (x : Node). x.expires ≤ expires) cut.linked.0.is
    (late (λ end. omega (arith, end, cut.linked.0.inside, cut.fit.small))) in
    let all : ps ≡ qs ++ (f.e, f.n) ∷ [] = is
    ∙ ap (λ s. pick s (pairs_before c) (pairs_before c ++ (pairs f.other ++ (f.e, f.n) ∷ []))) right
    ∙ sym (append_assoc (pairs_before c) (pairs f.other) ((f.e, f.n) ∷ [])) in
    let earlier : AllByRecursion (λ p. p.0 ≤ expires) qs = AllByRecursion-follows (λ p. p.0 ≤ f.e) (λ p. p.0 ≤ expires)
    (λ p at_most. omega (arith, at_most, expiry)) qs (up_to qs [] (f.e, f.n) (subst IsByExpiry all cut.fit.queue.by_expiry)) in
    record {
      context = f ∷ c;
      cut = cut;
      parent_is = refl;
      side = ap (λ b. if b then sides.Left else sides.Right) (le-ltb expires f.e expiry) ∙ sym right;
      puts = λ id. ap (λ rs. put expires id rs) all ∙ put_right expires id qs ((f.e, f.n) ∷ []) earlier
          ∙ ap (λ b. qs ++ (if b then (expires, id) ∷ (f.e, f.n) ∷ [] else (f.e, f.n) ∷ (expires, id) ∷ [])) (le-ltb expires f.e expiry)
          ∙ sym (append_assoc qs ((f.e, f.n) ∷ []) ((expires, id) ∷ [])) ∙ ap (λ rs. rs ++ (expires, id) ∷ []) (sym all ∙ is)
          ∙ ap (λ rs. pairs_before (f ∷ c) ++ (expires, id) ∷ rs) (sym after);
      count = omega (arith, few);
    }

-- the last timer is the parent of the place where it expires as early or earlier, or where there is none
pub end_place : (xs : List Node) (root last expires : ℕ) (ps : List (ℕ × ℕ)) (old steps : ℕ) → IsTree xs root ps → last ≡ last_id ps →
    ((last ≡ none → ⊥) → (node_at xs last).expires ≤ expires) → steps ≤ old + 1 → IsPlace xs root last expires ps old steps
end_place xs root last expires ps old steps tree is late few =
    let end = end_of xs root ps tree in
    let parent = end_parent end is in
    subst (λ k. IsPlace xs root k expires ps old steps) (sym parent) (place_at xs root expires end.context ps old steps end.cut end.after end.right (end_pairs end)
    (subst (λ k. (k ≡ none → ⊥) → (node_at xs k).expires ≤ expires) parent late) few)

-- ---- a timer is added

last_right : (bs cs : List (ℕ × ℕ)) (n last id expires : ℕ) → last_id bs ≡ n → 0 < times n bs → times n (bs ++ cs) ≤ 1 → last ≡ last_id (bs ++ cs) →
    (if nat_eq n last then id else last) ≡ last_id (bs ++ (expires, id) ∷ cs)
last_right bs [] n last id expires ends here once is =
    ap (λ b. if b then id else last) (eq-eqb n last (sym ends ∙ sym (is ∙ ap last_id (append-nil bs)))) ∙ sym (last_tail bs [] (expires, id))
last_right bs (q ∷ qs) n last id expires ends here once is =
    let its : last ≡ last_id (q ∷ qs) = is ∙ last_tail bs qs q in
    ap (λ b. if b then id else last) (ne_eqb n last (λ same. omega (
      arith,
      here,
      once,
      times-append n bs (q ∷ qs),
      subst (λ k. 0 < times k (q ∷ qs)) (sym (same ∙ its)) (last_times q qs),
    ))) ∙ its ∙ sym (last_tail bs (q ∷ qs) (expires, id))

pub last_frame : (s : Side) (os ps qs : List (ℕ × ℕ)) (e n last id expires : ℕ) → (n ≡ none → ⊥) →
    let left = pick s ps (ps ++ (os ++ (e, n) ∷ [])) in let right = pick s ((e, n) ∷ os ++ qs) qs in times n (left ++ right) ≤ 1 →
    last ≡ last_id (left ++ right) → last_on s n last id ≡ last_id (left ++ (expires, id) ∷ right)
last_frame sides.Left os ps qs e n last id expires some once is =
    ap (λ b. if b then id else last) (ne_eqb n none some) ∙ is ∙ last_tail ps (os ++ qs) (e, n) ∙ sym (last_tail ps ((e, n) ∷ os ++ qs) (expires, id))
last_frame sides.Right os ps qs e n last id expires some once is =
    let bs = ps ++ (os ++ (e, n) ∷ []) in
    last_right bs qs n last id expires (ap last_id (sym (append_assoc ps os ((e, n) ∷ []))) ∙ last_tail (ps ++ os) [] (e, n))
    (omega (arith, one_same n, times-append n ps (os ++ (e, n) ∷ []), times-append n os ((e, n) ∷ []))) once is

-- ---- a timer is taken out

pub last_stays : (ps qs : List (ℕ × ℕ)) (e id : ℕ) → (last_id (ps ++ (e, id) ∷ qs) ≡ id → ⊥) → last_id (ps ++ (e, id) ∷ qs) ≡ last_id (ps ++ qs)
last_stays ps [] e id other = absurd (other (last_tail ps [] (e, id)))
last_stays ps (q ∷ qs) e id other = last_tail ps (q ∷ qs) (e, id) ∙ sym (last_tail ps qs q)

-- a timer behind which nothing stands is the last
pub nothing_behind : (ps qs : List (ℕ × ℕ)) (e id : ℕ) → times id qs ≡ 0 → last_id (ps ++ (e, id) ∷ qs) ≡ id → qs ≡ []
nothing_behind ps [] e id gone last = refl
nothing_behind ps (q ∷ qs) e id gone last = let never : ⊥ =
    omega (arith, gone, subst (λ k. 0 < times k (q ∷ qs)) (sym (last_tail ps (q ∷ qs) (e, id)) ∙ last) (last_times q qs)) in absurd never

-- a subtree of rank one at most has its last node at the top
pub low_last : (xs : List Node) (p : ℕ) (l : Tree) (c : List Frame) → length xs ≤ none → IsAt xs p l → IsBalanced l → tall l ≤ 1 → pairs_after c ≡ [] →
    last_id (pairs_before c ++ pairs l) ≡ (if nat_eq (top l) none then parent_of c else top l)
low_last xs p Leaf c small at balanced low after = ap last_id (append-nil (pairs_before c)) ∙ last_before c after
low_last xs p (Fork a m f g Leaf) c small at balanced low after =
    ap last_id (sym (append_assoc (pairs_before c) (pairs a) ((f, m) ∷ []))) ∙ last_tail (pairs_before c ++ pairs a) [] (f, m)
    ∙ sym (ap (λ x. if x then parent_of c else m) (ne_eqb m none (λ same. omega (arith, same, at.0.inside, small))))
low_last xs p (Fork a m f g (Fork a' m' f' g' b')) c small at balanced low after = let never : ⊥ =
    omega (arith, balanced.0.below_b, balanced.2.0.below_a, low) in absurd never
