-- One step of a repair, and its end.
use Rattle.std.proofs.Common.{◌≡◌, ℕ, Bool, true, false, ◌+◌, ◌-◌, ◌<◌, ◌≤◌, List, [], ◌∷◌, ◌++◌, length, nat_eq, if◌then◌else◌, arith, refl, ap, ◌∙◌, sym}
use Rattle.std.proofs.Common.{subst, suc}
use Rattle.std.proofs.lemmas.Bool.{ne_eqb}
use Rattle.timer_tree.specs.Nodes.{none, node_at}
use Rattle.timer_tree.specs.Links.{relinked}
use Rattle.timer_tree.specs.Rotate.{ranked}
use Rattle.timer_tree.specs.Moves.{Repairing, ended, repair_step}
use Rattle.timer_tree.specs.Trees.{Tree, Leaf, Fork, top, tall, pairs, IsAt, one, times, Keeps}
use Rattle.timer_tree.specs.Contexts.{Frame, filled, plug, parent_of, root_of, IsAround, around, pairs_before, pairs_after, FitsRank, Cut, IsTree, Way}
use Rattle.timer_tree.specs.Contexts.{IsUnbalanced, IsRepairing, IsRepaired, IsOver}
use Rattle.timer_tree.proofs.Trees.{by_eq, times-fork, times-plug, Keeps-then, Keeps-for, Fit-size, IsAt-kept, IsAround-kept, length-fork, fork-IsAt}
use Rattle.timer_tree.proofs.Trees.{Linked, relinked_linked, length-plug, pairs-plug, tall-le, cut_whole}
use Rattle.timer_tree.proofs.Counts.{tall-lt}
use Rattle.timer_tree.proofs.Rotations.{Remade}
use Rattle.timer_tree.proofs.Stepping.{Changed, Handles, stepped_handled, leaf_handled, rest_at}
use Rattle.timer_tree.specs.declared.node.Node.{Node}
use Rattle.timer_tree.specs.declared.repair.Unbalanced.{Unbalanced}

-- what a step gives: fewer nodes are left, and the next one is higher up
pub record Climbed (rising : Bool) (xs : List Node) (r : Unbalanced) (ps : List (ℕ × ℕ)) (levels : ℕ) (new : Repairing) : Type 0 where
  pub unbalanced : IsUnbalanced rising new.0 new.1 new.2 ps
  pub fewer : length unbalanced.context < levels
  pub kept : Keeps (λ k. times k ps) xs new.0
  pub rises : (new.2.at ≡ none → ⊥) → (node_at xs r.at).rank < (node_at new.0 new.2.at).rank

-- the next node of a context stands higher
rises_above : (xs : List Node) (hole h : ℕ) (c : List Frame) → IsAround xs hole c → FitsRank c h → (parent_of c ≡ none → ⊥) → h < (node_at xs (parent_of c)).rank
rises_above xs hole h [] at fits some = absurd (some refl)
rises_above xs hole h (f ∷ c) at fits some = omega (arith, fits.0.below_a, ap (λ (x : Node). x.rank) at.0.is)

-- a subtree that was remade is linked to its parent
record Relinked (xs : List Node) (c : List Frame) (u : Tree) (h : ℕ) (ps : List (ℕ × ℕ)) (new : List Node × ℕ) : Type 0 where
  cut : Cut new.0 new.1 c u h ps
  kept : Keeps (λ k. times k ps) xs new.0

relinks : (xs : List Node) (root old rank : ℕ) (f : Frame) (c : List Frame) (t : Tree) (ps : List (ℕ × ℕ)) (ev new : List Node × ℕ) →
    Cut xs root (f ∷ c) t old ps → (done : Remade xs (parent_of c) (filled f t) rank ev) → Linked ev.0 (top done.u) c new → Relinked xs c done.u f.h ps new
relinks xs root old rank f c t ps ev new cut remade link =
    let done = remade.done in
    let sum : (k : ℕ) → times k ps ≡ times k (pairs (filled f t)) + times k (around c) = λ k.
    subst (λ qs. times k qs ≡ times k (pairs (filled f t)) + times k (around c)) cut.pairs_are (times-plug k c (filled f t)) in
    let once = cut.fit.once in
    let kept : Keeps (λ k. times k ps) xs new.0 = Keeps-for (λ k gone. omega (arith, sum k, gone)) (Keeps-then done.kept link.kept) in
    let fit = Fit-size kept.size cut.fit in
    let under = IsAt-kept (parent_of c) remade.u link.kept (λ k. omega (arith, sum k, once k, ap (λ qs. times k qs) done.same)) done.at in
    let pairs_are : pairs (plug c remade.u) ≡ ps =
    pairs-plug c remade.u ∙ ap (λ qs. pairs_before c ++ (qs ++ pairs_after c)) done.same ∙ sym (pairs-plug c (filled f t)) ∙ cut.pairs_are in
    let up : Cut new.0 new.1 c remade.u f.h ps = search arith in record { cut = up; kept = kept }

climbs_on : (rising : Bool) (xs : List Node) (k : ℕ) (f : Frame) (c : List Frame) (u : Tree) (ps : List (ℕ × ℕ)) (r : Unbalanced) (new : List Node × ℕ) →
    Relinked xs c u f.h ps new → k ≡ top u → Way rising f.h u → (node_at xs r.at).rank ≡ f.h →
    Climbed rising xs r ps (length (f ∷ c)) (new.0, new.1, record { at = parent_of c; child = k; rank = tall u })
climbs_on rising xs k f c u ps r new link top_is way stored = record {
  unbalanced = record { context = c; subtree = u; old_rank = f.h; cut = link.cut; at_is = refl; changed = λ some. (top_is, refl, way) };
  fewer = omega arith;
  kept = link.kept;
  rises = λ some. omega (arith, stored, rises_above new.0 (top u) f.h c link.cut.linked link.cut.fits some);
}

climbs_out : (rising : Bool) (xs : List Node) (c : List Frame) (u : Tree) (ps : List (ℕ × ℕ)) (r : Unbalanced) (new : List Node × ℕ) →
    Relinked xs c u (tall u) ps new → Climbed rising xs r ps (suc (length c)) (new.0, new.1, ended)
climbs_out rising xs c u ps r new link =
    let whole = cut_whole new.0 new.1 c u ps link.cut in
    record {
      unbalanced = record { context = []; subtree = plug c u; old_rank = tall (plug c u); cut = whole; at_is = refl; changed = λ some. absurd (some refl) };
      fewer = omega arith;
      kept = link.kept;
      rises = λ some. absurd (some refl);
    }

-- a step at a node, by what it gives of each goal that its results have
climbed_at : (rising : Bool) (xs : List Node) (root : ℕ) (f : Frame) (c : List Frame) (t : Tree) (old : ℕ) (ps : List (ℕ × ℕ)) (new : Repairing) →
    Cut xs root (f ∷ c) t old ps → ((Goal : Repairing → Type 0) → Changed xs (parent_of c) f.side t f.other f.n f.e f.h old →
    Handles rising xs (parent_of c) (filled f t) f.h root (rest_at f.n t) Goal → Goal new) → Climbed rising xs (rest_at f.n t) ps (length (f ∷ c)) new
climbed_at rising xs root f c t old ps new cut step =
    let x = filled f t in
    let sum : (k : ℕ) → times k ps ≡ times k (pairs x) + times k (around c) = λ k. subst (λ qs. times k qs ≡ times k (pairs x) + times k (around c))
    cut.pairs_are (times-plug k c x) in
    let once = cut.fit.once in
    let apart : (k : ℕ) → times k (around c) + one k f.n ≤ 1 = λ k. omega (arith, sum k, once k, times-fork k f.side t f.other f.n f.e f.h) in
    let count : length ps ≡ length (pairs x) + length (around c) = subst (λ qs. length qs ≡ length (pairs x) + length (around c)) cut.pairs_are
    (length-plug c x) in
    let stored : (node_at xs f.n).rank ≡ f.h = ap (λ (y : Node). y.rank) cut.linked.0.is in
    let changed : Changed xs (parent_of c) f.side t f.other f.n f.e f.h old = record {
      whole = record {
        small = cut.fit.small;
        once = λ k. omega (arith, sum k, once k);
        at = fork-IsAt xs (parent_of c) f.side t f.other f.n f.e f.h cut.linked.0 cut.under cut.linked.1;
      };
      low = omega (arith, tall-le t cut.balanced, tall-le f.other cut.fits.1, length-fork f.side t f.other f.n f.e f.h, count, cut.fit.few);
      balanced_t = cut.balanced;
      balanced_o = cut.fits.1;
      has = cut.fits.0;
    } in
    let as_before = λ (ys : List Node) (rank : ℕ) (new : Remade xs (parent_of c) x rank (ys, f.n)). relinks xs root old rank f c t ps (ys, f.n) (ys, root) cut
    new (record {
      at = subst (λ k. IsAround ys k c) new.root_is (IsAround-kept f.n c new.done.kept (λ k. omega (arith, sum k, once k)) cut.linked.2);
      root_is = cut.root_is ∙ ap (λ k. root_of k c) new.root_is;
      kept = record { size = refl; rest = λ k out. refl };
    }) in
    let r = rest_at f.n t in
    let Goal : Repairing → Type 0 = λ new. Climbed rising xs r ps (length (f ∷ c)) new in
    step Goal changed (record {
      on = λ ys rank new way. subst (λ h. Goal (ys, root, record { at = parent_of c; child = f.n; rank = h })) new.rank_is
          (climbs_on rising xs f.n f c new.u ps r (ys, root) (as_before ys rank new) new.root_is way stored);
      moved = λ new remade. let last = relinked new.0 root (parent_of c) f.n new.1 in
          climbs_out rising xs c remade.u ps r last (subst (λ h. Relinked xs c remade.u h ps last) (sym remade.rank_is)
          (relinks xs root old f.h f c t ps new last cut remade (subst (λ k. Linked new.0 k c last) remade.root_is (relinked_linked new.0 root f.n new.1 c
          (omega (arith, remade.done.kept.size, cut.fit.small)) apart (omega (arith, cut.linked.0.inside, cut.fit.small))
          (IsAround-kept f.n c remade.done.kept (λ k. omega (arith, sum k, once k)) cut.linked.2) cut.root_is))));
      stop = λ balanced. climbs_out rising xs c x ps r (xs, root) (as_before xs f.h (record {
        u = x;
        done = record { at = changed.whole.at; kept = record { size = refl; rest = λ k gone. refl }; balanced = balanced; same = refl };
        root_is = refl;
        rank_is = refl;
      }));
    })

climbed_next : (rising : Bool) (xs : List Node) (root : ℕ) (c : List Frame) (t : Tree) (old : ℕ) (ps : List (ℕ × ℕ)) → (parent_of c ≡ none → ⊥) →
    Cut xs root c t old ps → Way rising old t → Climbed rising xs (rest_at (parent_of c) t) ps (length c) (repair_step rising xs root (rest_at (parent_of c) t))
climbed_next rising xs root [] t old ps some cut way = absurd (some refl)
climbed_next rising xs root (f ∷ c) t old ps some cut way =
    climbed_at rising xs root f c t old ps (repair_step rising xs root (rest_at f.n t)) cut
    (λ Goal changed handles. stepped_handled xs root f.side t f.other f.n f.e f.h old (parent_of c) Goal changed rising way handles)

-- the first step above a timer that was inserted
abbrev first_step : Bool → List Node → (root n : ℕ) → Repairing
first_step leaf xs root n = if leaf then (ranked xs n 2, root, record { at = (node_at xs n).parent; child = n; rank = 2 }) else (xs, root, ended)

climbed_first : (leaf : Bool) (xs : List Node) (root : ℕ) (c : List Frame) (t : Tree) (old : ℕ) (ps : List (ℕ × ℕ)) → (parent_of c ≡ none → ⊥) →
    Cut xs root c t old ps → tall t ≡ 1 → Way true old t → IsOver c leaf →
    Climbed true xs (rest_at (parent_of c) t) ps (length c) (first_step leaf xs root (parent_of c))
climbed_first leaf xs root [] t old ps some cut one way over = absurd (some refl)
climbed_first leaf xs root (f ∷ c) t old ps some cut one way over =
    subst (λ x. Climbed true xs (rest_at f.n t) ps (length (f ∷ c)) (first_step x xs root f.n)) (sym over)
    (subst (λ (y : Node). Climbed true xs (rest_at f.n t) ps (length (f ∷ c))
    (if nat_eq (top f.other) none then (ranked xs f.n 2, root, record { at = y.parent; child = f.n; rank = 2 }) else (xs, root, ended)))
    (sym cut.linked.0.is) (climbed_at true xs root f c t old ps _ cut
    (λ Goal changed handles. leaf_handled xs root f.side t f.other f.n f.e f.h old (parent_of c) Goal changed one way handles)))

-- where a repair goes on is known by the context
rest_is : {rising : Bool} {xs : List Node} {root : ℕ} {r : Unbalanced} {ps : List (ℕ × ℕ)} → (r.at ≡ none → ⊥) →
    (b : IsUnbalanced rising xs root r ps) → rest_at (parent_of b.context) b.subtree ≡ r
rest_is {r = r} some b =
    let changed = b.changed some in
    let at : ℕ → ℕ → ℕ → Unbalanced = λ n k h. record { at = n; child = k; rank = h } in
    sym (ap (λ n. at n r.child r.rank) b.at_is ∙ ap (λ k. at (parent_of b.context) k r.rank) changed.0
    ∙ ap (λ h. at (parent_of b.context) (top b.subtree) h) changed.1)

climbed : (rising : Bool) (xs : List Node) (root : ℕ) (r : Unbalanced) (ps : List (ℕ × ℕ)) (new : Repairing) → (r.at ≡ none → ⊥) →
    (b : IsUnbalanced rising xs root r ps) → new ≡ repair_step rising xs root r → Climbed rising xs r ps (length b.context) new
climbed rising xs root r ps new some b is =
    subst (λ x. Climbed rising xs r ps (length b.context) x) (sym is)
    (subst (λ q. Climbed rising xs q ps (length b.context) (repair_step rising xs root q)) (rest_is some b)
    (climbed_next rising xs root b.context b.subtree b.old_rank ps (λ same. some (b.at_is ∙ same)) b.cut (b.changed some).2))

-- ---- what a step is asked for

pub record CanStep (xs : List Node) (r : Unbalanced) : Type 0 where
  pub inside : r.at < length xs
  pub small : length xs ≤ none
  pub child : (node_at xs r.at).rank ≤ r.rank → r.child < length xs
  pub low : r.rank ≤ 65
  pub low_at : (node_at xs r.at).rank ≤ 68

way_low : (rising : Bool) (old : ℕ) (t : Tree) → Way rising old t → old ≤ tall t + 1
way_low true old t way = omega arith
way_low false old t way = omega arith

high_inside : (xs : List Node) (p : ℕ) (t : Tree) → IsAt xs p t → 0 < tall t → top t < length xs
high_inside xs p Leaf at some = omega (arith, some)
high_inside xs p (Fork l n e h r) at some = at.0.inside

can_step_at : (rising : Bool) (xs : List Node) (root : ℕ) (c : List Frame) (t : Tree) (old : ℕ) (ps : List (ℕ × ℕ)) → (parent_of c ≡ none → ⊥) →
    Cut xs root c t old ps → Way rising old t → CanStep xs (rest_at (parent_of c) t)
can_step_at rising xs root [] t old ps some cut way = absurd (some refl)
can_step_at rising xs root (f ∷ c) t old ps some cut way =
    let stored : (node_at xs f.n).rank ≡ f.h = ap (λ (x : Node). x.rank) cut.linked.0.is in
    let count : length ps ≡ length (pairs t) + length (around (f ∷ c)) = subst (λ qs. length qs ≡ length (pairs t) + length (around (f ∷ c)))
    cut.pairs_are (length-plug (f ∷ c) t) in
    let low = tall-lt 33 t cut.balanced (omega (arith, count, cut.fit.few)) in
    record {
      inside = cut.linked.0.inside;
      small = cut.fit.small;
      child = λ up. high_inside xs f.n t cut.under (omega (arith, up, stored, cut.fits.0.below_a));
      low = omega arith;
      low_at = omega (arith, stored, cut.fits.0.near_a, way_low rising old t way);
    }

pub can_step : (rising : Bool) (xs : List Node) (root : ℕ) (r : Unbalanced) (ps : List (ℕ × ℕ)) → (r.at ≡ none → ⊥) →
    IsUnbalanced rising xs root r ps → CanStep xs r
can_step rising xs root r ps some b = subst (λ q. CanStep xs q) (rest_is some b)
    (can_step_at rising xs root b.context b.subtree b.old_rank ps (λ same. some (b.at_is ∙ same)) b.cut (b.changed some).2)

-- ---- the loop of a repair

repairing_on : {rising : Bool} {xs ys zs : List Node} {root new_root : ℕ} {r r' : Unbalanced} {ps : List (ℕ × ℕ)} {levels old steps : ℕ} (new : ℕ) →
    (so_far : IsRepairing rising xs ys root r ps levels old steps) → Climbed rising ys r ps (length so_far.unbalanced.context) (zs, new_root, r') →
    new ≤ steps + 15 → IsRepairing rising xs zs new_root r' ps levels old new
repairing_on new so_far done few = record {
  unbalanced = done.unbalanced;
  kept = Keeps-for (λ k gone. omega (arith, gone)) (Keeps-then so_far.kept done.kept);
  count = omega (arith, so_far.count, few, done.fewer);
}

pub repairing_step : (rising : Bool) (xs ys zs : List Node) (root new_root : ℕ) (r r' : Unbalanced) (ps : List (ℕ × ℕ))
    (levels old_steps steps new_steps : ℕ) → IsRepairing rising xs ys root r ps levels old_steps steps → (r.at ≡ none → ⊥) →
    (zs, new_root, r') ≡ repair_step rising ys root r → new_steps ≤ steps + 15 → IsRepairing rising xs zs new_root r' ps levels old_steps new_steps
repairing_step rising xs ys zs root new_root r r' ps levels old_steps steps new_steps so_far some is few =
    repairing_on new_steps so_far (climbed rising ys root r ps (zs, new_root, r') some so_far.unbalanced is) few

-- what is left of the way up, by the rank of the next node
abbrev pub way_left : List Node → ℕ → ℕ
way_left xs at = if nat_eq at none then 0 else 100 - (node_at xs at).rank

pub repairing_smaller : (rising : Bool) (ys zs : List Node) (root new_root : ℕ) (r r' : Unbalanced) (ps : List (ℕ × ℕ)) →
    IsUnbalanced rising ys root r ps → (r.at ≡ none → ⊥) → (zs, new_root, r') ≡ repair_step rising ys root r → way_left zs r'.at < way_left ys r.at
repairing_smaller rising ys zs root new_root r r' ps b some is =
    let done = climbed rising ys root r ps (zs, new_root, r') some b is in
    let can = can_step rising ys root r ps some b in
    subst (λ x. way_left zs r'.at < (if x then 0 else 100 - (node_at ys r.at).rank)) (sym (ne_eqb r.at none some))
    (by_eq (λ x. (if x then 0 else 100 - (node_at zs r'.at).rank) < 100 - (node_at ys r.at).rank) r'.at none (λ end. omega arith)
    (λ on. omega (arith, done.rises on)))

-- where no node is left, the tree is balanced
all_ended : (xs : List Node) (root : ℕ) (c : List Frame) (t : Tree) (old : ℕ) (ps : List (ℕ × ℕ)) → Cut xs root c t old ps → parent_of c ≡ none →
    IsTree xs root ps
all_ended xs root [] t old ps cut end = let whole : Cut xs root [] t (tall t) ps = search arith in record { tree = t; whole = whole }
all_ended xs root (f ∷ c) t old ps cut end = let never : ⊥ = omega (arith, end, cut.linked.0.inside, cut.fit.small) in absurd never

pub repairing_end : (rising : Bool) (xs ys : List Node) (root : ℕ) (r : Unbalanced) (ps : List (ℕ × ℕ)) (levels old_steps steps : ℕ) →
    IsRepairing rising xs ys root r ps levels old_steps steps → r.at ≡ none → IsRepaired xs ys root ps levels old_steps steps
repairing_end rising xs ys root r ps levels old_steps steps so_far end =
    let b = so_far.unbalanced in
    record {
      tree = all_ended ys root b.context b.subtree b.old_rank ps b.cut (sym b.at_is ∙ end);
      kept = so_far.kept;
      count = omega (arith, so_far.count);
    }

abbrev pub repairing_start : {rising : Bool} {xs : List Node} {root : ℕ} {r : Unbalanced} {ps : List (ℕ × ℕ)} (steps : ℕ) →
    (b : IsUnbalanced rising xs root r ps) → IsRepairing rising xs xs root r ps (length b.context) steps steps
repairing_start steps b = record { unbalanced = b; kept = record { size = refl; rest = λ k gone. refl }; count = omega arith }

-- the first step above a timer that was inserted
pub settling : (leaf : Bool) (xs ys : List Node) (root n id : ℕ) (r' : Unbalanced) (ps : List (ℕ × ℕ)) (steps new_steps : ℕ) → (n ≡ none → ⊥) →
    (b : IsUnbalanced true xs root (record { at = n; child = id; rank = 1 }) ps) → IsOver b.context leaf → (ys, root, r') ≡ first_step leaf xs root n →
    new_steps ≤ steps + 15 → IsRepairing true xs ys root r' ps (length b.context) steps new_steps
settling leaf xs ys root n id r' ps steps new_steps some b over is few =
    let changed = b.changed some in
    repairing_on new_steps (repairing_start steps b) (subst (λ x. Climbed true xs (record { at = n; child = id; rank = 1 }) ps (length b.context) x) (sym is)
    (subst (λ q. Climbed true xs q ps (length b.context) (first_step leaf xs root q.at)) (rest_is some b)
    (climbed_first leaf xs root b.context b.subtree b.old_rank ps (λ same. some (b.at_is ∙ same)) b.cut (sym changed.1) changed.2 over))) few
