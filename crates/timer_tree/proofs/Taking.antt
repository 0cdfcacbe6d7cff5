-- What taking a timer out makes of the tree.
use Rattle.std.proofs.Common.{◌≡◌, ℕ, ◌+◌, ◌<◌, ◌≤◌, List, [], ◌∷◌, ◌++◌, length, nat_eq, if◌then◌else◌, arith, refl, ap, ◌∙◌, sym, subst}
use Rattle.std.proofs.Common.{slice_set, append_assoc, append-nil, length-append, ◌⊎◌, inl, inr}
use Rattle.std.proofs.lemmas.Bool.{eq-eqb, ne_eqb, cases_eq}
use Rattle.std.proofs.lemmas.Bool.Decides.{nat_tests}
use Rattle.timer_queue.specs.Pairs.{without}
use Rattle.timer_tree.specs.Nodes.{none, node_at}
use Rattle.timer_tree.specs.Links.{adopted, relinked}
use Rattle.timer_tree.specs.Moves.{only_child, spliced, substituted}
use Rattle.timer_tree.specs.Trees.{Tree, Leaf, Fork, top, tall, pairs, IsAt, IsBalanced, one, times, Keeps}
use Rattle.timer_tree.specs.Contexts.{Frame, plug, parent_of, root_of, IsAround, around, pairs_before, pairs_after, Fit, Cut}
use Rattle.timer_tree.specs.Takes.{IsLowering, IsTaking, IsTaken}
use Rattle.timer_tree.proofs.Trees.{times-append, times-fork, times-plug, one_same, Keeps-then, Keeps-for, Fit-size, set_keeps, set_stands, IsAt-kept}
use Rattle.timer_tree.proofs.Trees.{IsAround-kept, rank_at, no_top, by_eq, adopted_keeps, IsAt-adopted, both_adopted}
use Rattle.timer_tree.proofs.Trees.{relinked_linked, pairs-plug, plug-append, IsAt-cut}
use Rattle.timer_tree.proofs.Trees.{IsAt-join, Located, located, times-frames, root_of-frames, Fits-renamed, cut_down, cut_times, cut_unbalanced}
use Rattle.timer_tree.proofs.Puts.{without_at}
use Rattle.timer_tree.proofs.Stores.{fit_of}
use Rattle.timer_queue.proofs.Pairs.{IsQueue-without}
use Rattle.timer_tree.proofs.Counts.{cut_low}
use Rattle.timer_tree.specs.declared.node.Node.{Node}
use Rattle.timer_tree.specs.declared.node.Side.TheVariants as sides
use Rattle.timer_tree.specs.declared.rotate.Numbered.{Numbered}

-- ---- the way to the first node

lowering_at : (xs : List Node) (root old steps : ℕ) (above : List Frame) (ps : List (ℕ × ℕ)) (c : List Frame) (t : Tree) → (top t ≡ none → ⊥) →
    Cut xs root (c ++ above) t (tall t) ps → pairs_before c ≡ [] → steps ≡ old + length c + 1 → IsLowering xs root above ps (top t) (node_at xs (top t)) old steps
lowering_at xs root old steps above ps c Leaf some cut first count = absurd (some refl)
lowering_at xs root old steps above ps c (Fork l n e h r) some cut first count =
    record { context = c; l = l; e = e; h = h; r = r; cut = cut; first = first; node_is = refl; count = count }

pub lowering_step : (xs : List Node) (root n : ℕ) (node next : Node) (old steps new : ℕ) (above : List Frame) (ps : List (ℕ × ℕ)) →
    IsLowering xs root above ps n node old steps → (node.left ≡ none → ⊥) → next ≡ node_at xs node.left → new ≡ steps + 1 →
    IsLowering xs root above ps node.left next old new × ((node_at xs node.left).rank < (node_at xs n).rank)
lowering_step xs root n node next old steps new above ps so_far some is one_more =
    let at = so_far.cut.under in
    let left = ap (λ (x : Node). x.left) (so_far.node_is ∙ at.0.is) in
    let passed : Frame = record { side = sides.Left; n = n; e = so_far.e; h = so_far.h; other = so_far.r } in
    let down = cut_down sides.Left so_far.l so_far.r n so_far.e so_far.h so_far.cut in
    let moved = subst (λ k. IsLowering xs root above ps k (node_at xs k) old new) (sym left) (lowering_at xs root old new above ps
    (passed ∷ so_far.context) so_far.l (λ same. some (left ∙ same)) down so_far.first (omega (arith, one_more, so_far.count))) in
    let stored = rank_at xs n so_far.l so_far.cut.fit.small at.1 in (
      subst (λ x. IsLowering xs root above ps node.left x old new) (sym is) moved,
      omega (arith, ap (λ k. (node_at xs k).rank) left, stored, ap (λ (x : Node). x.rank) at.0.is, so_far.cut.balanced.0.below_a),
    )

-- ---- a node with one subtree is taken out

-- the context with this subtree in its hole
record Put (xs : List Node) (c : List Frame) (u : Tree) (new : List Node × ℕ) : Type 0 where
  linked : IsAround new.0 (top u) c
  under : IsAt new.0 (parent_of c) u
  root_is : new.1 ≡ root_of (top u) c
  kept : Keeps (λ k. times k (pairs u) + times k (around c)) xs new.0

spliced_put : (xs : List Node) (root n : ℕ) (node : Node) (c : List Frame) (u : Tree) → length xs ≤ none → n < none →
    ((k : ℕ) → times k (pairs u) + times k (around c) + one k n ≤ 1) → IsAround xs n c → IsAt xs n u → root ≡ root_of n c → (only_child node).root ≡ top u →
    node.parent ≡ parent_of c → Put xs c u (spliced xs root (record { n = n; node = node }))
unfolding spliced
spliced_put xs root n node c u small low once at under root_is part_is parent_is =
    let ys = adopted xs (top u) (parent_of c) in
    let adopt = adopted_keeps xs (parent_of c) u small in
    let link = relinked_linked ys root n (top u) c (omega (arith, adopt.size, small)) (λ k. omega (arith, once k)) low
    (IsAround-kept n c adopt (λ k. omega (arith, once k)) at) root_is in
    subst (λ subtree. Put xs c u (relinked (adopted xs subtree node.parent) root node.parent n subtree)) (sym part_is)
    (subst (λ parent. Put xs c u (relinked (adopted xs (top u) parent) root parent n (top u))) (sym parent_is) (record {
      linked = link.at;
      under = IsAt-kept (parent_of c) u link.kept (λ k. omega (arith, once k)) (IsAt-adopted xs n (parent_of c) u (λ k. omega (arith, once k)) under);
      root_is = link.root_is;
      kept = Keeps-then adopt link.kept;
    }))

-- ---- a node gets another's place

substituted_put : (xs : List Node) (root id : ℕ) (heir : Numbered) (c : List Frame) (l : Tree) (e h : ℕ) (r : Tree) → length xs ≤ none → heir.n < length xs →
    ((k : ℕ) → times k (pairs l) + times k (pairs r) + times k (around c) + one k id + one k heir.n ≤ 1) → IsAround xs id c →
    IsAt xs (parent_of c) (Fork l id e h r) → root ≡ root_of id c → Put xs c (Fork l heir.n heir.node.expires h r) (substituted xs root id heir)
unfolding substituted
substituted_put xs root id heir c l e h r small inside once at under root_is =
    let y = heir.n in
    let vs = adopted (adopted xs (top l) y) (top r) y in
    let new : Node = record { expires = heir.node.expires; left = top l; right = top r; parent = parent_of c; rank = h } in
    let ws = slice_set vs y new in
    let adopt = both_adopted xs id id y y l r small (λ k. omega (arith, once k)) under.1 under.2 in
    let set = set_keeps vs y new in
    let all = Keeps-then adopt.2 set in
    let link = relinked_linked ws root id y c (omega (arith, all.size, small)) (λ k. omega (arith, once k)) (omega (arith, under.0.inside, small))
    (IsAround-kept id c all (λ k. omega (arith, once k)) at) root_is in
    let whole = Fork l y heir.node.expires h r in
    let sum : (k : ℕ) → times k (pairs whole) ≡ times k (pairs l) + times k (pairs r) + one k y = λ k. times-fork k sides.Left l r y heir.node.expires h in
    subst (λ (node : Node).
    Put xs c whole (relinked (slice_set (adopted (adopted xs node.left y) node.right y) y (record node { expires = heir.node.expires })) root node.parent
    id y)) (sym under.0.is) (record {
      linked = link.at;
      under = IsAt-kept (parent_of c) whole link.kept (λ k. omega (arith, once k, sum k)) (
        set_stands vs y new (omega (arith, adopt.2.size, inside)),
        IsAt-kept y l set (λ k. omega (arith, once k)) adopt.0,
        IsAt-kept y r set (λ k. omega (arith, once k)) adopt.1,
      );
      root_is = link.root_is;
      kept = Keeps-for (λ k gone. omega (arith, gone, sum k)) (Keeps-then all link.kept);
    })

-- ---- the pairs that are left

pub without_part : (c : List Frame) (l : Tree) (e id h : ℕ) (r : Tree) (ps : List (ℕ × ℕ)) → pairs (plug c (Fork l id e h r)) ≡ ps →
    ((k : ℕ) → times k ps ≤ 1) → pairs_before c ++ ((pairs l ++ pairs r) ++ pairs_after c) ≡ without id ps
without_part c l e id h r ps is once =
    let whole : ps ≡ (pairs_before c ++ pairs l) ++ (e, id) ∷ (pairs r ++ pairs_after c) = sym is ∙ pairs-plug c (Fork l id e h r) ∙ simp append_assoc refl in
    let sum : times id ps ≡ times id (pairs_before c ++ pairs l) + (one id id + times id (pairs r ++ pairs_after c)) =
    subst (λ qs. times id qs ≡ times id (pairs_before c ++ pairs l) + (one id id + times id (pairs r ++ pairs_after c))) (sym whole)
    (times-append id (pairs_before c ++ pairs l) ((e, id) ∷ (pairs r ++ pairs_after c))) in
    sym (ap (λ qs. without id qs) whole ∙ without_at id e (pairs_before c ++ pairs l) (pairs r ++ pairs_after c) (omega (arith, sum, once id, one_same id))
    (omega (arith, sum, once id, one_same id)) ∙ simp append_assoc refl)

times-without : (k id : ℕ) (ps : List (ℕ × ℕ)) → times k (without id ps) ≡ (if nat_eq k id then 0 else times k ps)
times-without k id [] = grind (arith, nat_tests)
times-without k id (p ∷ ps) = grind (arith, nat_tests, times-without k id ps)

pub times-without-le : (k id : ℕ) (ps : List (ℕ × ℕ)) → times k (without id ps) ≤ times k ps
times-without-le k id ps = elim (cases_eq k id) [
  | inl same ↦ omega (arith, times-without k id ps, ap (λ b. if b then 0 else times k ps) (eq-eqb k id same))
  | inr apart ↦ omega (arith, times-without k id ps, ap (λ b. if b then 0 else times k ps) (ne_eqb k id apart))
]

pub gone_times : (id : ℕ) (ps : List (ℕ × ℕ)) → times id (without id ps) ≡ 0
gone_times id ps = times-without id id ps ∙ ap (λ b. if b then 0 else times id ps) (eq-eqb id id refl)

pub other_times : (k id : ℕ) (ps : List (ℕ × ℕ)) → (k ≡ id → ⊥) → times k (without id ps) ≡ times k ps
other_times k id ps apart = times-without k id ps ∙ ap (λ b. if b then 0 else times k ps) (ne_eqb k id apart)

-- what is left fits the block too
without_fit : {xs ys : List Node} {ps : List (ℕ × ℕ)} (id : ℕ) → length ys ≡ length xs → Fit xs ps → Fit ys (without id ps)
without_fit {xs = xs} {ps = ps} id size fit =
    Fit-size size (fit_of xs (without id ps) fit.small (IsQueue-without (length xs) id ps fit.queue))

-- a timer with at most one subtree below it
one_part : (xs : List Node) (root id : ℕ) (node : Node) (ps : List (ℕ × ℕ)) (u : Tree) (new : List Node × ℕ) (old steps : ℕ)
    (place : Located xs root id ps) → node ≡ node_at xs id → pairs place.l ++ pairs place.r ≡ pairs u → IsAt xs id u → IsBalanced u →
    place.h ≡ tall u + 1 → (only_child node).root ≡ top u → new ≡ spliced xs root (record { n = id; node = node }) → steps ≤ old + 2 →
    IsTaken xs id ps new.0 new.1 (record { at = node.parent; child = (only_child node).root; rank = (only_child node).rank }) old steps
one_part xs root id node ps u new old steps place node_is same_pairs at_u balanced_u rank part_is is few =
    let c = place.context in
    let h = place.h in
    let cut = place.cut in
    let here = node_is ∙ cut.under.0.is in
    let parent_is = ap (λ (x : Node). x.parent) here in
    let once = cut.fit.once in
    let sum : (k : ℕ) → times k ps ≡ times k (pairs u) + one k id + times k (around c) = λ k. omega (
      arith,
      cut_times cut k,
      times-fork k sides.Left place.l place.r id place.e h,
      ap (λ qs. times k qs) same_pairs,
      times-append k (pairs place.l) (pairs place.r),
    ) in
    let done = subst (λ x. Put xs c u x) (sym is) (spliced_put xs root id node c u cut.fit.small (omega (arith, cut.under.0.inside, cut.fit.small))
    (λ k. omega (arith, once k, sum k)) cut.linked at_u cut.root_is part_is parent_is) in
    let fit = without_fit id done.kept.size cut.fit in
    let pairs_are : pairs (plug c u) ≡ without id ps =
    pairs-plug c u ∙ ap (λ qs. pairs_before c ++ (qs ++ pairs_after c)) (sym same_pairs) ∙ without_part c place.l place.e id h place.r ps cut.pairs_are once in
    let put : Cut new.0 new.1 c u h (without id ps) = search arith in
    record {
      unbalanced = cut_unbalanced _ put parent_is part_is (omega (arith, ap (λ (x : Node). x.rank) here, rank)) (omega (arith, rank), omega (arith, rank));
      kept = Keeps-for (λ k gone. omega (arith, sum k, gone)) done.kept;
      low = λ d less. omega (arith, cut_low xs root c (Fork place.l id place.e h place.r) ps cut d less);
      count = omega (arith, few);
    }

pub taken_one : (xs : List Node) (root id : ℕ) (node : Node) (ps : List (ℕ × ℕ)) (new : List Node × ℕ) (old steps : ℕ) → IsTaking xs root id ps →
    node ≡ node_at xs id → ((node.left ≡ none) ⊎ (node.right ≡ none)) → new ≡ spliced xs root (record { n = id; node = node }) → steps ≤ old + 2 →
    IsTaken xs id ps new.0 new.1 (record { at = node.parent; child = (only_child node).root; rank = (only_child node).rank }) old steps
taken_one xs root id node ps new old steps taking node_is part_free is few =
    let place = located xs root id ps taking.tree taking.present in
    let cut = place.cut in
    let rank = cut.balanced.0 in
    let left = ap (λ (x : Node). x.left) (node_is ∙ cut.under.0.is) in
    let right = ap (λ (x : Node). x.right) (node_is ∙ cut.under.0.is) in
    elim part_free [
      | inl end ↦
          let leaf = no_top xs id place.l cut.fit.small cut.under.1 (sym left ∙ end) in
          one_part xs root id node ps place.r new old steps place node_is (ap (λ t. pairs t ++ pairs place.r) leaf) cut.under.2 cut.balanced.2
          (omega (arith, rank.below_b, rank.near_both, ap tall leaf))
          (ap (λ b. if b then node.right else node.left) (eq-eqb node.left none end) ∙ right) is few
      | inr end ↦
          let leaf = no_top xs id place.r cut.fit.small cut.under.2 (sym right ∙ end) in
          one_part xs root id node ps place.l new old steps place node_is (ap (λ t. pairs place.l ++ pairs t) leaf ∙ append-nil (pairs place.l))
          cut.under.1 cut.balanced.1 (omega (arith, rank.below_a, rank.near_both, ap tall leaf))
          (by_eq (λ b. (if b then node.right else node.left) ≡ top place.l) node.left none (λ gone. end ∙ sym gone ∙ left) (λ some. left)) is few
    ]

-- a timer with two parts: the first node of the right subtree takes its place
heir_above : (d : List Frame) (f g : Frame) (c : List Frame) → times f.n (around d) ≡ 0 →
    (if nat_eq (parent_of (d ++ f ∷ c)) f.n then g.n else parent_of (d ++ f ∷ c)) ≡ parent_of (d ++ g ∷ c)
heir_above [] f g c gone = ap (λ b. if b then g.n else f.n) (eq-eqb f.n f.n refl)
heir_above (x ∷ d) f g c gone = ap (λ b. if b then g.n else x.n) (ne_eqb x.n f.n (λ same. omega (arith, one_same f.n, ap (λ k. one f.n k) same, gone)))

two_at : (xs : List Node) (root id : ℕ) (ps : List (ℕ × ℕ)) (c : List Frame) (l : Tree) (e h : ℕ) (low : Numbered) (mid new : List Node × ℕ)
    (at old steps low_steps : ℕ) (d : List Frame) (lowest : Tree) (e' h' : ℕ) (rest : Tree) →
    let f : Frame = record { side = sides.Right; n = id; e = e; h = h; other = l } in
    Cut xs root (d ++ f ∷ c) (Fork lowest low.n e' h' rest) h' ps → low.node.left ≡ none → pairs_before d ≡ [] → low.node ≡ node_at xs low.n →
    low_steps ≡ old + length d + 1 → mid ≡ spliced xs root low → new ≡ substituted mid.0 mid.1 id low →
    at ≡ (if nat_eq low.node.parent id then low.n else low.node.parent) → steps ≤ low_steps + 7 →
    IsTaken xs id ps new.0 new.1 (record { at = at; child = (only_child low.node).root; rank = (only_child low.node).rank }) old steps
two_at xs root id ps c l e h low mid new at old steps low_steps d (Fork a m f g b) e' h' rest cut last first node_is lows mid_is new_is at_is few =
    let never : ⊥ = omega (arith, last, ap (λ (x : Node). x.left) (node_is ∙ cut.under.0.is), cut.under.1.0.inside, cut.fit.small) in absurd never
two_at xs root id ps c l e h low mid new at old steps low_steps d Leaf e' h' rest cut last first node_is lows mid_is new_is at_is few =
    let y = low.n in
    let f : Frame = record { side = sides.Right; n = id; e = e; h = h; other = l } in
    let g : Frame = record { side = sides.Right; n = y; e = low.node.expires; h = h; other = l } in
    let whole = d ++ f ∷ c in
    let subtree = Fork Leaf y e' h' rest in
    let once = cut.fit.once in
    let rank = cut.balanced.0 in
    let around_whole : (k : ℕ) → times k (around whole) ≡ times k (around d) + one k id + times k (pairs l) + times k (around c) = λ k.
    omega (arith, times-frames k d (f ∷ c), times-append k (pairs l) (around c)) in
    let sum : (k : ℕ) → times k ps ≡ times k (pairs rest) + one k y + times k (around d) + one k id + times k (pairs l) + times k (around c) = λ k.
    omega (arith, cut_times cut k, around_whole k, times-fork k sides.Left Leaf rest y e' h') in
    let here = node_is ∙ cut.under.0.is in
    let first_put = subst (λ x. Put xs whole rest x) (sym mid_is) (spliced_put xs root y low.node whole rest cut.fit.small
    (omega (arith, cut.under.0.inside, cut.fit.small)) (λ k. omega (arith, once k, sum k, around_whole k)) cut.linked cut.under.2 cut.root_is
    (ap (λ (x : Node). (only_child x).root) here) (ap (λ (x : Node). x.parent) here)) in
    let joined = IsAt-join mid.0 d (f ∷ c) rest first_put.linked first_put.under in
    let left = plug d rest in
    let sum_left : (k : ℕ) → times k (pairs left) ≡ times k (pairs rest) + times k (around d) = λ k. times-plug k d rest in
    let second = subst (λ x. Put mid.0 c (Fork l y low.node.expires h left) x) (sym new_is) (substituted_put mid.0 mid.1 id low c l e h left
    (omega (arith, first_put.kept.size, cut.fit.small)) (omega (arith, first_put.kept.size, cut.under.0.inside))
    (λ k. omega (arith, once k, sum k, sum_left k))
    joined.0.2 (joined.0.0, joined.0.1, joined.1) (first_put.root_is ∙ root_of-frames (top rest) d f c)) in
    let again = IsAt-cut new.0 d (g ∷ c) rest (second.under.0, second.under.1, second.linked) second.under.2 in
    let old_pairs : pairs (plug d subtree) ≡ (e', y) ∷ pairs left = pairs-plug d subtree ∙ ap (λ qs. qs ++ (((e', y) ∷ pairs rest) ++ pairs_after d)) first
    ∙ ap (λ qs. (e', y) ∷ qs) (sym (pairs-plug d rest ∙ ap (λ qs. qs ++ (pairs rest ++ pairs_after d)) first)) in
    let kept : Keeps (λ k. times k ps) xs new.0 = Keeps-for
    (λ k gone. omega (arith, sum k, sum_left k, around_whole k, gone, times-fork k sides.Left l left y low.node.expires h))
    (Keeps-then first_put.kept second.kept) in
    let size_c = length-append d (f ∷ c) in
    let size_g = length-append d (g ∷ c) in
    let fit = without_fit id kept.size cut.fit in
    let root_is = second.root_is ∙ sym (root_of-frames (top rest) d g c) in
    let fits = Fits-renamed d f g c h' refl refl cut.fits in
    let pairs_are : pairs (plug (d ++ g ∷ c) rest) ≡ without id ps = ap pairs (plug-append d (g ∷ c) rest)
    ∙ pairs-plug c (Fork l y low.node.expires h left)
    ∙ ap (λ qs. pairs_before c ++ ((pairs l ++ qs) ++ pairs_after c)) (ap (λ x. (x, y) ∷ pairs left) (ap (λ (x : Node). x.expires) here) ∙ sym old_pairs)
    ∙ without_part c l e id h (plug d subtree) ps (sym (ap pairs (plug-append d (f ∷ c) subtree)) ∙ cut.pairs_are) once in
    let put : Cut new.0 new.1 (d ++ g ∷ c) rest h' (without id ps) = search arith in
    record {
      unbalanced = cut_unbalanced _ put (at_is ∙ ap (λ k. if nat_eq k id then y else k) (ap (λ (x : Node). x.parent) here) ∙ heir_above d f g c
          (omega (arith, once id, sum id, one_same id))) (ap (λ (x : Node). (only_child x).root) here)
          (omega (arith, ap (λ (x : Node). x.rank) here, rank.near_both, rank.below_b))
          (omega (arith, rank.below_b), omega (arith, rank.near_both, rank.below_b));
      kept = kept;
      low = λ digits small. omega (arith, cut_low xs root whole subtree ps cut digits small, size_c, size_g, rank.below_a);
      count = omega (arith, few, lows, size_g);
    }

-- where a timer stands, and what is above its right subtree
pub place_of : (xs : List Node) (root id : ℕ) (ps : List (ℕ × ℕ)) → IsTaking xs root id ps → Located xs root id ps
place_of xs root id ps taking = located xs root id ps taking.tree taking.present

abbrev pub above_right : {xs : List Node} {root id : ℕ} {ps : List (ℕ × ℕ)} → Located xs root id ps → List Frame
above_right {id = id} place = record { side = sides.Right; n = id; e = place.e; h = place.h; other = place.l } ∷ place.context

pub taking_rank : (xs : List Node) (root id : ℕ) (ps : List (ℕ × ℕ)) → IsTaking xs root id ps → 0 < (node_at xs id).rank
taking_rank xs root id ps taking =
    let cut = (place_of xs root id ps taking).cut in omega (arith, ap (λ (x : Node). x.rank) cut.under.0.is, cut.balanced.0.below_a)

pub right_part : (xs : List Node) (root id : ℕ) (node : Node) (ps : List (ℕ × ℕ)) (taking : IsTaking xs root id ps) (steps : ℕ) → node ≡ node_at xs id →
    (node.right ≡ none → ⊥) →
    IsLowering xs root (above_right (place_of xs root id ps taking)) ps node.right (node_at xs node.right) steps (steps + 1)
right_part xs root id node ps taking steps node_is some =
    let place = place_of xs root id ps taking in
    let right = ap (λ (x : Node). x.right) (node_is ∙ place.cut.under.0.is) in
    subst (λ k. IsLowering xs root (above_right place) ps k (node_at xs k) steps (steps + 1)) (sym right)
    (lowering_at xs root steps (steps + 1) (above_right place) ps [] place.r (λ same. some (right ∙ same))
    (cut_down sides.Right place.r place.l id place.e place.h place.cut) refl (omega arith))

pub taken_two : (xs : List Node) (root id : ℕ) (ps : List (ℕ × ℕ)) (low : Numbered) (mid new : List Node × ℕ) (at old steps low_steps : ℕ) →
    (taking : IsTaking xs root id ps) → IsLowering xs root (above_right (place_of xs root id ps taking)) ps low.n low.node old low_steps →
    low.node.left ≡ none → mid ≡ spliced xs root low → new ≡ substituted mid.0 mid.1 id low →
    at ≡ (if nat_eq low.node.parent id then low.n else low.node.parent) → steps ≤ low_steps + 7 →
    IsTaken xs id ps new.0 new.1 (record { at = at; child = (only_child low.node).root; rank = (only_child low.node).rank }) old steps
taken_two xs root id ps low mid new at old steps low_steps taking lowest last mid_is new_is at_is few =
    let place = place_of xs root id ps taking in
    two_at xs root id ps place.context place.l place.e place.h low mid new at old steps low_steps lowest.context lowest.l lowest.e lowest.h lowest.r lowest.cut
    last lowest.first lowest.node_is lowest.count mid_is new_is at_is few
