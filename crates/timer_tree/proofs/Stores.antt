-- What is known of the block of a queue.
use Rattle.std.proofs.Common.{◌≡◌, ℕ, true, false, ◌+◌, ◌-◌, ◌<◌, ◌≤◌, List, [], ◌∷◌, ◌++◌, Option, Some}
use Rattle.std.proofs.Common.{None, not, length, map, nat_eq, if◌then◌else◌, arith, refl}
use Rattle.std.proofs.Common.{ap, ◌∙◌, sym, subst, zero, suc, inl, inr, replicate}
use Rattle.std.specs.List.{AllByRecursion, IsDistinct}
use Rattle.std.proofs.lemmas.Bool.{cases_eq, cases_lt, ne_eqb, false≢true}
use Rattle.std.proofs.lemmas.Bool.Decides.{nat_tests}
use Rattle.std.proofs.lemmas.Map.Keys.{IsDistinct-head, IsDistinct-tail}
use Rattle.timer_queue.specs.Pairs.{has_id, first_of, IsQueue}
use Rattle.timer_queue.proofs.Pairs.{All-from_ids, apart_from_absent, IsQueue-empty, length-le_room}
use Rattle.std.proofs.lemmas.List.{get_or_past, get_or-replicate, length-replicate}
use Rattle.timer_tree.specs.Nodes.{none, blank, node_at, IsLink}
use Rattle.timer_tree.specs.Trees.{Tree, Leaf, Fork, top, tall, pairs, IsAt, IsBalanced, one, times, first_id, pairs_below, queue_at, Keeps}
use Rattle.timer_tree.specs.Contexts.{IsTree, IsStored, AreUnranked, Becomes, Fit, Cut}
use Rattle.timer_tree.proofs.Trees.{rank_at, located, once_with, tall-le, Fit-size, Keeps-for, IsAt-kept}
use Rattle.timer_tree.specs.declared.node.Node.{Node}

times-apart : (k : ℕ) (ps : List (ℕ × ℕ)) → AllByRecursion (λ p. nat_eq k p.1 ≡ false) ps → times k ps ≡ 0
times-apart k [] all = refl
times-apart k (p ∷ ps) all = let rest = times-apart k ps all.1 in let here : one k p.1 ≡ 0 = ap (λ b. if b then 1 else 0) all.0 in omega (arith, rest, here)

pub times-absent : (k : ℕ) (ps : List (ℕ × ℕ)) → has_id k ps ≡ false → times k ps ≡ 0
times-absent k ps absent = times-apart k ps (apart_from_absent k ps absent)

-- numbers that differ stand once
pub times-le : (k : ℕ) (ps : List (ℕ × ℕ)) → IsDistinct nat_eq (map (λ p. p.1) ps) → times k ps ≤ 1
times-le k [] once = omega arith
times-le k (p ∷ ps) once =
    let rest = times-le k ps (IsDistinct-tail nat_eq p.1 (map (λ q. q.1) ps) once) in
    let apart = times-apart p.1 ps (All-from_ids (λ q. nat_eq p.1 q ≡ false) ps (IsDistinct-head nat_eq p.1 (map (λ q. q.1) ps) once)) in
    once_with k p.1 ps apart rest

pub fit_of : (xs : List Node) (ps : List (ℕ × ℕ)) → length xs ≤ none → IsQueue (length xs) ps → Fit xs ps
fit_of xs ps small queue =
    record { small = small; few = omega (arith, length-le_room (length xs) ps queue, small); once = λ k. times-le k ps queue.once; queue = queue }

-- ---- the pairs are read from the block

pairs_below-is : (k : ℕ) (xs : List Node) (p : ℕ) (t : Tree) → length xs ≤ none → tall t ≤ k → IsBalanced t → IsAt xs p t → pairs_below k xs (top t) ≡ pairs t
pairs_below-is zero xs p Leaf small low balanced at = refl
pairs_below-is zero xs p (Fork l n e h r) small low balanced at = let never : ⊥ = omega (arith, low, balanced.0.below_a) in absurd never
pairs_below-is (suc k) xs p Leaf small low balanced at = refl
pairs_below-is (suc k) xs p (Fork l n e h r) small low balanced at =
    let left = pairs_below-is k xs n l small (omega (arith, low, balanced.0.below_a)) balanced.1 at.1 in
    let right = pairs_below-is k xs n r small (omega (arith, low, balanced.0.below_b)) balanced.2 at.2 in
    let some : nat_eq n none ≡ false = ne_eqb n none (λ same. omega (arith, same, at.0.inside, small)) in
    ap (λ b. if b then [] else pairs_below k xs (node_at xs n).left ++ ((node_at xs n).expires, n) ∷ pairs_below k xs (node_at xs n).right) some
    ∙ ap (λ (x : Node). pairs_below k xs x.left ++ (x.expires, n) ∷ pairs_below k xs x.right) at.0.is
    ∙ ap (λ ps. ps ++ (e, n) ∷ pairs_below k xs (top r)) left
    ∙ ap (λ ps. pairs l ++ (e, n) ∷ ps) right

pub queue_at-is : (xs : List Node) (root : ℕ) (ps : List (ℕ × ℕ)) → IsTree xs root ps → queue_at xs root ≡ ps
queue_at-is xs root ps is =
    let t = is.tree in
    let cut = is.whole in
    subst (λ n. queue_at xs n ≡ ps) (sym cut.root_is)
    (ap (λ k. pairs_below k xs (top t)) (rank_at xs none t cut.fit.small cut.under)
    ∙ pairs_below-is (tall t) xs none t cut.fit.small (omega arith) cut.balanced cut.under ∙ cut.pairs_are)

pub queue_again : (xs : List Node) (root first : ℕ) (ps : List (ℕ × ℕ)) → IsStored xs root first ps → IsStored xs root first (queue_at xs root)
queue_again xs root first ps stored = subst (λ qs. IsStored xs root first qs) (sym (queue_at-is xs root ps stored.is_tree)) stored

-- ---- the first pair, and whether a timer is in the tree

abbrev first_at : List Node → ℕ → Option (ℕ × ℕ)
first_at xs n = if nat_eq n none then None else Some ((node_at xs n).expires, n)

first_of-behind : (ps qs : List (ℕ × ℕ)) → 0 < length ps → (first_of (ps ++ qs) ≡ first_of ps) × (first_id (ps ++ qs) ≡ first_id ps)
first_of-behind [] qs some = let never : ⊥ = omega (arith, some) in absurd never
first_of-behind (p ∷ ps) qs some = (refl, refl)

-- the first pair is read at its number, which is none or one in the block
first_node : (xs : List Node) (p : ℕ) (t : Tree) → length xs ≤ none → IsBalanced t → IsAt xs p t →
    (first_of (pairs t) ≡ first_at xs (first_id (pairs t))) × IsLink (length xs) (first_id (pairs t))
first_node xs p Leaf small balanced at = (refl, λ some. absurd (some refl))
first_node xs p (Fork Leaf n e h r) small balanced at = (
  sym (ap (λ b. if b then None else Some ((node_at xs n).expires, n)) (ne_eqb n none (λ same. omega (arith, same, at.0.inside, small)))
      ∙ ap (λ (x : Node). Some (x.expires, n)) at.0.is),
  λ some. at.0.inside,
)
first_node xs p (Fork (Fork a m f g b) n e h r) small balanced at =
    let l = Fork a m f g b in
    let more = first_of-behind (pairs l) ((e, n) ∷ pairs r) (omega (arith, tall-le l balanced.1, balanced.1.0.below_a)) in
    let rest = first_node xs n (Fork a m f g b) small balanced.1 at.1 in
    (more.0 ∙ rest.0 ∙ ap (λ k. first_at xs k) (sym more.1), subst (λ k. IsLink (length xs) k) (sym more.1) rest.1)

pub first_stored : (xs : List Node) (root first : ℕ) (ps : List (ℕ × ℕ)) → IsStored xs root first ps →
    (first_of ps ≡ first_at xs first) × IsLink (length xs) first
first_stored xs root first ps stored =
    let cut = stored.is_tree.whole in
    let done = first_node xs none stored.is_tree.tree cut.fit.small cut.balanced cut.under in
    let same : first_id (pairs stored.is_tree.tree) ≡ first = ap first_id cut.pairs_are ∙ sym stored.first_is in
    (ap first_of (sym cut.pairs_are) ∙ done.0 ∙ ap (λ k. first_at xs k) same, subst (λ k. IsLink (length xs) k) same done.1)

pub present_times : (k : ℕ) (ps : List (ℕ × ℕ)) → has_id k ps ≡ true → 0 < times k ps
present_times k [] present = absurd (false≢true present)
present_times k (p ∷ ps) present =
    elim (cases_eq k p.1) [
      | inl same ↦ grind (arith, nat_tests)
      | inr apart ↦ let rest : has_id k ps ≡ true = grind (arith, nat_tests) in omega (arith, present_times k ps rest)
    ]

pub has_stored : (xs : List Node) (root first : ℕ) (ps : List (ℕ × ℕ)) (k : ℕ) → IsStored xs root first ps →
    (times k ps ≡ 0 → (node_at xs k).rank ≡ 0) → not (nat_eq (node_at xs k).rank 0) ≡ has_id k ps
has_stored xs root first ps k stored free =
    elim (has_id k ps) as (λ b. has_id k ps ≡ b → not (nat_eq (node_at xs k).rank 0) ≡ b) [
      | true ↦ λ present.
          let cut = (located xs root k ps stored.is_tree (present_times k ps present)).cut in
          ap not (ne_eqb (node_at xs k).rank 0 (λ zero_h. omega (arith, zero_h, ap (λ (x : Node). x.rank) cut.under.0.is, cut.balanced.0.below_a)))
      | false ↦ λ absent. ap (λ h. not (nat_eq h 0)) (free (times-absent k ps absent))
    ] refl

-- ---- the empty tree

pub empty_stored : (xs : List Node) (room : ℕ) → room ≤ none → xs ≡ replicate room blank → IsStored xs none none (queue_at xs none) × (queue_at xs none ≡ []) ×
    ((k : ℕ) → (node_at xs k).rank ≡ 0)
empty_stored xs room small is =
    let size : length xs ≡ room = ap length is ∙ length-replicate room blank in
    let blank_at : (k : ℕ) → node_at xs k ≡ blank = λ k. ap (λ ys. node_at ys k) is ∙ elim (cases_lt k room) [
      | inl inside ↦ get_or-replicate room k blank blank inside
      | inr past ↦ get_or_past (replicate room blank) k blank (omega (arith, past, length-replicate room blank))
    ] in
    let fit = fit_of xs [] (omega (arith, size, small)) (IsQueue-empty (length xs)) in
    let whole : Cut xs none [] Leaf 0 [] = search arith in
    let tree : IsTree xs none [] = record { tree = Leaf; whole = whole } in
    let stored : IsStored xs none none [] = record {
      is_tree = tree;
      first_is = refl;
      queue = IsQueue-empty (length xs);
    } in (queue_again xs none none [] stored, queue_at-is xs none [] tree, λ k. ap (λ (x : Node). x.rank) (blank_at k))

-- a timer's number is below the room
pub has_inside : (xs : List Node) (root first : ℕ) (ps : List (ℕ × ℕ)) (k : ℕ) → IsStored xs root first ps → has_id k ps ≡ true → k < length xs
has_inside xs root first ps k stored present = (located xs root k ps stored.is_tree (present_times k ps present)).cut.under.0.inside

-- ---- a queue beside another one whose timers alone have changed

pub stored_beside : (out : ℕ → ℕ) (xs ys : List Node) (root first : ℕ) (ps : List (ℕ × ℕ)) → Keeps out xs ys → ((k : ℕ) → 0 < times k ps → out k ≡ 0) →
    IsStored xs root first ps → IsStored ys root first ps
stored_beside out xs ys root first ps kept apart stored =
    let tree = stored.is_tree in
    let cut = tree.whole in
    let rest : Keeps (λ k. 1 - times k ps) xs ys = Keeps-for (λ k gone. apart k (omega (arith, gone))) kept in
    let same : (k : ℕ) → 1 - times k ps + times k (pairs tree.tree) ≤ 1 =
    λ k. omega (arith, cut.fit.once k, ap (λ qs. times k qs) cut.pairs_are) in
    let fit = Fit-size kept.size cut.fit in
    let under = IsAt-kept none tree.tree rest same cut.under in
    let whole : Cut ys root [] tree.tree (tall tree.tree) ps = record {
      fit = fit;
      linked = tt;
      under = under;
      root_is = cut.root_is;
      balanced = cut.balanced;
      fits = tt;
      pairs_are = cut.pairs_are;
    } in record {
      is_tree = record { tree = tree.tree; whole = whole };
      first_is = stored.first_is;
      queue = subst (λ n. IsQueue n ps) (sym kept.size) stored.queue;
    }

-- timers in no queue have the rank 0 still, where others count so often elsewhere
pub free_after : (elsewhere : ℕ → ℕ) {ps qs : List (ℕ × ℕ)} {xs zs : List Node} {root first old steps : ℕ} → Becomes ps qs xs zs root first old steps →
    AreUnranked xs (λ k. times k ps + elsewhere k) → AreUnranked zs (λ k. times k qs + elsewhere k)
free_after elsewhere {ps = ps} {qs = qs} gives free k none_now = elim (cases_eq (times k ps) 0) [
  | inl before ↦ ap (λ (x : Node). x.rank) (gives.kept.rest k (omega (arith, before, none_now))) ∙ free k (omega (arith, before, none_now))
  | inr some ↦ gives.gone k (omega (arith, some)) (omega (arith, none_now))
]

pub free_alone : {ps qs : List (ℕ × ℕ)} {xs zs : List Node} {root first old steps : ℕ} → Becomes ps qs xs zs root first old steps →
    AreUnranked xs (λ k. times k ps) → AreUnranked zs (λ k. times k qs)
free_alone gives free k none_now = free_after (λ k. 0) gives (λ j gone. free j (omega (arith, gone))) k (omega (arith, none_now))
