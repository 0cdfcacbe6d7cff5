-- What a call on one tree of a store makes of all of them.
use Rattle.std.proofs.Common.{◌≡◌, ℕ, ◌+◌, ◌<◌, ◌≤◌, List, [], ◌∷◌, length, slice_set, slice_index_or, zero, suc, true, false, replicate}
use Rattle.std.proofs.Common.{arith, refl, ap, ◌∙◌, sym, subst, inl, inr, not, nat_eq}
use Rattle.std.proofs.lemmas.Bool.{cases_eq, true≢false}
use Rattle.std.proofs.lemmas.Bool.Decides.{nat_tests}
use Rattle.std.proofs.lemmas.List.{length-set, get_or-map, get_or-set_same, get_or-set_other, same_lists, length-map}
use Rattle.timer_tree.specs.Nodes.{none, blank, node_at}
use Rattle.timer_tree.specs.Trees.{last_id, queue_at, one, times}
use Rattle.timer_tree.specs.Contexts.{IsStored, Becomes}
use Rattle.timer_tree.specs.Forests.{no_root, queues_of, times_all, AreStored}
use Rattle.timer_tree.specs.declared.node.Node.{Node}
use Rattle.timer_tree.specs.declared.shared.Root.{Root}
use Rattle.timer_tree.proofs.Stores.{stored_beside, queue_at-is, queue_again, free_after, present_times, times-absent, has_stored, empty_stored}
use Rattle.timer_tree.proofs.Trees.{one_le, apart_one}
use Rattle.timer_tree.proofs.Puts.{times-put}
use Rattle.timer_tree.proofs.Taking.{times-without-le}
use Rattle.timer_queue.specs.Pairs.{has_any, has_id, put, without}

times_set : (k i : ℕ) (qs : List (List (ℕ × ℕ))) (q : List (ℕ × ℕ)) → i < length qs →
    times_all k (slice_set qs i q) + times k (slice_index_or qs i []) ≡ times_all k qs + times k q
times_set k i [] q inside = let never : ⊥ = omega (arith, inside) in absurd never
times_set k zero (p ∷ qs) q inside = omega arith
times_set k (suc i) (p ∷ qs) q inside = omega (arith, times_set k i qs q (omega (arith, inside)))

times_one : (k i : ℕ) (qs : List (List (ℕ × ℕ))) → times k (slice_index_or qs i []) ≤ times_all k qs
times_one k i [] = omega arith
times_one k zero (p ∷ qs) = omega arith
times_one k (suc i) (p ∷ qs) = omega (arith, times_one k i qs)

-- how often a timer stands in two of the queues
times_two : (k i j : ℕ) (qs : List (List (ℕ × ℕ))) → i < length qs → (j ≡ i → ⊥) →
    times k (slice_index_or qs i []) + times k (slice_index_or qs j []) ≤ times_all k qs
times_two k i j qs inside apart =
    omega (arith, times_set k i qs [] inside, times_one k j (slice_set qs i []), ap (λ q. times k q) (get_or-set_other qs i j [] [] apart))

pub queue_in : (xs : List Node) (rs : List Root) (i : ℕ) → i < length rs →
    slice_index_or (queues_of xs rs) i [] ≡ queue_at xs (slice_index_or rs i no_root).root
queue_in xs rs i inside = get_or-map (λ (r : Root). queue_at xs r.root) rs i no_root [] inside

module _ (xs zs : List Node) (rs : List Root) (i : ℕ) (r : Root) (qs : List (ℕ × ℕ)) (old steps : ℕ) (all : AreStored xs rs) (inside : i < length rs)
    (gives : Becomes (queue_at xs (slice_index_or rs i no_root).root) qs xs zs r.root r.first old steps)
    (last : r.last ≡ last_id qs)
    (once : (k : ℕ) → times_all k (slice_set (queues_of xs rs) i qs) ≤ 1) where
  wide : i < length (queues_of xs rs)
  wide = omega (arith, inside, length-map rs (λ (r : Root). queue_at xs r.root))

  -- another tree stands as it did
  beside : (j : ℕ) → j < length rs → (j ≡ i → ⊥) → let t = slice_index_or rs j no_root in IsStored zs t.root t.first (queue_at xs t.root)
  beside j within apart =
      let t = slice_index_or rs j no_root in
      stored_beside _ xs zs t.root t.first (queue_at xs t.root) gives.kept (λ k here. omega (
        arith,
        here,
        all.once k,
        once k,
        times_two k i j (queues_of xs rs) wide apart,
        times_two k i j (slice_set (queues_of xs rs) i qs) (omega (arith, wide, length-set (queues_of xs rs) i qs)) apart,
        ap (λ q. times k q) (queue_in xs rs i inside),
        ap (λ q. times k q) (queue_in xs rs j within),
        ap (λ q. times k q) (get_or-set_other (queues_of xs rs) i j qs [] apart),
        ap (λ q. times k q) (get_or-set_same (queues_of xs rs) i qs [] wide),
      ))
      (all.each j within)

  pub queues_after : queues_of zs (slice_set rs i r) ≡ slice_set (queues_of xs rs) i qs
  queues_after = same_lists (queues_of zs (slice_set rs i r)) (slice_set (queues_of xs rs) i qs)
      (length-map (slice_set rs i r) (λ (r : Root). queue_at zs r.root) ∙ length-set rs i r
      ∙ sym (length-map rs (λ (r : Root). queue_at xs r.root)) ∙ sym (length-set (queues_of xs rs) i qs))
      (λ j d within.
      let within : j < length (slice_set rs i r) = omega (arith, within, length-map (slice_set rs i r) (λ (r : Root). queue_at zs r.root)) in
      get_or-map (λ (t : Root). queue_at zs t.root) (slice_set rs i r) j no_root d within ∙ elim (cases_eq j i) [
        | inl same ↦ ap (λ n. queue_at zs (slice_index_or (slice_set rs i r) n no_root).root) same
            ∙ ap (λ (t : Root). queue_at zs t.root) (get_or-set_same rs i r no_root inside) ∙ queue_at-is zs r.root qs gives.stored.is_tree
            ∙ sym (ap (λ n. slice_index_or (slice_set (queues_of xs rs) i qs) n d) same ∙ get_or-set_same (queues_of xs rs) i qs d wide)
        | inr apart ↦
            let there : j < length rs = omega (arith, within, length-set rs i r) in
            ap (λ (t : Root). queue_at zs t.root) (get_or-set_other rs i j r no_root apart)
            ∙ queue_at-is zs (slice_index_or rs j no_root).root _ (beside j there apart).is_tree
            ∙ sym (get_or-set_other (queues_of xs rs) i j qs d apart ∙ get_or-map (λ (t : Root). queue_at xs t.root) rs j no_root d there)
      ])

  pub all_after : AreStored zs (slice_set rs i r)
  all_after = record {
    each = λ j within. elim (cases_eq j i) [
      | inl same ↦ subst (λ (t : Root). IsStored zs t.root t.first (queue_at zs t.root))
          (sym (ap (λ n. slice_index_or (slice_set rs i r) n no_root) same ∙ get_or-set_same rs i r no_root inside))
          (queue_again zs r.root r.first qs gives.stored)
      | inr apart ↦ subst (λ (t : Root). IsStored zs t.root t.first (queue_at zs t.root)) (sym (get_or-set_other rs i j r no_root apart))
          (queue_again zs _ _ _ (beside j (omega (arith, within, length-set rs i r)) apart))
    ];
    ends = λ j within. elim (cases_eq j i) [
      | inl same ↦ subst (λ (t : Root). t.last ≡ last_id (queue_at zs t.root))
          (sym (ap (λ n. slice_index_or (slice_set rs i r) n no_root) same ∙ get_or-set_same rs i r no_root inside))
          (last ∙ sym (ap last_id (queue_at-is zs r.root qs gives.stored.is_tree)))
      | inr apart ↦
          let there : j < length rs = omega (arith, within, length-set rs i r) in
          subst (λ (t : Root). t.last ≡ last_id (queue_at zs t.root)) (sym (get_or-set_other rs i j r no_root apart))
          (all.ends j there ∙ sym (ap last_id (queue_at-is zs _ _ (beside j there apart).is_tree)))
    ];
    once = λ k. subst (λ all. times_all k all ≤ 1) (sym queues_after) (once k);
    free = λ k gone. free_after (λ n. times_all n (slice_set (queues_of xs rs) i [])) gives
        (λ n none. all.free n (omega (arith, none, times_set n i (queues_of xs rs) [] wide, ap (λ q. times n q) (queue_in xs rs i inside)))) k
        (omega (arith, gone, ap (λ all. times_all k all) queues_after, times_set k i (queues_of xs rs) qs wide, times_set k i (queues_of xs rs) [] wide));
  }

-- a timer that stands nowhere is added to a tree
pub once_put : (k i id : ℕ) (qs : List (List (ℕ × ℕ))) (q : List (ℕ × ℕ)) → i < length qs → ((n : ℕ) → times_all n qs ≤ 1) → times_all id qs ≡ 0 →
    ((n : ℕ) → times n q ≡ one n id + times n (slice_index_or qs i [])) → times_all k (slice_set qs i q) ≤ 1
once_put k i id qs q inside once gone adds = elim (cases_eq k id) [
  | inl same ↦ omega (arith, times_set k i qs q inside, adds k, subst (λ n. times_all n qs ≡ 0) (sym same) gone, one_le k id)
  | inr apart ↦ omega (arith, times_set k i qs q inside, adds k, once k, apart_one k id apart)
]

-- a tree loses timers
pub once_less : (k i : ℕ) (qs : List (List (ℕ × ℕ))) (q : List (ℕ × ℕ)) → i < length qs → ((n : ℕ) → times_all n qs ≤ 1) →
    times k q ≤ times k (slice_index_or qs i []) → times_all k (slice_set qs i q) ≤ 1
once_less k i qs q inside once less = omega (arith, times_set k i qs q inside, less, once k)

-- a timer that is in none of the queues stands nowhere
pub times_all-none : (id : ℕ) (qs : List (List (ℕ × ℕ))) → has_any id qs ≡ false → times_all id qs ≡ 0
times_all-none id [] none = refl
times_all-none id (q ∷ qs) none =
    let head : has_id id q ≡ false = grind (arith, nat_tests) in
    let tail : has_any id qs ≡ false = grind (arith, nat_tests) in
    omega (arith, times-absent id q head, times_all-none id qs tail)

-- one that is in one of them is in this one
has_any-some : (id : ℕ) (qs : List (List (ℕ × ℕ))) → has_any id qs ≡ true → (n : ℕ) × (n < length qs) × (has_id id (slice_index_or qs n []) ≡ true)
has_any-some id [] some = absurd (true≢false (sym some))
has_any-some id (q ∷ qs) some = elim (has_id id q) as (λ b. has_id id q ≡ b →
    (n : ℕ) × (n < length (q ∷ qs)) × (has_id id (slice_index_or (q ∷ qs) n []) ≡ true)) [
      | true ↦ λ here. (0, omega arith, here)
      | false ↦ λ absent.
          let rest : has_any id qs ≡ true = grind (arith, nat_tests) in
          let at = has_any-some id qs rest in (suc at.0, omega (arith, at.1), at.2)
    ] refl

-- a timer is in one of the queues where its node has a rank
pub has_stored_all : (xs : List Node) (rs : List Root) (k : ℕ) → AreStored xs rs → not (nat_eq (node_at xs k).rank 0) ≡ has_any k (queues_of xs rs)
has_stored_all xs rs k all =
    elim (has_any k (queues_of xs rs)) as (λ b. has_any k (queues_of xs rs) ≡ b → not (nat_eq (node_at xs k).rank 0) ≡ b) [
      | true ↦ λ present.
          let at = has_any-some k (queues_of xs rs) present in
          let inside : at.0 < length rs = omega (arith, at.1, length-map rs (λ (r : Root). queue_at xs r.root)) in
          let r = slice_index_or rs at.0 no_root in
          let here : has_id k (queue_at xs r.root) ≡ true = ap (has_id k) (sym (queue_in xs rs at.0 inside)) ∙ at.2 in
          has_stored xs r.root r.first (queue_at xs r.root) k (all.each at.0 inside)
          (λ gone. let never : ⊥ = omega (arith, gone, present_times k (queue_at xs r.root) here) in absurd never) ∙ here
      | false ↦ λ absent. ap (λ h. not (nat_eq h 0)) (all.free k (times_all-none k (queues_of xs rs) absent))
    ] refl

pub times_replicate : (k n : ℕ) → times_all k (replicate n []) ≡ 0
times_replicate k zero = refl
times_replicate k (suc n) = omega (arith, times_replicate k n)

-- trees of an empty store
pub all_empty : (xs : List Node) (room : ℕ) (rs : List Root) → room ≤ none → xs ≡ replicate room blank →
    ((j : ℕ) → j < length rs → slice_index_or rs j no_root ≡ record { root = none; first = none; last = none }) →
    ((k : ℕ) → times_all k (queues_of xs rs) ≡ 0) → AreStored xs rs
all_empty xs room rs small is roots gone =
    let empty = empty_stored xs room small is in record {
      each = λ j within. subst (λ (t : Root). IsStored xs t.root t.first (queue_at xs t.root)) (sym (roots j within)) empty.0;
      ends = λ j within. subst (λ (t : Root). t.last ≡ last_id (queue_at xs t.root)) (sym (roots j within)) (sym (ap last_id empty.1));
      once = λ k. omega (arith, gone k);
      free = λ k none_here. empty.2 k;
    }

-- ---- what a call on one of the trees leaves

module _ (xs : List Node) (rs : List Root) (n id : ℕ) (all : AreStored xs rs) (inside : n < length rs) where
  abbrev pub mine : List (ℕ × ℕ)
  mine = queue_at xs (slice_index_or rs n no_root).root

  wide_enough : n < length (queues_of xs rs)
  wide_enough = omega (arith, inside, length-map rs (λ (r : Root). queue_at xs r.root))

  pub put_once : (expires : ℕ) → has_any id (queues_of xs rs) ≡ false → (k : ℕ) → times_all k (slice_set (queues_of xs rs) n (put expires id mine)) ≤ 1
  put_once expires absent k = once_put k n id (queues_of xs rs) (put expires id mine) wide_enough all.once (times_all-none id (queues_of xs rs) absent)
      (λ j. omega (arith, times-put j expires id mine, ap (λ p. times j p) (queue_in xs rs n inside)))

  pub without_once : (k : ℕ) → times_all k (slice_set (queues_of xs rs) n (without id mine)) ≤ 1
  without_once k = once_less k n (queues_of xs rs) (without id mine) wide_enough all.once
      (omega (arith, times-without-le k id mine, ap (λ p. times k p) (queue_in xs rs n inside)))
