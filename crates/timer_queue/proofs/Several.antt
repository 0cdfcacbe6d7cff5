-- Several queues, each by its number.
use Rattle.std.proofs.Common.{◌≡◌, ℕ, ◌<◌, ◌≤◌, false, List, [], ◌∷◌, length, slice_index_or, replicate, zero, suc, slice_set, refl, ap, sym, subst, ◌∙◌, arith}
use Rattle.std.specs.List.{All}
use Rattle.std.proofs.lemmas.List.{get_or-map, length-map}
use Rattle.std.proofs.lemmas.Bool.Decides.{nat_tests}
use Rattle.timer_queue.specs.Lists.{pairs_of, capacities_of}
use Rattle.timer_queue.specs.Pairs.{has_any, has_id}

-- a timer that is in none of them isn't in one
pub has_any-none : (id n : ℕ) (queues : List (List (ℕ × ℕ))) → has_any id queues ≡ false → has_id id (slice_index_or queues n []) ≡ false
has_any-none id n [] none = refl
has_any-none id zero (q ∷ qs) none = grind (arith, nat_tests)
has_any-none id (suc n) (q ∷ qs) none = has_any-none id n qs (grind (arith, nat_tests))

-- nor is one that is in none of these six in any of them
pub has_any-six : (id : ℕ) (queues : List (List (ℕ × ℕ))) → length queues ≡ 6 → ((n : ℕ) → n < 6 → has_id id (slice_index_or queues n []) ≡ false)
    → has_any id queues ≡ false
has_any-six id queues six each = rest queues (λ n inside. each n (omega (arith, inside, six)))
  where
    rest : (qs : List (List (ℕ × ℕ))) → ((n : ℕ) → n < length qs → has_id id (slice_index_or qs n []) ≡ false) → has_any id qs ≡ false
    rest [] each = refl
    rest (q ∷ qs) each =
        let head : has_id id q ≡ false = each 0 (omega arith) in
        let tail : has_any id qs ≡ false = rest qs (λ n inside. each (suc n) (omega (arith, inside))) in
        grind (arith, nat_tests)

-- empty lists have no pairs
pub pairs_of-empty : (room : ℕ) (lists : List (List (ℕ × ℕ) × ℕ × ℕ)) → All (λ q. (q.0 ≡ []) × (q.1 ≡ room) × (room ≤ q.2)) lists
    → pairs_of lists ≡ replicate (length lists) []
pairs_of-empty room [] all = refl
pairs_of-empty room (q ∷ qs) all = ap (λ p. p ∷ pairs_of qs) (all 0 q (omega arith)).0
    ∙ ap (λ ps. [] ∷ ps) (pairs_of-empty room qs (λ k d inside. all (suc k) d (omega (arith, inside))))

pub capacities_of-empty : (room : ℕ) (lists : List (List (ℕ × ℕ) × ℕ × ℕ)) → All (λ q. (q.0 ≡ []) × (q.1 ≡ room) × (room ≤ q.2)) lists
    → All (λ n. room ≤ n) (capacities_of lists)
capacities_of-empty room lists all = λ k d inside.
    let within : k < length lists = omega (arith, inside, length-map lists (λ q. q.2)) in
    subst (λ n. room ≤ n) (sym (get_or-map (λ q. q.2) lists k ([], 0, 0) d within)) (all k ([], 0, 0) within).2

-- one list with as much memory as before in its place
pub capacities_of-set : (lists : List (List (ℕ × ℕ) × ℕ × ℕ)) (n : ℕ) (q d : List (ℕ × ℕ) × ℕ × ℕ) → q.2 ≡ (slice_index_or lists n d).2
    → capacities_of (slice_set lists n q) ≡ capacities_of lists
capacities_of-set [] n q d same = refl
capacities_of-set (l ∷ ls) zero q d same = ap (λ c. c ∷ capacities_of ls) same
capacities_of-set (l ∷ ls) (suc n) q d same = ap (λ cs. l.2 ∷ cs) (capacities_of-set ls n q d same)
