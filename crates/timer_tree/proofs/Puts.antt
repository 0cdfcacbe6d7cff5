-- What adding a pair and taking one out do to a list that is cut in parts.
use Rattle.std.proofs.Common.{◌≡◌, ℕ, false, not, ◌+◌, ◌<◌, ◌≤◌, List, [], ◌∷◌, ◌++◌, nat_eq, if◌then◌else◌, arith, refl, ap, ◌∙◌}
use Rattle.std.specs.List.{AllByRecursion}
use Rattle.std.proofs.lemmas.Bool.{lt-ltb, le-ltb, eq-eqb}
use Rattle.std.proofs.lemmas.Bool.Decides.{nat_tests}
use Rattle.timer_queue.specs.Pairs.{put, without, IsByExpiry}
use Rattle.timer_tree.specs.Trees.{one, times}
use Rattle.timer_tree.proofs.Trees.{by_lt}

-- a pair goes before one that expires later
pub put_left : (e id : ℕ) (ps qs : List (ℕ × ℕ)) (q : ℕ × ℕ) → e < q.0 → put e id (ps ++ q ∷ qs) ≡ put e id ps ++ q ∷ qs
put_left e id [] qs q less = ap (λ b. if b then (e, id) ∷ q ∷ qs else q ∷ put e id qs) (lt-ltb e q.0 less)
put_left e id (p ∷ ps) qs q less =
    by_lt (λ b. (if b then (e, id) ∷ p ∷ (ps ++ q ∷ qs) else p ∷ put e id (ps ++ q ∷ qs)) ≡ (if b then (e, id) ∷ p ∷ ps else p ∷ put e id ps) ++ q ∷ qs)
    e p.0 (λ before. refl) (λ behind. ap (λ rs. p ∷ rs) (put_left e id ps qs q less))

-- a pair goes behind those that expire as early or earlier
pub put_right : (e id : ℕ) (ps qs : List (ℕ × ℕ)) → AllByRecursion (λ p. p.0 ≤ e) ps → put e id (ps ++ qs) ≡ ps ++ put e id qs
put_right e id [] qs all = refl
put_right e id (p ∷ ps) qs all =
    ap (λ b. if b then (e, id) ∷ p ∷ (ps ++ qs) else p ∷ put e id (ps ++ qs)) (le-ltb e p.0 all.0) ∙ ap (λ rs. p ∷ rs) (put_right e id ps qs all.1)

All-in : (P : ℕ × ℕ → Type 0) (ps qs : List (ℕ × ℕ)) (q : ℕ × ℕ) → AllByRecursion P (ps ++ q ∷ qs) → P q
All-in P [] qs q all = all.0
All-in P (p ∷ ps) qs q all = All-in P ps qs q all.1

-- the pairs before one expire as early or earlier
pub up_to : (ps qs : List (ℕ × ℕ)) (q : ℕ × ℕ) → IsByExpiry (ps ++ q ∷ qs) → AllByRecursion (λ p. p.0 ≤ q.0) ps
up_to [] qs q sorted = tt
up_to (p ∷ ps) qs q sorted = (All-in (λ r. p.0 ≤ r.0) ps qs q sorted.0, up_to ps qs q sorted.1)

pub IsByExpiry-behind : (ps qs : List (ℕ × ℕ)) → IsByExpiry (ps ++ qs) → IsByExpiry qs
IsByExpiry-behind [] qs sorted = sorted
IsByExpiry-behind (p ∷ ps) qs sorted = IsByExpiry-behind ps qs sorted.1

-- where a number stands once, taking it out takes this pair
without_absent : (id : ℕ) (ps : List (ℕ × ℕ)) → times id ps ≡ 0 → without id ps ≡ ps
without_absent id [] gone = refl
without_absent id (p ∷ ps) gone =
    let other : nat_eq p.1 id ≡ false = grind (arith, nat_tests) in
    ap (λ b. if not b then p ∷ without id ps else without id ps) other ∙ ap (λ rs. p ∷ rs) (without_absent id ps (omega (arith, gone)))

pub without_at : (id e : ℕ) (ps qs : List (ℕ × ℕ)) → times id ps ≡ 0 → times id qs ≡ 0 → without id (ps ++ (e, id) ∷ qs) ≡ ps ++ qs
without_at id e [] qs gone_p gone_q = ap (λ b. if not b then (e, id) ∷ without id qs else without id qs) (eq-eqb id id refl) ∙ without_absent id qs gone_q
without_at id e (p ∷ ps) qs gone_p gone_q =
    let other : nat_eq p.1 id ≡ false = grind (arith, nat_tests) in
    ap (λ b. if not b then p ∷ without id (ps ++ (e, id) ∷ qs) else without id (ps ++ (e, id) ∷ qs)) other ∙ ap (λ rs. p ∷ rs)
    (without_at id e ps qs (omega (arith, gone_p)) gone_q)

pub times-put : (k e id : ℕ) (ps : List (ℕ × ℕ)) → times k (put e id ps) ≡ times k ps + one k id
times-put k e id [] = omega arith
times-put k e id (p ∷ ps) =
    by_lt (λ b. times k (if b then (e, id) ∷ p ∷ ps else p ∷ put e id ps) ≡ one k p.1 + times k ps + one k id) e p.0 (λ before. omega arith)
    (λ behind. omega (arith, times-put k e id ps))
