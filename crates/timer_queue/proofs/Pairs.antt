-- What adding a pair and taking one out keep of a queue, and what they do to the expiry of each timer.
use Rattle.std.proofs.Common.{◌≡◌, ℕ, ◌+◌, ◌<◌, ◌≤◌, true, false, not, ◌||◌, List, [], ◌∷◌, map, length, nat_eq, nat_lt, if◌then◌else◌, Some, None, arith, refl, ap, subst, add-one}
use Rattle.std.specs.List.{AllByRecursion, IsDistinct, insert, list_any}
use Rattle.std.specs.Option.{is_some}
use Rattle.std.proofs.lemmas.List.{length-map}
use Rattle.std.proofs.lemmas.Option.{same_Some}
use Rattle.std.proofs.lemmas.Map.Steps.{length-le_from_distinct_below}
use Rattle.std.proofs.lemmas.Bool.{false≢true, ltb-true, ltb-false}
use Rattle.std.proofs.lemmas.Bool.Decides.{nat_tests}
use Rattle.std.proofs.lemmas.Map.Keys.{IsDistinct-cons, IsDistinct-head, IsDistinct-tail}
use Rattle.timer_queue.specs.Pairs.{put, place_of, without, has_id, expiry_of, first_of, IsByExpiry, IsQueue}

-- ---- adding a pair

pub put_at : (expires id : ℕ) (ps : List (ℕ × ℕ)) → put expires id ps ≡ insert ps (place_of expires ps) (expires, id)
put_at expires id [] = refl
put_at expires id (p ∷ ps) =
    elim (nat_lt expires p.0) as (λ b. (if b then (expires, id) ∷ p ∷ ps else p ∷ put expires id ps) ≡ insert (p ∷ ps)
    (if b then 0 else place_of expires ps + 1) (expires, id)) [
      | true ↦ refl
      | false ↦ rw add-one (ap (λ qs. p ∷ qs) (put_at expires id ps))
    ]

pub place_of-le : (expires : ℕ) (ps : List (ℕ × ℕ)) → place_of expires ps ≤ length ps
place_of-le expires [] = omega arith
place_of-le expires (p ∷ ps) = grind (arith, nat_tests, place_of-le expires ps)

pub length-put : (expires id : ℕ) (ps : List (ℕ × ℕ)) → length (put expires id ps) ≡ length ps + 1
length-put expires id [] = refl
length-put expires id (p ∷ ps) = grind (arith, nat_tests, length-put expires id ps)

-- what holds of the new pair and of each old one holds of each
pub AllByRecursion-put : (P : ℕ × ℕ → Type 0) (expires id : ℕ) (ps : List (ℕ × ℕ)) → P (expires, id) → AllByRecursion P ps
    → AllByRecursion P (put expires id ps)
AllByRecursion-put P expires id [] new old = (new, tt)
AllByRecursion-put P expires id (p ∷ ps) new old =
    elim (nat_lt expires p.0) as (λ b. AllByRecursion P (if b then (expires, id) ∷ p ∷ ps else p ∷ put expires id ps)) [
      | true ↦ (new, old)
      | false ↦ (old.0, AllByRecursion-put P expires id ps new old.1)
    ]

-- where one fact follows from another, so it does along the list
pub AllByRecursion-follows : (P Q : ℕ × ℕ → Type 0) → ((p : ℕ × ℕ) → P p → Q p) → (ps : List (ℕ × ℕ)) → AllByRecursion P ps → AllByRecursion Q ps
AllByRecursion-follows P Q step [] all = tt
AllByRecursion-follows P Q step (p ∷ ps) all = (step p all.0, AllByRecursion-follows P Q step ps all.1)

pub IsByExpiry-put : (expires id : ℕ) (ps : List (ℕ × ℕ)) → IsByExpiry ps → IsByExpiry (put expires id ps)
IsByExpiry-put expires id [] sorted = (tt, tt)
IsByExpiry-put expires id (p ∷ ps) sorted =
    elim (nat_lt expires p.0) as (λ b. nat_lt expires p.0 ≡ b → IsByExpiry (if b then (expires, id) ∷ p ∷ ps else p ∷ put expires id ps)) [
      | true ↦ λ e. let less = ltb-true expires p.0 e in
          ((omega arith, AllByRecursion-follows (λ q. p.0 ≤ q.0) (λ q. expires ≤ q.0) (λ q h. omega arith) ps sorted.0), sorted)
      | false ↦ λ e. (AllByRecursion-put (λ q. p.0 ≤ q.0) expires id ps (ltb-false expires p.0 e) sorted.0, IsByExpiry-put expires id ps sorted.1)
    ] refl

-- ---- the numbers of a queue's pairs

pub All-ids : (P : ℕ → Type 0) (ps : List (ℕ × ℕ)) → AllByRecursion (λ p. P p.1) ps → AllByRecursion P (map (λ p. p.1) ps)
All-ids P [] all = tt
All-ids P (p ∷ ps) all = (all.0, All-ids P ps all.1)

pub All-from_ids : (P : ℕ → Type 0) (ps : List (ℕ × ℕ)) → AllByRecursion P (map (λ p. p.1) ps) → AllByRecursion (λ p. P p.1) ps
All-from_ids P [] all = tt
All-from_ids P (p ∷ ps) all = (all.0, All-from_ids P ps all.1)

-- a timer that isn't in the queue differs from each that is
pub apart_from_absent : (id : ℕ) (ps : List (ℕ × ℕ)) → has_id id ps ≡ false → AllByRecursion (λ p. nat_eq id p.1 ≡ false) ps
apart_from_absent id [] absent = tt
apart_from_absent id (p ∷ ps) absent = (grind (arith, nat_tests), apart_from_absent id ps (grind (arith, nat_tests)))

pub IsDistinct-put : (expires id : ℕ) (ps : List (ℕ × ℕ)) → has_id id ps ≡ false → IsDistinct nat_eq (map (λ p. p.1) ps)
    → IsDistinct nat_eq (map (λ p. p.1) (put expires id ps))
IsDistinct-put expires id [] absent once = IsDistinct-cons nat_eq id [] tt once
IsDistinct-put expires id (p ∷ ps) absent once =
    let apart = apart_from_absent id (p ∷ ps) absent in
    let other : nat_eq p.1 id ≡ false = grind (arith, nat_tests) in
    let head = All-from_ids (λ k. nat_eq p.1 k ≡ false) ps (IsDistinct-head nat_eq p.1 (map (λ q. q.1) ps) once) in
    let rest : has_id id ps ≡ false = grind (arith, nat_tests) in
    elim (nat_lt expires p.0) as (λ b. IsDistinct nat_eq (map (λ q. q.1) (if b then (expires, id) ∷ p ∷ ps else p ∷ put expires id ps))) [
      | true ↦ IsDistinct-cons nat_eq id (map (λ q. q.1) (p ∷ ps)) (All-ids (λ k. nat_eq id k ≡ false) (p ∷ ps) apart) once
      | false ↦ IsDistinct-cons nat_eq p.1 (map (λ q. q.1) (put expires id ps))
          (All-ids (λ k. nat_eq p.1 k ≡ false) (put expires id ps) (AllByRecursion-put (λ q. nat_eq p.1 q.1 ≡ false) expires id ps other head))
          (IsDistinct-put expires id ps rest (IsDistinct-tail nat_eq p.1 (map (λ q. q.1) ps) once))
    ]

pub IsQueue-put : (room expires id : ℕ) (ps : List (ℕ × ℕ)) → has_id id ps ≡ false → id < room → IsQueue room ps → IsQueue room (put expires id ps)
IsQueue-put room expires id ps absent inside queue = record {
  once = IsDistinct-put expires id ps absent queue.once;
  below = AllByRecursion-put (λ p. p.1 < room) expires id ps inside queue.below;
  by_expiry = IsByExpiry-put expires id ps queue.by_expiry;
}

-- ---- taking a pair out

-- what holds of each pair holds of each that stays
pub AllByRecursion-without : (P : ℕ × ℕ → Type 0) (id : ℕ) (ps : List (ℕ × ℕ)) → AllByRecursion P ps → AllByRecursion P (without id ps)
AllByRecursion-without P id [] all = tt
AllByRecursion-without P id (p ∷ ps) all =
    let rest = AllByRecursion-without P id ps all.1 in
    elim (nat_eq p.1 id) as (λ b. AllByRecursion P (if not b then p ∷ without id ps else without id ps)) [
      | true ↦ rest
      | false ↦ (all.0, rest)
    ]

pub IsByExpiry-without : (id : ℕ) (ps : List (ℕ × ℕ)) → IsByExpiry ps → IsByExpiry (without id ps)
IsByExpiry-without id [] sorted = tt
IsByExpiry-without id (p ∷ ps) sorted =
    let rest = IsByExpiry-without id ps sorted.1 in
    elim (nat_eq p.1 id) as (λ b. IsByExpiry (if not b then p ∷ without id ps else without id ps)) [
      | true ↦ rest
      | false ↦ (AllByRecursion-without (λ q. p.0 ≤ q.0) id ps sorted.0, rest)
    ]

pub IsDistinct-without : (id : ℕ) (ps : List (ℕ × ℕ)) → IsDistinct nat_eq (map (λ p. p.1) ps) → IsDistinct nat_eq (map (λ p. p.1) (without id ps))
IsDistinct-without id [] once = once
IsDistinct-without id (p ∷ ps) once =
    let rest = IsDistinct-without id ps (IsDistinct-tail nat_eq p.1 (map (λ q. q.1) ps) once) in
    let head = All-from_ids (λ k. nat_eq p.1 k ≡ false) ps (IsDistinct-head nat_eq p.1 (map (λ q. q.1) ps) once) in
    elim (nat_eq p.1 id) as (λ b. IsDistinct nat_eq (map (λ q. q.1) (if not b then p ∷ without id ps else without id ps))) [
      | true ↦ rest
      | false ↦ IsDistinct-cons nat_eq p.1 (map (λ q. q.1) (without id ps))
          (All-ids (λ k. nat_eq p.1 k ≡ false) (without id ps) (AllByRecursion-without (λ q. nat_eq p.1 q.1 ≡ false) id ps head)) rest
    ]

pub IsQueue-without : (room id : ℕ) (ps : List (ℕ × ℕ)) → IsQueue room ps → IsQueue room (without id ps)
IsQueue-without room id ps queue = record {
  once = IsDistinct-without id ps queue.once;
  below = AllByRecursion-without (λ p. p.1 < room) id ps queue.below;
  by_expiry = IsByExpiry-without id ps queue.by_expiry;
}

-- ---- the room, and the empty queue

pub IsQueue-empty : (room : ℕ) → IsQueue room []
unfolding IsDistinct
IsQueue-empty room = record { once = tt; below = tt; by_expiry = tt }

below_from_any : (room : ℕ) (ids : List ℕ) → AllByRecursion (λ k. k < room) ids → (q : ℕ) → list_any (nat_eq q) ids ≡ true → q < room
below_from_any room [] all q found = absurd (false≢true found)
below_from_any room (k ∷ ks) all q found = grind (arith, nat_tests, all.0, below_from_any room ks all.1 q)

-- no more pairs than the room, since the numbers differ
pub length-le_room : (room : ℕ) (ps : List (ℕ × ℕ)) → IsQueue room ps → length ps ≤ room
length-le_room room ps queue =
    let few = length-le_from_distinct_below (map (λ p. p.1) ps) room queue.once
    (below_from_any room (map (λ p. p.1) ps) (All-ids (λ k. k < room) ps queue.below)) in
    omega (arith, few, length-map ps (λ p. p.1))

-- where a number below the room is absent, there is room for one more pair
pub length-lt_room : (room id : ℕ) (ps : List (ℕ × ℕ)) → has_id id ps ≡ false → id < room → IsQueue room ps → length ps < room
length-lt_room room id ps absent inside queue = omega
    (arith, length-put 0 id ps, length-le_room room (put 0 id ps) (IsQueue-put room 0 id ps absent inside queue))

-- ---- the expiry of each timer

-- a timer is in the queue where it has an expiry
pub has_id-expiry_of : (id : ℕ) (ps : List (ℕ × ℕ)) → has_id id ps ≡ is_some (expiry_of id ps)
has_id-expiry_of id [] = refl
has_id-expiry_of id (p ∷ ps) =
    elim (nat_eq p.1 id) as (λ b. (b || has_id id ps) ≡ is_some (if b then Some p.0 else expiry_of id ps)) [
      | true ↦ refl
      | false ↦ has_id-expiry_of id ps
    ]

-- after adding, the new timer has its expiry, and every other timer has what it had
pub expiry_of-put : (q expires id : ℕ) (ps : List (ℕ × ℕ)) → has_id id ps ≡ false
    → expiry_of q (put expires id ps) ≡ (if nat_eq id q then Some expires else expiry_of q ps)
expiry_of-put q expires id [] absent = refl
expiry_of-put q expires id (p ∷ ps) absent =
    let other : nat_eq p.1 id ≡ false = grind (arith, nat_tests) in
    let rest : has_id id ps ≡ false = grind (arith, nat_tests) in
    grind (arith, nat_tests, other, expiry_of-put q expires id ps rest)

-- after taking out, that timer has none, and every other timer has what it had
pub expiry_of-without : (q id : ℕ) (ps : List (ℕ × ℕ)) → expiry_of q (without id ps) ≡ (if nat_eq id q then None else expiry_of q ps)
expiry_of-without q id [] = grind (arith, nat_tests)
expiry_of-without q id (p ∷ ps) = grind (arith, nat_tests, expiry_of-without q id ps)

-- the first pair tells its timer's expiry
pub expiry_of-first : (ps : List (ℕ × ℕ)) (p : ℕ × ℕ) → first_of ps ≡ Some p → expiry_of p.1 ps ≡ Some p.0
expiry_of-first [] p first = grind arith
expiry_of-first (q ∷ ps) p first = let same = same_Some q p first in subst (λ r. expiry_of r.1 (q ∷ ps) ≡ Some r.0) same (grind (arith, nat_tests))

below_each : (least : ℕ) (ps : List (ℕ × ℕ)) → AllByRecursion (λ q. least ≤ q.0) ps → (id expires : ℕ) → expiry_of id ps ≡ Some expires → least ≤ expires
below_each least [] all id expires found = grind arith
below_each least (q ∷ ps) all id expires found = grind (arith, nat_tests, all.0, below_each least ps all.1 id expires)

-- no timer expires before the first pair does
pub first_is_least : (ps : List (ℕ × ℕ)) (p : ℕ × ℕ) → IsByExpiry ps → first_of ps ≡ Some p → (id expires : ℕ)
    → expiry_of id ps ≡ Some expires → p.0 ≤ expires
first_is_least [] p sorted first id expires found = grind arith
first_is_least (q ∷ ps) p sorted first id expires found =
    let same = same_Some q p first in
    subst (λ r. r.0 ≤ expires) same (below_each q.0 (q ∷ ps) (omega arith, sorted.0) id expires found)

-- a timer that has an expiry is below the room
pub id-lt_room : (room id expires : ℕ) (ps : List (ℕ × ℕ)) → AllByRecursion (λ p. p.1 < room) ps → expiry_of id ps ≡ Some expires → id < room
id-lt_room room id expires [] all found = grind arith
id-lt_room room id expires (p ∷ ps) all found = grind (arith, nat_tests, all.0, id-lt_room room id expires ps all.1)
