-- From a sort by a key of four numbers to notes in their order.
use Rattle.std.proofs.Common.{◌≡◌, ℕ, ◌<◌, ◌≤◌, suc, Bool, true, false, nat_eq, nat_lt, ◌||◌, ◌&&◌, List, [], ◌∷◌, length, get_or, Bor, arith, refl, sym, ◌∙◌}
use Rattle.std.specs.List.{AllByRecursion}
use Rattle.std.specs.List.Sorted.{IsSortedByKey}
use Rattle.std.specs.Ordering.{is_lt, nat_cmp, ordering_then}
use Rattle.std.specs.Cmp.{IsTotalOrder}
use Rattle.std.specs.Fn.{Called, ComputesKey}
use Rattle.std.specs.declared.cmp.Ordering.{Ordering}
use Rattle.std.specs.declared.cmp.Ordering.TheVariants.{Less, Equal, Greater}
use mathlib.Core.Bool.{cond}
use Rattle.std.proofs.lemmas.Cmp.{nat_cmp_total, on_total, then_total}
use Rattle.std.proofs.lemmas.List.Sorted.{answers_always, ranks_by, sorted_far}
use denote.Param.Members.{Mut}
use Rattle.lane_notes.specs.Sorted.{StandInOrder, Place, comes_before}

-- a place as the key of a sort
abbrev pub Key : Type 0
Key = ℕ × ℕ × ℕ × ℕ

abbrev pub key_of : Place → Key
key_of p = (p.list, p.number, p.label.lane, p.label.call)

abbrev pub key_cmp : Key → Key → Ordering
key_cmp a b = ordering_then (ordering_then (ordering_then (nat_cmp a.0 b.0) (nat_cmp a.1 b.1)) (nat_cmp a.2 b.2)) (nat_cmp a.3 b.3)

key_total : IsTotalOrder key_cmp
key_total =
    then_total (then_total (then_total (on_total (λ (t : Key). t.0) nat_cmp_total) (on_total (λ (t : Key). t.1) nat_cmp_total))
    (on_total (λ (t : Key). t.2) nat_cmp_total)) (on_total (λ (t : Key). t.3) nat_cmp_total)

-- the order of keys is that of places
key_before : (a b : Place) → is_lt (key_cmp (key_of a) (key_of b)) ≡ comes_before a b
key_before a b =
    first (nat_lt a.list b.list) (nat_eq a.list b.list) (nat_lt a.number b.number) (nat_eq a.number b.number)
    (nat_lt a.label.lane b.label.lane) (nat_eq a.label.lane b.label.lane) (nat_lt a.label.call b.label.call) (nat_eq a.label.call b.label.call)
  where
    of : Bool → Bool → Ordering
    of less same = cond less Less (cond same Equal Greater)

    first : (l m n o p q r s : Bool)
        → is_lt (ordering_then (ordering_then (ordering_then (of l m) (of n o)) (of p q)) (of r s)) ≡ (l || (m && (n || (o && (p || (q && r))))))
    first true m n o p q r s = refl
    first false false n o p q r s = refl
    first false true true o p q r s = refl
    first false true false false p q r s = refl
    first false true false true true q r s = refl
    first false true false true false false r s = refl
    first false true false true false true true s = refl
    first false true false true false true false true = refl
    first false true false true false true false false = refl

-- what holds between each item and each later one
in_order_far : {X : Type 0} (place : X → Place) (xs : List X)
    → ((i j : ℕ) (d : X) → i ≤ j → j < length xs → comes_before (place (get_or xs j d)) (place (get_or xs i d)) ≡ false) → StandInOrder place xs
in_order_far place [] far = tt
in_order_far {X = X} place (x ∷ xs) far = (
  each xs (λ j d less. far 0 (suc j) d (omega arith) (omega (arith, less))),
  in_order_far place xs (λ i j d le less. far (suc i) (suc j) d (omega (arith, le)) (omega (arith, less))),
)
  where
    each : (ys : List X) → ((j : ℕ) (d : X) → j < length ys → comes_before (place (get_or ys j d)) (place x) ≡ false)
        → AllByRecursion (λ y. comes_before (place y) (place x) ≡ false) ys
    each [] at = tt
    each (y ∷ ys) at = (at 0 y (omega arith), each ys (λ j d less. at (suc j) d (omega (arith, less))))

in_order_sorted : {X : Type 0} (place : X → Place) (xs : List X) → IsSortedByKey (λ x. key_of (place x)) key_cmp xs → StandInOrder place xs
in_order_sorted place xs sorted =
    in_order_far place xs (λ i j d le less.
    sym (key_before (place (get_or xs j d)) (place (get_or xs i d)))
    ∙ sorted_far (λ x y. is_lt (key_cmp (key_of (place x)) (key_of (place y)))) (ranks_by key_total (λ x. key_of (place x))) xs sorted i j d le less)

-- law: after a sort by a closure that gives the key of each note
pub StandInOrder-from_sort : {X : Type 0} (place : X → Place) {F : Type 0} {g : Mut F (Bor X × Unit {0}) Key} {f : F} (xs : List X)
    → ((key : X → Key) → ComputesKey g key f → IsSortedByKey key key_cmp xs)
    → ((h : F) (a : Bor X × Unit {0}) (r : Key) (i : F) → Called g h a r i → r ≡ key_of (place a.0.now)) → StandInOrder place xs
StandInOrder-from_sort {X = X} place {F = F} {g = g} {f = f} xs sorted calls =
    in_order_sorted place xs (sorted (λ x. key_of (place x)) (answers_always g (λ a r. r ≡ key_of (place a.0.now)) f calls))
