-- Lists of signals that differ, and parts of lists by the numbers of their items.
use Rattle.std.proofs.Common.{◌≡◌, ◌<◌, ◌≤◌, ◌⊎◌, ℕ, ◌+◌, zero, suc, true, false, List, [], ◌∷◌, ◌++◌, Some, length, map, take, drop, arith, refl, sym, ap, ◌∙◌, subst, inl, inr, length-append}
use Rattle.std.specs.List.{AllByRecursion, slice_get}
use Rattle.std.proofs.Math.Logic.{⊎_elim}
use Rattle.std.proofs.lemmas.List.{take-append-drop}
use Rattle.std.proofs.lemmas.Option.{same_Some}
use Rattle.record_text.specs.declared.record.Label.{Label}
use Rattle.signal_queue.specs.declared.signal.Signal.{Signal}
use Rattle.run_history.specs.Actions.{also, own}
use Rattle.run_history.specs.Order.{is_label}
use Rattle.run_history.proofs.Items.{Among, at_among, StandsIn}
use Rattle.fit_laws.specs.Signals.{AreDistinct}

-- ---- members of lists

pub among_left : {X : Type 0} (x : X) (xs ys : List X) → Among x xs → Among x (xs ++ ys)
among_left x [] ys here = absurd here
among_left x (y ∷ xs) ys here = ⊎_elim inl (λ more. inr (among_left x xs ys more)) here

pub among_right : {X : Type 0} (x : X) (xs ys : List X) → Among x ys → Among x (xs ++ ys)
among_right x [] ys here = here
among_right x (y ∷ xs) ys here = inr (among_right x xs ys here)

pub among_either : {X : Type 0} (x : X) (xs ys : List X) → Among x (xs ++ ys) → Among x xs ⊎ Among x ys
among_either x [] ys here = inr here
among_either x (y ∷ xs) ys here =
    ⊎_elim (λ is. inl (inl is)) (λ more. ⊎_elim (λ left. inl (inr left)) inr (among_either x xs ys more)) here

-- what holds of all items holds of each
pub among_all : {X : Type 0} (P : X → Type 0) (xs : List X) (x : X) → AllByRecursion P xs → Among x xs → P x
among_all P [] x all here = absurd here
among_all P (y ∷ xs) x all here = ⊎_elim (λ (is : x ≡ y). subst P (sym is) all.0) (λ more. among_all P xs x all.1 more) here

-- an item, with what stands before it and behind it
split_among : {X : Type 0} (x : X) (xs : List X) → Among x xs → (before : List X) × (after : List X) × (xs ≡ before ++ x ∷ after)
split_among x [] here = absurd here
split_among x (y ∷ xs) here = ⊎_elim
    (λ (is : x ≡ y). ([], xs, ap (λ z. z ∷ xs) (sym is)))
    (λ more. let rest = split_among x xs more in (y ∷ rest.0, rest.1, ap (λ zs. y ∷ zs) rest.2)) here

-- what holds of the first so many items holds at their places
pub at_early : {X : Type 0} (P : X → Type 0) (n p : ℕ) (xs : List X) (x : X) → AllByRecursion P (take n xs) → slice_get xs p ≡ Some x → p < n → P x
at_early P n p [] x all at less = absurd (cc)
at_early P zero p (y ∷ xs) x all at less = absurd (omega (arith, less))
at_early P (suc n) zero (y ∷ xs) x all at less = subst P (same_Some y x at) all.0
at_early P (suc n) (suc p) (y ∷ xs) x all at less = at_early P n p xs x all.1 at (omega (arith, less))

-- and of those behind
pub at_late : {X : Type 0} (P : X → Type 0) (n p : ℕ) (xs : List X) (x : X) → AllByRecursion P (drop n xs) → slice_get xs p ≡ Some x → n ≤ p → P x
at_late P n p [] x all at more = absurd (cc)
at_late P zero zero (y ∷ xs) x all at more = subst P (same_Some y x at) all.0
at_late P zero (suc p) (y ∷ xs) x all at more = at_late P zero p xs x all.1 at (omega arith)
at_late P (suc n) zero (y ∷ xs) x all at more = absurd (omega (arith, more))
at_late P (suc n) (suc p) (y ∷ xs) x all at more = at_late P n p xs x all at (omega (arith, more))

pub each_among : {X : Type 0} (P : X → Type 0) (xs : List X) → ((x : X) → Among x xs → P x) → AllByRecursion P xs
each_among P [] each = tt
each_among P (x ∷ xs) each = (each x (inl refl), each_among P xs (λ y here. each y (inr here)))

-- among numbered things
pub among_things : {A : Type 0} (x : A) (xs : List (ℕ × A)) → Among x (map (λ e. e.1) xs) → (p : ℕ) × Among (p, x) xs
among_things x [] here = absurd here
among_things x (e ∷ xs) here = ⊎_elim
    (λ (is : x ≡ e.1). (e.0, inl (ap (λ y. (e.0, y)) is)))
    (λ more. let rest = among_things x xs more in (rest.0, inr rest.1)) here

pub among_numbered : {A : Type 0} (p : ℕ) (x : A) (xs : List (ℕ × A)) → Among (p, x) xs → Among x (map (λ e. e.1) xs)
among_numbered p x [] here = absurd here
among_numbered {A} p x (e ∷ xs) here = ⊎_elim
    (λ (is : (p, x) ≡ e). inl (ap (λ (y : ℕ × A). y.1) is))
    (λ more. inr (among_numbered p x xs more)) here

-- a call's among the items of a list
pub own_line : {X A : Type 0} (label : X → Label) (thing : X → A) (c : Label) (k : ℕ) (xs : List X) (e : ℕ × A) → Among e (own label thing c k xs)
    → StandsIn X A label thing c k xs e
own_line label thing c k [] e here = absurd here
own_line {X} {A} label thing c k (x ∷ xs) e here =
    elim (is_label c (label x)) as (λ b. is_label c (label x) ≡ b → Among e (also b (k, thing x) (own label thing c (k + 1) xs))
    → StandsIn X A label thing c k (x ∷ xs) e) [
      | true ↦ λ is here. ⊎_elim
          (λ (same : e ≡ (k, thing x)). record { before = 0; line = x; there = refl; own = is; is = same ∙ ap (λ n. (n, thing x)) (none k) })
          (λ more. further (own_line label thing c (k + 1) xs e more)) here
      | false ↦ λ is here. further (own_line label thing c (k + 1) xs e here)
    ] refl here
  where
    none : (k : ℕ) → k ≡ k + 0
    none k = omega arith

    shift : (k n : ℕ) → k + 1 + n ≡ k + suc n
    shift k n = omega arith

    further : StandsIn X A label thing c (k + 1) xs e → StandsIn X A label thing c k (x ∷ xs) e
    further s = record {
      before = suc s.before;
      line = s.line;
      there = s.there;
      own = s.own;
      is = s.is ∙ ap (λ n. (n, thing s.line)) (shift k s.before);
    }

-- ---- signals that differ

pub none_among : (x : Signal) (xs : List Signal) → AllByRecursion (λ y. y ≡ x → ⊥) xs → Among x xs → ⊥
none_among x [] none here = here
none_among x (y ∷ xs) none here = ⊎_elim (λ (is : x ≡ y). none.0 (sym is)) (λ more. none_among x xs none.1 more) here

pub none_from : (x : Signal) (xs : List Signal) → (Among x xs → ⊥) → AllByRecursion (λ y. y ≡ x → ⊥) xs
none_from x [] none = tt
none_from x (y ∷ xs) none = (λ is. none (inl (sym is)), none_from x xs (λ here. none (inr here)))

pub distinct_left : (xs ys : List Signal) → AreDistinct (xs ++ ys) → AreDistinct xs
distinct_left [] ys are = tt
distinct_left (x ∷ xs) ys are =
    (none_from x xs (λ here. none_among x (xs ++ ys) are.0 (among_left x xs ys here)), distinct_left xs ys are.1)

pub distinct_right : (xs ys : List Signal) → AreDistinct (xs ++ ys) → AreDistinct ys
distinct_right [] ys are = are
distinct_right (x ∷ xs) ys are = distinct_right xs ys are.1

pub not_in_both : (x : Signal) (xs ys : List Signal) → AreDistinct (xs ++ ys) → Among x xs → Among x ys → ⊥
not_in_both x [] ys are left right = left
not_in_both x (y ∷ xs) ys are left right = ⊎_elim
    (λ (is : x ≡ y). none_among y (xs ++ ys) are.0 (subst (λ z. Among z (xs ++ ys)) is (among_right x xs ys right)))
    (λ more. not_in_both x xs ys are.1 more right) left

-- signals that differ are no more than those among which they all are
pub few_among : (xs ys : List Signal) → AreDistinct xs → ((x : Signal) → Among x xs → Among x ys) → length xs ≤ length ys
few_among [] ys are each = omega arith
few_among (x ∷ xs) ys are each =
    let at = split_among x ys (each x (inl refl)) in
    let rest = few_among xs (at.0 ++ at.1) are.1 (λ z here. ⊎_elim
    (λ left. among_left z at.0 at.1 left)
    (λ right. ⊎_elim (λ (is : z ≡ x). absurd (none_among x xs are.0 (subst (λ y. Among y xs) is here))) (λ more. among_right z at.0 at.1 more) right)
    (among_either z at.0 (x ∷ at.1) (subst (Among z) at.2 (each z (inr here))))) in
    omega (arith, rest, ap length at.2, length-append at.0 (x ∷ at.1), length-append at.0 at.1)

-- numbered signals that differ have each one number
pub one_number : (n m : ℕ) (x : Signal) (xs : List (ℕ × Signal)) → AreDistinct (map (λ e. e.1) xs) → Among (n, x) xs → Among (m, x) xs → n ≡ m
one_number n m x [] are one two = absurd one
one_number n m x (e ∷ xs) are one two = ⊎_elim
    (λ (a : (n, x) ≡ e). ⊎_elim
    (λ (b : (m, x) ≡ e). ap (λ (y : ℕ × Signal). y.0) (a ∙ sym b))
    (λ more. absurd (none_among e.1 (map (λ e. e.1) xs) are.0 (subst (λ y. Among y (map (λ e. e.1) xs)) (second a) (among_numbered m x xs more)))) two)
    (λ here. ⊎_elim
    (λ (b : (m, x) ≡ e). absurd (none_among e.1 (map (λ e. e.1) xs) are.0 (subst (λ y. Among y (map (λ e. e.1) xs)) (second b) (among_numbered n x xs here))))
    (λ more. one_number n m x xs are.1 here more) two) one
  where
    second : {k : ℕ} → (k, x) ≡ e → x ≡ e.1
    second is = ap (λ (y : ℕ × Signal). y.1) is

-- ---- parts of a list

-- the items from one number on, and before another
abbrev pub part : {X : Type 0} → ℕ → ℕ → List X → List X
part a b xs = drop a (take b xs)

pub among_part : {X : Type 0} (a b k : ℕ) (xs : List X) (x : X) → slice_get xs k ≡ Some x → a ≤ k → k < b → Among x (part a b xs)
among_part a b k [] x at from to = absurd (cc)
among_part a zero k (y ∷ xs) x at from to = absurd (omega (arith, to))
among_part zero (suc b) zero (y ∷ xs) x at from to = inl (sym (same_Some y x at))
among_part zero (suc b) (suc k) (y ∷ xs) x at from to = inr (among_part zero b k xs x at (omega arith) (omega (arith, to)))
among_part (suc a) (suc b) zero (y ∷ xs) x at from to = absurd (omega (arith, from))
among_part (suc a) (suc b) (suc k) (y ∷ xs) x at from to = among_part a b k xs x at (omega (arith, from)) (omega (arith, to))

pub part_among : {X : Type 0} (a b : ℕ) (xs : List X) (x : X) → Among x (part a b xs) → (k : ℕ) × (slice_get xs k ≡ Some x) × (a ≤ k) × (k < b)
part_among zero zero [] x here = absurd here
part_among zero (suc b) [] x here = absurd here
part_among (suc a) zero [] x here = absurd here
part_among (suc a) (suc b) [] x here = absurd here
part_among zero zero (y ∷ xs) x here = absurd here
part_among (suc a) zero (y ∷ xs) x here = absurd here
part_among zero (suc b) (y ∷ xs) x here = ⊎_elim
    (λ (is : x ≡ y). (0, ap Some (sym is), omega arith, omega arith))
    (λ more. let rest = part_among zero b xs x more in (suc rest.0, rest.1, omega arith, omega (arith, rest.3))) here
part_among (suc a) (suc b) (y ∷ xs) x here =
    let rest = part_among a b xs x here in (suc rest.0, rest.1, omega (arith, rest.2), omega (arith, rest.3))

-- it has as many items as there are numbers
pub part_length : {X : Type 0} (a b : ℕ) (xs : List X) → b ≤ length xs → a ≤ b → a + length (part a b xs) ≡ b
part_length zero zero [] few le = omega arith
part_length zero zero (x ∷ xs) few le = omega arith
part_length zero (suc b) (x ∷ xs) few le = omega (arith, part_length zero b xs (omega (arith, few)) (omega arith))
part_length (suc a) (suc b) (x ∷ xs) few le = omega (arith, part_length a b xs (omega (arith, few)) (omega (arith, le)))
part_length a (suc b) [] few le = absurd (omega (arith, few))
part_length (suc a) zero xs few le = absurd (omega (arith, le))

pub distinct_part : (a b : ℕ) (xs : List Signal) → AreDistinct xs → AreDistinct (part a b xs)
distinct_part a b xs are =
    distinct_right (take a (take b xs)) (drop a (take b xs)) (subst AreDistinct (sym (take-append-drop a (take b xs)))
    (distinct_left (take b xs) (drop b xs) (subst AreDistinct (sym (take-append-drop b xs)) are)))

-- signals differ of which none stands at two numbers
pub distinct_by : (xs : List Signal) → ((k j : ℕ) (x : Signal) → slice_get xs k ≡ Some x → slice_get xs j ≡ Some x → k ≡ j) → AreDistinct xs
distinct_by [] once = tt
distinct_by (x ∷ xs) once = (
  none_from x xs (λ here. let at = at_among x xs here in absurd (let same = once 0 (suc at.0) x refl at.1 in cc)),
  distinct_by xs (λ k j y one two. let same = once (suc k) (suc j) y one two in omega (arith, same)),
)
