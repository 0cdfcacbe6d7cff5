-- A call's lines in a list are its receipts, in the order in which it made them.
use Rattle.std.proofs.Common.{◌≡◌, ◌≤◌, ◌⊎◌, ℕ, ◌+◌, zero, suc, true, false, List, [], ◌∷◌, Some, arith, refl, sym, ap, ◌∙◌, subst, inl, inr}
use Rattle.std.specs.List.{slice_get}
use Rattle.std.proofs.Math.Logic.{⊎_elim}
use Rattle.std.proofs.lemmas.Option.{same_Some}
use Rattle.record_text.specs.declared.record.Label.{Label}
use Rattle.run_history.specs.Actions.{also, own}
use Rattle.run_history.specs.Order.{is_label}
use Rattle.run_history.proofs.Permuted.{along_permutation}
use Rattle.std.specs.List.Sorted.{IsPermutation}
use Rattle.std.proofs.lemmas.List.Sorted.{IsPermutation-sym}

-- a thing is one of these
abbrev pub Among : {X : Type 0} → X → List X → Type 0
Among e [] = ⊥
Among e (x ∷ xs) = (e ≡ x) ⊎ Among e xs

-- what stands at a place is one of them, and one of them stands at a place
pub among_at : {X : Type 0} (xs : List X) (i : ℕ) (x : X) → slice_get xs i ≡ Some x → Among x xs
among_at [] i x at = absurd (cc)
among_at (y ∷ xs) zero x at = inl (sym (same_Some y x at))
among_at (y ∷ xs) (suc i) x at = inr (among_at xs i x at)

pub at_among : {X : Type 0} (e : X) (xs : List X) → Among e xs → (i : ℕ) × (slice_get xs i ≡ Some e)
at_among e [] here = absurd here
at_among e (x ∷ xs) here = ⊎_elim (λ is. (0, ap Some (sym is))) (λ more. let rest = at_among e xs more in (suc rest.0, rest.1)) here

-- numbered things with rising numbers, none below this one
abbrev pub RiseIn : {A : Type 0} → ℕ → List (ℕ × A) → Type 0
RiseIn k [] = Unit
RiseIn k (x ∷ xs) = (k ≤ x.0) × RiseIn (x.0 + 1) xs

none : (k : ℕ) → k + 0 ≡ k
none k = omega arith

shift : (k n : ℕ) → k + 1 + n ≡ k + suc n
shift k n = omega arith

least : {A : Type 0} (k : ℕ) (e : ℕ × A) (xs : List (ℕ × A)) → RiseIn k xs → Among e xs → k ≤ e.0
least k e [] rise here = absurd here
least {A = A} k e (x ∷ xs) rise here =
    ⊎_elim (λ (is : e ≡ x). omega (arith, ap (λ (p : ℕ × A). p.0) is, rise.0)) (λ more. omega (arith, rise.0, least (x.0 + 1) e xs rise.1 more)) here

-- with the same members they are equal
pub same_items : {A : Type 0} (k j : ℕ) (xs ys : List (ℕ × A)) → RiseIn k xs → RiseIn j ys → ((e : ℕ × A) → Among e xs → Among e ys)
    → ((e : ℕ × A) → Among e ys → Among e xs) → xs ≡ ys
same_items k j [] [] up_x up_y on back = refl
same_items k j [] (y ∷ ys) up_x up_y on back = absurd (back y (inl refl))
same_items k j (x ∷ xs) [] up_x up_y on back = absurd (on x (inl refl))
same_items {A = A} k j (x ∷ xs) (y ∷ ys) up_x up_y on back =
    let crossed : Among x ys → Among y xs → x ≡ y =
    λ in_ys in_xs. absurd (omega (arith, least (y.0 + 1) x ys up_y.1 in_ys, least (x.0 + 1) y xs up_x.1 in_xs)) in
    let same : x ≡ y =
    ⊎_elim (λ (e : x ≡ y). e) (λ in_ys. ⊎_elim (λ (e : y ≡ x). sym e) (λ in_xs. crossed in_ys in_xs) (back y (inl refl))) (on x (inl refl)) in
    let number : x.0 ≡ y.0 = ap (λ (p : ℕ × A). p.0) same in
    ap (λ h. h ∷ xs) same ∙ ap (λ t. y ∷ t) (same_items (x.0 + 1) (y.0 + 1) xs ys up_x.1 up_y.1
    (λ e here. ⊎_elim (λ (is : e ≡ y). absurd (omega (arith, ap (λ (p : ℕ × A). p.0) is, number, least (x.0 + 1) e xs up_x.1 here)))
    (λ more. more) (on e (inr here)))
    (λ e here. ⊎_elim (λ (is : e ≡ x). absurd (omega (arith, ap (λ (p : ℕ × A). p.0) is, number, least (y.0 + 1) e ys up_y.1 here)))
    (λ more. more) (back e (inr here))))

-- law: so they are where they stand in some other order
pub same_risen : {A : Type 0} (xs ys : List (ℕ × A)) → IsPermutation xs ys → RiseIn 1 xs → RiseIn 1 ys → xs ≡ ys
same_risen {A = A} xs ys same one two = same_items 1 1 xs ys one two (λ e. among e xs ys same) (λ e. among e ys xs (IsPermutation-sym xs ys same))
  where
    among : (e : ℕ × A) (xs ys : List (ℕ × A)) → IsPermutation xs ys → Among e xs → Among e ys
    among e = along_permutation (λ xs ys. Among e xs → Among e ys) (λ xs here. here) (λ x xs ys so here. ⊎_elim inl (λ more. inr (so more)) here)
        (λ x y xs here. ⊎_elim (λ is. inr (inl is)) (λ more. ⊎_elim inl (λ later. inr (inr later)) more) here) (λ xs ys zs so then here. then (so here))

pub lower : {A : Type 0} (j k : ℕ) (xs : List (ℕ × A)) → j ≤ k → RiseIn k xs → RiseIn j xs
lower j k [] le rise = tt
lower j k (x ∷ xs) le rise = (omega (arith, le, rise.0), rise.1)

-- ---- lines of a kind that bear a label and show something

-- the line at a number is the call's, and shows this
pub record StandsIn (X A : Type 0) (label : X → Label) (thing : X → A) (c : Label) (k : ℕ) (xs : List X) (e : ℕ × A) : Type 0 where
  pub before : ℕ
  pub line : X
  pub there : slice_get xs before ≡ Some line
  pub own : is_label c (label line) ≡ true
  pub is : e ≡ (k + before, thing line)

module _ {X A : Type 0} (label : X → Label) (thing : X → A) (c : Label) where
  pub own_rises : (k : ℕ) (xs : List X) → RiseIn k (own label thing c k xs)
  own_rises k [] = tt
  own_rises k (x ∷ xs) = elim (is_label c (label x)) as (λ b. RiseIn k (also b (k, thing x) (own label thing c (k + 1) xs))) [
    | true ↦ (omega arith, own_rises (k + 1) xs)
    | false ↦ lower k (k + 1) (own label thing c (k + 1) xs) (omega arith) (own_rises (k + 1) xs)
  ]

  pub own_stands : (k : ℕ) (xs : List X) (e : ℕ × A) → Among e (own label thing c k xs) → StandsIn X A label thing c k xs e
  own_stands k [] e here = absurd here
  own_stands k (x ∷ xs) e here =
      elim (is_label c (label x)) as (λ b. is_label c (label x) ≡ b → Among e (also b (k, thing x) (own label thing c (k + 1) xs))
      → StandsIn X A label thing c k (x ∷ xs) e) [
        | true ↦ λ is here. ⊎_elim
            (λ (same : e ≡ (k, thing x)). record { before = 0; line = x; there = refl; own = is; is = same ∙ ap (λ n. (n, thing x)) (sym (none k)) })
            (λ more. further (own_stands (k + 1) xs e more)) here
        | false ↦ λ is here. further (own_stands (k + 1) xs e here)
      ] refl here
    where
      further : StandsIn X A label thing c (k + 1) xs e → StandsIn X A label thing c k (x ∷ xs) e
      further s = record {
        before = suc s.before;
        line = s.line;
        there = s.there;
        own = s.own;
        is = s.is ∙ ap (λ n. (n, thing s.line)) (shift k s.before);
      }

  pub stands_own : (k p : ℕ) (xs : List X) (x : X) → slice_get xs p ≡ Some x → is_label c (label x) ≡ true → Among (k + p, thing x) (own label thing c k xs)
  stands_own k p [] x at is = absurd (cc)
  stands_own k zero (y ∷ xs) x at is =
      let same = same_Some y x at in
      subst (λ b. Among (k + 0, thing x) (also b (k, thing y) (own label thing c (k + 1) xs))) (sym (ap (λ z. is_label c (label z)) same ∙ is))
      (inl (ap (λ n. (n, thing x)) (none k) ∙ ap (λ z. (k, thing z)) (sym same)))
  stands_own k (suc p) (y ∷ xs) x at is =
      let rest : Among (k + suc p, thing x) (own label thing c (k + 1) xs) =
      subst (λ n. Among (n, thing x) (own label thing c (k + 1) xs)) (shift k p) (stands_own (k + 1) p xs x at is) in
      elim (is_label c (label y)) as (λ b. Among (k + suc p, thing x) (also b (k, thing y) (own label thing c (k + 1) xs))) [
        | true ↦ inr rest
        | false ↦ rest
      ]

  -- law: the lines under the call's label are its receipts, in the order in which it made them
  pub own_items : (k : ℕ) (xs : List X) (items : List (ℕ × A)) → RiseIn k items → ((e : ℕ × A) → Among e items → StandsIn X A label thing c k xs e)
      → ((p : ℕ) (x : X) → slice_get xs p ≡ Some x → is_label c (label x) ≡ true → Among (k + p, thing x) items) → own label thing c k xs ≡ items
  own_items k xs items rise stand all = same_items k k (own label thing c k xs) items (own_rises k xs) rise
      (λ e here. let s = own_stands k xs e here in subst (λ f. Among f items) (sym s.is) (all s.before s.line s.there s.own))
      (λ e here. let s = stand e here in subst (λ f. Among f (own label thing c k xs)) (sym s.is) (stands_own k s.before xs s.line s.there s.own))
