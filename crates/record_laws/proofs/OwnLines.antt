-- A call's lines in a list of the record are what it did there, by the notes that were made of it and stand sorted.
use mathlib.Core.Bool.{cond}
use Rattle.std.proofs.Common.{◌≡◌, ◌&&◌, ℕ, ◌+◌, true, false, Some, List, [], ◌∷◌, filter, length, map, arith, refl, sym, ap, ◌∙◌, subst, Bool, ◌<◌, ◌≤◌}
use Rattle.std.specs.List.{slice_get}
use Rattle.std.specs.List.Sorted.{IsPermutation}
use Rattle.std.proofs.Math.Bool.{and_comm}
use Rattle.std.proofs.lemmas.List.{length-map}
use Rattle.std.proofs.lemmas.List.Elements.{filter_agree}
use Rattle.std.proofs.lemmas.List.Sorted.{IsPermutation-map, IsPermutation-sym}
use Rattle.lane_notes.specs.Sorted.{is_of_list, IsSortedOf, Place}
use Rattle.lane_notes.proofs.Standing.{HasPlace}
use Rattle.record_text.specs.declared.record.Label.{Label}
use Rattle.run_history.specs.Actions.{also, own}
use Rattle.run_history.specs.Order.{is_label, IsLabel}
use Rattle.script_text.specs.declared.script.Script.{Script}
use Rattle.run_history.specs.Receipts.{Rises}
use Rattle.run_history.proofs.Items.{own_rises, RiseIn, same_risen}
use Rattle.run_history.proofs.Lists.{at_map, map_get}
use Rattle.run_history.proofs.Permuted.{filter_permuted}
use Rattle.record_laws.proofs.Numbered.{are_numbered, AreEachOnce, AreNumbered, as_many, noted_at}

-- ---- the notes of a call

pub rise_in : {A : Type 0} (k : ℕ) (xs : List (ℕ × A)) → Rises k (map (λ x. x.0) xs) → RiseIn k xs
rise_in k [] rise = tt
rise_in k (x ∷ xs) rise = (rise.0, rise_in (x.0 + 1) xs rise.1)

-- law: one test behind another is both, in either order
pub filter_both : {X : Type 0} (p o : X → Bool) (xs : List X) → filter p (filter o xs) ≡ filter (λ x. o x && p x) xs
filter_both p o [] = refl
filter_both p o (x ∷ xs) =
    let both = filter (λ y. o y && p y) xs in
    elim (o x) as (λ b. filter p (cond b (x ∷ filter o xs) (filter o xs)) ≡ cond (b && p x) (x ∷ both) both) [
      | true ↦ ap (λ ys. cond (p x) (x ∷ ys) ys) (filter_both p o xs)
      | false ↦ filter_both p o xs
    ]

turn_filters : {X : Type 0} (p o : X → Bool) (xs : List X) → filter p (filter o xs) ≡ filter o (filter p xs)
turn_filters p o xs =
    filter_both p o xs ∙ filter_agree (λ x. o x && p x) (λ x. p x && o x) (λ x. and_comm (o x) (p x)) xs ∙ sym (filter_both o p xs)

-- what is made of an item that passes a test, in front of what is made of others
pub also-map : {X Y : Type 0} (b : Bool) (f : X → Y) (x : X) (xs : List X) {ys : List Y} → ys ≡ map f xs → also b (f x) ys ≡ map f (cond b (x ∷ xs) xs)
also-map true f x xs is = ap (λ ys. f x ∷ ys) is
also-map false f x xs is = is

-- law: what is told of the notes that pass a test, as a list that is given head by head
pub told_of : {X Y : Type 0} (g : List X → List Y) (p : X → Bool) (f : X → Y) → g [] ≡ [] → ((x : X) (xs : List X) → g (x ∷ xs) ≡ also (p x) (f x) (g xs))
    → (xs : List X) → g xs ≡ map f (filter p xs)
told_of g p f none more [] = none
told_of g p f none more (x ∷ xs) = more x xs ∙ also-map (p x) f x (filter p xs) (told_of g p f none more xs)

-- the notes of a call on one list
abbrev pub own_on : {X : Type 0} → (X → Place) → ℕ → Label → List X → List X
own_on place l c xs = filter (is_of_list place l) (filter (λ n. is_label c (place n).label) xs)

-- law: the sorted notes of a list that bear a call's label are its own, in some order
pub own_sorted : {X Y : Type 0} {place : X → Place} (l : ℕ) (c : Label) (told : X → Y) {xs sorted : List X} → IsSortedOf place xs sorted
    → IsPermutation (map told (filter (λ n. is_label c (place n).label) (filter (is_of_list place l) sorted))) (map told (own_on place l c xs))
own_sorted {X = X} {place = place} l c told {xs = xs} {sorted = sorted} is =
    let own : X → Bool = λ n. is_label c (place n).label in
    IsPermutation-map told _ _ (subst (λ ys. IsPermutation ys (own_on place l c xs)) (sym (turn_filters own (is_of_list place l) sorted))
    (filter_permuted (is_of_list place l) _ _ (filter_permuted own sorted xs (IsPermutation-sym xs sorted is.same))))

-- ---- lines that show the sorted notes of a list

-- a place is that of a call of the script, in the call's span
abbrev pub InSpan : Script → (Label → ℕ × ℕ) → Label → ℕ → Type 0
InSpan s span c n = IsLabel s c × ((span c).0 ≤ n) × (n < (span c).1)

-- lines show what is told of notes, each under its label
pub record ShowNotes {X L A : Type 0} (place : X → Place) (label : L → Label) (thing : L → A) (told : X → A) (lines : List L) (ns : List X) : Type 0 where
  pub same : map {B = Label × A} (λ y. (label y, thing y)) lines ≡ map {B = Label × A} (λ n. ((place n).label, told n)) ns

module _ {X L A : Type 0} {place : X → Place} {l many : ℕ} {xs sorted : List X} (is : IsSortedOf place xs sorted) (once : AreEachOnce place l many xs)
    {label : L → Label} {thing : L → A} {told : X → A} {lines : List L}
    (show : ShowNotes place label thing told lines (filter (is_of_list place l) sorted)) where
  -- law: there are as many as numbers
  pub lines_long : length lines ≡ many
  lines_long = sym (length-map {B = Label × A} lines (λ y. (label y, thing y))) ∙ ap length show.same
      ∙ length-map {B = Label × A} (filter (is_of_list place l) sorted) (λ n. ((place n).label, told n)) ∙ as_many is once

  -- law: what holds of what each note tells, and of how many stand before it, holds of the line at each place
  pub at_line : (P : Label × A → ℕ → Type 0)
      → ((n : X) → HasPlace xs n → (place n).list ≡ l → (b : ℕ) × (b + 1 ≡ (place n).number) × P ((place n).label, told n) b)
      → (j : ℕ) (y : L) → slice_get lines j ≡ Some y → P (label y, thing y) j
  at_line P holds j y at =
      let m = map_get {Y = Label × A} (λ (n : X). ((place n).label, told n)) (filter (is_of_list place l) sorted) j (label y, thing y)
      (ap (λ zs. slice_get zs j) (sym show.same) ∙ at_map {Y = Label × A} (λ (z : L). (label z, thing z)) lines j y at) in
      let n = noted_at is once j m.0 m.1 in
      let b = holds m.0 n.0 n.1 in
      let before : b.0 ≡ j = omega (arith, b.1, n.2) in
      subst (λ q. P q j) m.2 (subst (P ((place m.0).label, told m.0)) {x = b.0} before b.2)

  module _ {B : Type 0} (f : A → B) (c : Label) where
    own_numbered : (k : ℕ) (ys : List L) (ns : List X) → AreNumbered place k ns
        → map {B = Label × A} (λ y. (label y, thing y)) ys ≡ map {B = Label × A} (λ n. ((place n).label, told n)) ns
        → own label (λ y. f (thing y)) c k ys ≡ map (λ n. ((place n).number, f (told n))) (filter (λ n. is_label c (place n).label) ns)
    own_numbered k [] [] are same = refl
    own_numbered k [] (n ∷ ns) are same = absurd (cc)
    own_numbered k (y ∷ ys) [] are same = absurd (cc)
    own_numbered k (y ∷ ys) (n ∷ ns) are same =
        let head : ◌≡◌ {A = Label × A} (label y, thing y) ((place n).label, told n) = cc in
        ap (λ (p : Label × A). also (is_label c p.0) (k, f p.1) (own label (λ z. f (thing z)) c (k + 1) ys)) head
        ∙ ap (λ m. also (is_label c (place n).label) (m, f (told n)) (own label (λ z. f (thing z)) c (k + 1) ys)) (sym are.0)
        ∙ also-map (is_label c (place n).label) (λ (m : X). ((place m).number, f (told m))) n (filter (λ m. is_label c (place m).label) ns)
        (own_numbered (k + 1) ys ns are.1 (cc))

    -- law: a call's lines are what it did, by its notes
    pub own_lines : (items : List (ℕ × B)) → Rises 1 (map (λ n. n.0) items)
        → map {B = ℕ × B} (λ n. ((place n).number, f (told n))) (own_on place l c xs) ≡ items → own label (λ y. f (thing y)) c 1 lines ≡ items
    own_lines items rise noted =
        same_risen (own label (λ y. f (thing y)) c 1 lines) items
        (subst (λ ys. IsPermutation ys items) (sym (own_numbered 1 lines (filter (is_of_list place l) sorted) (are_numbered is once) show.same))
        (subst (IsPermutation _) noted (own_sorted l c (λ (n : X). ((place n).number, f (told n))) is)))
        (own_rises label (λ y. f (thing y)) c 1 lines) (rise_in 1 items rise)
