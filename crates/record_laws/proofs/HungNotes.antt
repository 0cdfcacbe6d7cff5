-- What hangs under a record's lines: looks and refused expiries are the notes of them, each under the line of its number.
use mathlib.Core.Bool.{cond}
use Rattle.std.proofs.Common.{◌≡◌, ◌&&◌, ℕ, ◌+◌, ◌<◌, ◌≤◌, Bool, true, false, nat_eq, List, [], ◌∷◌, ◌++◌, filter, length, map, arith, refl, sym, ap, ◌∙◌, subst, zero, suc}
use Rattle.std.specs.List.{AllByRecursion}
use Rattle.std.specs.List.Sorted.{IsPermutation}
use Rattle.std.proofs.lemmas.Bool.{eqb-true, ne_eqb, eqb-false}
use Rattle.std.proofs.lemmas.List.Sorted.{IsPermutation-append_right, IsPermutation-cons, IsPermutation-middle, IsPermutation-refl, IsPermutation-trans}
use Rattle.lane_notes.specs.Records.{numbered_from, line_at_number, noted_lines}
use Rattle.lane_notes.specs.Sorted.{is_of_list, is_of_number, IsSortedOf, Place}
use Rattle.lane_notes.proofs.Standing.{AtMostOne, HasPlace, stood_before, filter_stands_in}
use Rattle.lane_notes.proofs.UnderLines.{is_of_call}
use Rattle.record_text.specs.declared.record.Label.{Label}
use Rattle.run_history.specs.Order.{is_label, IsLabel}
use Rattle.run_history.specs.Receipts.{Rises}
use Rattle.run_history.proofs.Looks.{of_call, all_under}
use Rattle.std.proofs.Math.Bool.{and_comm}
use Rattle.std.proofs.lemmas.List.Elements.{filter_agree}
use Rattle.script_text.specs.declared.script.Script.{Script}
use Rattle.lane_notes.proofs.Rising.{is_at, strictly}
use Rattle.lane_notes.proofs.WholeRecord.{IsUnder}
use Rattle.run_history.proofs.Lists.{each, map_get}
use Rattle.record_laws.proofs.OwnLines.{filter_both, own_on, own_sorted, also-map, told_of}

-- ---- at most one look of a call at a number

module _ {X : Type 0} (number : X → ℕ) (n : ℕ) where
  -- numbers that rise stand once at most, and none of them below the first
  none_above : (k : ℕ) (xs : List X) → Rises k (map number xs) → n < k → length (filter (λ x. nat_eq (number x) n) xs) ≡ 0
  none_above k [] rise less = refl
  none_above k (x ∷ xs) rise less =
      let at = filter (λ y. nat_eq (number y) n) xs in
      ap (λ b. length (cond b (x ∷ at) at)) (ne_eqb (number x) n (λ is. omega (arith, is, less, rise.0)))
      ∙ none_above (number x + 1) xs rise.1 (omega (arith, less, rise.0))

  one_most : (k : ℕ) (xs : List X) → Rises k (map number xs) → AtMostOne (λ x. nat_eq (number x) n) xs
  one_most k [] rise = omega arith
  one_most k (x ∷ xs) rise =
      let at = filter (λ y. nat_eq (number y) n) xs in
      elim (nat_eq (number x) n) as (λ b. nat_eq (number x) n ≡ b → length (cond b (x ∷ at) at) ≤ 1) [
        | true ↦ λ is. omega (arith, none_above (number x + 1) xs rise.1 (omega (arith, eqb-true (number x) n is)))
        | false ↦ λ not. one_most (number x + 1) xs rise.1
      ] refl

-- law: a call whose notes rise along a list has one at most at each number
pub one_of_call : {X : Type 0} (place : X → Place) (l n : ℕ) (c : Label) (xs : List X) → Rises 1 (map (λ x. (place x).number) (own_on place l c xs))
    → AtMostOne (is_of_call place l n c) xs
one_of_call {X = X} place l n c xs rise =
    let own : X → Bool = λ x. is_label c (place x).label in
    subst (λ ys. length ys ≤ 1)
    (filter_both (is_of_number place n) (is_of_list place l) (filter own xs) ∙ filter_both (is_at place l n) own xs
    ∙ filter_agree (λ x. own x && is_at place l n x) (is_of_call place l n c) (λ x. and_comm (own x) (is_at place l n x)) xs)
    (one_most (λ x. (place x).number) n 1 (own_on place l c xs) rise)

-- ---- notes that hang under lines, each under the line of its number

module _ {U A : Type 0} (place : U → Place) (thing : U → A) where
  -- what is told of a note, with its label
  abbrev pub shape : U → Label × (ℕ × A)
  shape u = ((place u).label, ((place u).number, thing u))

  -- under the line of a number
  abbrev at_number : ℕ → List U → List (Label × (ℕ × A))
  at_number k us = map (λ u. ((place u).label, (k, thing u))) us

  -- under so many lines, which are numbered from here
  abbrev hung : ℕ → ℕ → List U → List (Label × (ℕ × A))
  hung k zero us = []
  hung k (suc m) us = at_number k (filter (is_of_number place k) us) ++ hung (k + 1) m us

  none_hang : (k m : ℕ) → hung k m [] ≡ []
  none_hang k zero = refl
  none_hang k (suc m) = none_hang (k + 1) m

  -- a note with a lower number hangs under none of the lines
  lower_hangs : (k m : ℕ) (u : U) (us : List U) → (place u).number < k → hung k m (u ∷ us) ≡ hung k m us
  lower_hangs k zero u us less = refl
  lower_hangs k (suc m) u us less =
      let here = filter (is_of_number place k) us in
      ap (λ b. at_number k (cond b (u ∷ here) here) ++ hung (k + 1) m (u ∷ us)) (ne_eqb (place u).number k (λ e. omega (arith, e, less)))
      ∙ ap (λ ys. at_number k here ++ ys) (lower_hangs (k + 1) m u us (omega (arith, less)))

  -- one with the number of a line hangs there
  one_hangs : (k m : ℕ) (u : U) (us : List U) → k ≤ (place u).number → (place u).number < k + m → IsPermutation (hung k m (u ∷ us)) (shape u ∷ hung k m us)
  one_hangs k zero u us from below = absurd (omega (arith, from, below))
  one_hangs k (suc m) u us from below =
      let here = filter (is_of_number place k) us in
      let rest = hung (k + 1) m us in
      let all = shape u ∷ (at_number k here ++ rest) in
      elim (nat_eq (place u).number k) as (λ b. nat_eq (place u).number k ≡ b
      → IsPermutation (at_number k (cond b (u ∷ here) here) ++ hung (k + 1) m (u ∷ us)) all) [
        | true ↦ λ is.
            let same : (place u).number ≡ k = eqb-true (place u).number k is in
            subst (λ ys. IsPermutation ys all) (ap (λ n. ((place u).label, (n, thing u)) ∷ (at_number k here ++ rest)) same
            ∙ ap (λ ys. at_number k (u ∷ here) ++ ys) (sym (lower_hangs (k + 1) m u us (omega (arith, same))))) (IsPermutation-refl all)
        | false ↦ λ not.
            IsPermutation-trans _ _ _
            (IsPermutation-append_right (at_number k here) _ _ (one_hangs (k + 1) m u us
            (omega (arith, (strictly from (λ e. eqb-false (place u).number k not (sym e))))) (omega (arith, below))))
            (IsPermutation-middle (at_number k here) (shape u) rest)
      ] refl

  all_hang : (m : ℕ) (us : List U) → AllByRecursion (λ u. (1 ≤ (place u).number) × ((place u).number < 1 + m)) us → IsPermutation (hung 1 m us) (map shape us)
  all_hang m [] inside = subst (λ ys. IsPermutation ys []) (sym (none_hang 1 m)) (IsPermutation-refl [])
  all_hang m (u ∷ us) inside =
      IsPermutation-trans _ _ _ (one_hangs 1 m u us inside.0.0 inside.0.1) (IsPermutation-cons (shape u) _ _ (all_hang m us inside.1))

  module _ {N L S : Type 0} (line : N → List U → L) (of : L → List S) (label : S → Label) (shown : S → A)
      (tells : (k : ℕ) (n : N) (us : List U) → map {B = Label × (ℕ × A)} (λ x. (label x, (k, shown x))) (of (line n us)) ≡ at_number k us) where
    hung_under : (k : ℕ) (us : List U) (ns : List N) → all_under of label shown k (numbered_from (line_at_number place line us) k ns) ≡ hung k (length ns) us
    hung_under k us [] = refl
    hung_under k us (n ∷ ns) =
        let here = filter (is_of_number place k) us in
        ap (λ ys. ys ++ all_under of label shown (k + 1) (numbered_from (line_at_number place line us) (k + 1) ns)) (tells k n here)
        ∙ ap (λ ys. at_number k here ++ ys) (hung_under (k + 1) us ns)

    -- law: where each note has the number of a line, all sorted notes of a list hang under the list's lines
    pub all_under_lines : (of_line : N → Place) (l : ℕ) (notes : List N) {xs sorted : List U} → IsSortedOf place xs sorted
        → ((u : U) → HasPlace xs u → (place u).list ≡ l → (1 ≤ (place u).number) × ((place u).number < 1 + length (filter (is_of_list of_line l) notes)))
        → IsPermutation (all_under of label shown 1 (noted_lines place line of_line l notes sorted)) (map shape (filter (is_of_list place l) sorted))
    all_under_lines of_line l notes {xs = xs} {sorted = sorted} is inside =
        let ns = filter (is_of_list of_line l) notes in
        let us = filter (is_of_list place l) sorted in
        subst (λ ys. IsPermutation ys (map shape us)) (sym (hung_under 1 us ns)) (all_hang (length ns) us (each _ us (λ p u at.
        let f = filter_stands_in (is_of_list place l) sorted u (p, at) in
        inside u (stood_before xs sorted f.0.0 u is.same f.0.1) (eqb-true (place u).list l f.1))))

  -- law: those of a call are its notes on the list, in some order
  pub hung_own : (l : ℕ) (c : Label) {xs sorted : List U} → IsSortedOf place xs sorted
      → IsPermutation (of_call c (map shape (filter (is_of_list place l) sorted))) (map (λ u. ((place u).number, thing u)) (own_on place l c xs))
  hung_own l c {xs = xs} {sorted = sorted} is =
      let told : U → ℕ × A = λ u. ((place u).number, thing u) in
      subst (λ ys. IsPermutation ys (map told (own_on place l c xs))) (sym (told_of (λ vs. of_call c (map shape vs)) (λ u. is_label c (place u).label) told refl
      (λ u vs. sym (also-map (is_label c (place u).label) (λ e. e.1) (shape u) (filter (λ e. is_label c e.0) (map shape vs)) refl))
      (filter (is_of_list place l) sorted))) (own_sorted l c told is)

-- ---- the labels under a line

-- law: they are of calls of the script, as those of all notes are
pub calls_under : {U S : Type 0} {place : U → Place} {told : U → S} (s : Script) (label : S → Label) → ((u : U) → label (told u) ≡ (place u).label)
    → {l k : ℕ} {xs sorted : List U} → IsSortedOf place xs sorted → ((u : U) → HasPlace xs u → IsLabel s (place u).label) → (things : List S)
    → ((x : S) → HasPlace things x → IsUnder place told l k sorted x) → AllByRecursion (IsLabel s) (map label things)
calls_under s label same {xs = xs} {sorted = sorted} is labels things noted = each (IsLabel s) (map label things) (λ j c at.
    let m = map_get label things j c at in
    let n = noted m.0 (j, m.1) in
    subst (IsLabel s) (sym (same n.note) ∙ ap label n.is ∙ m.2) (labels n.note (stood_before xs sorted n.noted.0 n.note is.same n.noted.1)))
