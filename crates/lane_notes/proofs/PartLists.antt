-- Numbers that rise or never fall, and the lists of a call in two parts.
use Rattle.std.proofs.Common.{◌≡◌, ◌≤◌, ◌<◌, ℕ, ◌+◌, true, false, nat_eq, Option, List, [], ◌∷◌, ◌++◌, map, arith, refl, ap, ◌∙◌, Bool}
use Rattle.std.specs.List.{AllByRecursion}
use Rattle.std.proofs.lemmas.List.{map-append}
use Rattle.run_history.specs.Actions.{Action, also, Looked, looked}
use Rattle.run_history.specs.Objects.{present}
use Rattle.run_history.specs.Order.{NeverFall}
use Rattle.lane_notes.proofs.Receipts.{present-append}
use Rattle.run_history.specs.Receipts.{Rises}
use Rattle.run_history.proofs.Known.{rises_lower}
use Rattle.record_text.proofs.Lists.{All-append}
use Rattle.std.proofs.Common.{subst}
use Rattle.std.specs.List.Sorted.{IsPermutation}
use Rattle.std.proofs.lemmas.List.Sorted.{IsPermutation-cons, IsPermutation-middle, IsPermutation-refl, IsPermutation-trans}
use Rattle.std.proofs.Common.{sym}
use Rattle.std.proofs.lemmas.List.{append_assoc, append-nil}
use Rattle.clock_cell.specs.Views.{writes}
use Rattle.lane_notes.specs.Notes.{both_noted, no_notes, NotesOf}
use Rattle.std.proofs.lemmas.Bool.{eqb-true}
use Rattle.lane_notes.specs.declared.notes.ObjectNote.{ObjectNote}
use Rattle.lane_notes.proofs.Kept.{of_object, of_turn, turn_notes}

-- ---- what holds of each

-- what holds of each holds in a weaker form
pub each_weaker : {X : Type 0} {P Q : X → Type 0} (xs : List X) → ((x : X) → P x → Q x) → AllByRecursion P xs → AllByRecursion Q xs
each_weaker [] to all = tt
each_weaker (x ∷ xs) to all = (to x all.0, each_weaker xs to all.1)

-- what holds of each of two lists holds of both together
pub each_joined : {X : Type 0} {P Q R : X → Type 0} (xs ys : List X) → ((x : X) → P x → R x) → ((x : X) → Q x → R x) → AllByRecursion P xs
    → AllByRecursion Q ys → AllByRecursion R (xs ++ ys)
each_joined {R = R} xs ys left right one two = All-append R xs ys (each_weaker xs left one) (each_weaker ys right two)

-- ---- numbers that rise

-- things whose numbers rise from one number on, all below another
pub record RisesTo {X : Type 0} (low : ℕ) (xs : List (ℕ × X)) (high : ℕ) : Type 0 where
  pub rise : Rises low (map (λ n. n.0) xs)
  pub above : AllByRecursion (λ n. low ≤ n.0) xs
  pub below : AllByRecursion (λ n. n.0 < high) xs
  pub le : low ≤ high

-- law: none
pub rises_none : {X : Type 0} {low high : ℕ} → low ≤ high → RisesTo {X = X} low [] high
rises_none le = record { rise = tt; above = tt; below = tt; le = le }

-- what holds of each number holds by a test for one of them
by_number : (P : ℕ → Bool → Type 0) (i : ℕ) → P i true → ((j : ℕ) → P j false) → (j : ℕ) → P j (nat_eq i j)
by_number P i here apart j = by_test (nat_eq i j) (eqb-true i j)
  where
    by_test : (b : Bool) → (b ≡ true → i ≡ j) → P j b
    by_test true same = subst (λ k. P k true) (same refl) here
    by_test false same = apart j

-- law: one at most, in the list of this number
pub one_rises : {X : Type 0} (i number : ℕ) (thing : X) (low high : ℕ → ℕ) → low i ≤ number → number < high i → ((j : ℕ) → low j ≤ high j) → (j : ℕ)
    → RisesTo (low j) (also (nat_eq i j) (number, thing) []) (high j)
one_rises i number thing low high more less le =
    by_number (λ j b. RisesTo (low j) (also b (number, thing) []) (high j)) i
    (record { rise = (more, tt); above = (more, tt); below = (less, tt); le = le i }) (λ j. rises_none (le j))

-- law: behind them others that rise from there
pub rises_on : {X : Type 0} {low mid high : ℕ} {xs ys : List (ℕ × X)} → RisesTo low xs mid → RisesTo mid ys high → RisesTo low (xs ++ ys) high
rises_on {X = X} {low = low} {mid = mid} {xs = xs} {ys = ys} one two = record {
  rise = joined low xs one.le one.rise one.below;
  above = each_joined xs ys (λ x le. le) (λ x le. omega (arith, le, one.le)) one.above two.above;
  below = each_joined xs ys (λ x less. omega (arith, less, two.le)) (λ x less. less) one.below two.below;
  le = omega (arith, one.le, two.le);
}
  where
    joined : (from : ℕ) (zs : List (ℕ × X)) → from ≤ mid → Rises from (map (λ n. n.0) zs) → AllByRecursion (λ n. n.0 < mid) zs
        → Rises from (map (λ n. n.0) (zs ++ ys))
    joined from [] le rise below = rises_lower from mid (map (λ n. n.0) ys) le two.rise
    joined from (z ∷ zs) le rise below = let less = below.0 in (rise.0, joined (z.0 + 1) zs (omega (arith, less)) rise.1 below.1)

-- numbers that never fall from one number on never fall from a lower one
pub falls_lower : (low mid : ℕ) (xs : List ℕ) (high : ℕ) → low ≤ mid → NeverFall mid xs high → NeverFall low xs high
falls_lower low mid [] high le fall = omega (arith, le, fall)
falls_lower low mid (x ∷ xs) high le fall = (omega (arith, le, fall.0), fall.1)

-- ---- lists in two parts

-- an item in front of two parts, where it is there at all
pub also-append : {A : Type 0} (b : Bool) (x : A) (all front back : List A) → all ≡ front ++ back → also b x all ≡ also b x front ++ back
also-append true x all front back is = ap (λ xs. x ∷ xs) is
also-append false x all front back is = is

-- the looks of two parts
pub looked-append : (t : ℕ) (ds es : List Action) → looked t (ds ++ es) ≡ looked t ds ++ looked t es
looked-append t [] es = refl
looked-append t (Looked timer number reply ∷ ds) es = also-append (nat_eq timer t) (number, reply) _ _ _ (looked-append t ds es)
looked-append t (d ∷ ds) es = looked-append t ds es

-- the notes of two logs, of each kind
pub notes-append : {R N : Type 0} (note : R → Option N) (xs ys : List R) → present (map note (xs ++ ys)) ≡ present (map note xs) ++ present (map note ys)
notes-append note xs ys = ap present (map-append note xs ys) ∙ present-append (map note xs) (map note ys)

-- a permutation that is none
pub same_order : {A : Type 0} {xs ys : List A} → xs ≡ ys → IsPermutation xs ys
same_order {xs = xs} is = subst (IsPermutation xs) is (IsPermutation-refl xs)

-- notes are the same where each list of them is
pub notes_same : (a b : NotesOf) → a.entries ≡ b.entries → a.looks ≡ b.looks → a.objects ≡ b.objects → a.skips ≡ b.skips → a.bases ≡ b.bases
    → a.writes ≡ b.writes → a ≡ b
notes_same a b entries looks objects skips bases writes =
    λ i. record { entries = entries i; looks = looks i; objects = objects i; skips = skips i; bases = bases i; writes = writes i }

-- law: no receipts, no notes
pub no_notes-joins : (notes : NotesOf) → notes ≡ both_noted notes no_notes
no_notes-joins notes =
    notes_same notes (both_noted notes no_notes) (sym (append-nil notes.entries)) (sym (append-nil notes.looks)) (sym (append-nil notes.objects))
    (sym (append-nil notes.skips)) (sym (append-nil notes.bases)) (sym (append-nil notes.writes))

-- law: three lists of notes
pub both_noted-assoc : (a b c : NotesOf) → both_noted (both_noted a b) c ≡ both_noted a (both_noted b c)
both_noted-assoc a b c =
    notes_same (both_noted (both_noted a b) c) (both_noted a (both_noted b c)) (append_assoc a.entries b.entries c.entries)
    (append_assoc a.looks b.looks c.looks) (append_assoc a.objects b.objects c.objects) (append_assoc a.skips b.skips c.skips)
    (append_assoc a.bases b.bases c.bases) (append_assoc a.writes b.writes c.writes)

-- ---- turns of objects

-- law: of some notes first the beginnings of all turns and then all entries, or of each note both
pub turns_by_kind : (ns : List ObjectNote) → IsPermutation (map of_turn ns ++ map of_object ns) (turn_notes ns)
turns_by_kind [] = IsPermutation-refl []
turns_by_kind (n ∷ ns) =
    let begins = map of_turn ns in
    let ends = map of_object ns in
    IsPermutation-cons (of_turn n) _ _
    (IsPermutation-trans (begins ++ of_object n ∷ ends) (of_object n ∷ (begins ++ ends)) _ (IsPermutation-middle begins (of_object n) ends)
    (IsPermutation-cons (of_object n) _ _ (turns_by_kind ns)))
