-- What hangs under the lines of a list, looks under a timer's entries and refused expiries under an object's: a call's are its receipts of them. It has
-- at most one look under each line; of its refused expiries under one line the order is left open.
use Rattle.std.proofs.Common.{◌≡◌, ◌||◌, ◌&&◌, ℕ, ◌+◌, true, false, nat_eq, nat_lt, List, [], ◌∷◌, ◌++◌, filter, map, arith, refl, sym, ap, ◌∙◌, subst}
use Rattle.std.specs.List.{AllByRecursion}
use Rattle.std.specs.List.Sorted.{IsPermutation}
use Rattle.std.proofs.lemmas.List.Sorted.{IsPermutation-map, IsPermutation-trans}
use Rattle.std.proofs.lemmas.List.{map-append}
use Rattle.std.proofs.lemmas.List.Elements.{filter-append}
use Rattle.run_history.proofs.Permuted.{filter_permuted}
use mathlib.Core.Bool.{cond}
use Rattle.std.proofs.lemmas.Bool.Decides.{nat_tests}
use Rattle.std.proofs.lemmas.Bool.{false≢true}
use Rattle.record_text.specs.declared.record.CallbackReply.{CallbackReply}
use Rattle.record_text.specs.declared.record.Label.{Label}
use Rattle.record_text.specs.declared.record.Look.{Look}
use Rattle.record_text.specs.declared.record.ObjectLine.{ObjectLine}
use Rattle.record_text.specs.declared.record.Skip.{Skip}
use Rattle.record_text.specs.declared.record.TimerLine.{TimerLine}
use Rattle.run_history.specs.Actions.{also, looks_under, own_looks, own_skips, skips_under}
use Rattle.run_history.specs.Order.{AreSorted, is_label, is_lower}
use Rattle.run_history.proofs.Items.{lower, RiseIn, same_risen}
use Rattle.run_history.proofs.Labels.{same_label}

not_lower : (c : Label) → is_lower c c ≡ false
not_lower c = neither c.lane c.call
  where
    neither : (l k : ℕ) → (nat_lt l l || (nat_eq l l && nat_lt k k)) ≡ false
    neither l k = grind (arith, nat_tests)

-- ---- lines of a kind, under each of which things hang that bear a label and show something

-- the things of a call under one line
abbrev under : {L A : Type 0} → (L → Label) → (L → A) → Label → ℕ → List L → List (ℕ × A)
under label shown c k [] = []
under label shown c k (l ∷ ls) = also (is_label c (label l)) (k, shown l) (under label shown c k ls)

-- and under lines that are numbered from here
abbrev own_under : {X L A : Type 0} → (X → List L) → (L → Label) → (L → A) → Label → ℕ → List X → List (ℕ × A)
own_under hung label shown c k [] = []
own_under hung label shown c k (x ∷ xs) = under label shown c k (hung x) ++ own_under hung label shown c (k + 1) xs

-- all that hangs under lines that are numbered from here, each with its label and number
abbrev pub all_under : {X L A : Type 0} → (X → List L) → (L → Label) → (L → A) → ℕ → List X → List (Label × (ℕ × A))
all_under hung label shown k [] = []
all_under hung label shown k (x ∷ xs) = map (λ l. (label l, (k, shown l))) (hung x) ++ all_under hung label shown (k + 1) xs

-- those of a call
abbrev pub of_call : {A : Type 0} → Label → List (Label × A) → List A
of_call c es = map (λ e. e.1) (filter (λ e. is_label c e.0) es)

of_call-append : {A : Type 0} (c : Label) (xs ys : List (Label × A)) → of_call c (xs ++ ys) ≡ of_call c xs ++ of_call c ys
of_call-append {A = A} c xs ys =
    ap (map (λ (e : Label × A). e.1)) (filter-append (λ (e : Label × A). is_label c e.0) xs ys)
    ∙ map-append (λ (e : Label × A). e.1) (filter (λ e. is_label c e.0) xs) (filter (λ e. is_label c e.0) ys)

module _ {X L A : Type 0} (hung : X → List L) (label : L → Label) (shown : L → A) (c : Label) where
  under_of_call : (k : ℕ) (ls : List L) → under label shown c k ls ≡ of_call c (map {B = Label × (ℕ × A)} (λ l. (label l, (k, shown l))) ls)
  under_of_call k [] = refl
  under_of_call k (l ∷ ls) =
      let rest = filter (λ (e : Label × (ℕ × A)). is_label c e.0) (map (λ m. (label m, (k, shown m))) ls) in
      elim (is_label c (label l)) as (λ b. also b (k, shown l) (under label shown c k ls) ≡ map (λ e. e.1) (cond b ((label l, (k, shown l)) ∷ rest) rest)) [
        | true ↦ ap (λ xs. (k, shown l) ∷ xs) (under_of_call k ls)
        | false ↦ under_of_call k ls
      ]

  own_of_call : (k : ℕ) (xs : List X) → own_under hung label shown c k xs ≡ of_call c (all_under hung label shown k xs)
  own_of_call k [] = refl
  own_of_call k (x ∷ xs) =
      ap (λ ys. ys ++ own_under hung label shown c (k + 1) xs) (under_of_call k (hung x))
      ∙ ap (λ ys. of_call c (map {B = Label × (ℕ × A)} (λ l. (label l, (k, shown l))) (hung x)) ++ ys) (own_of_call (k + 1) xs)
      ∙ sym (of_call-append c (map {B = Label × (ℕ × A)} (λ l. (label l, (k, shown l))) (hung x)) (all_under hung label shown (k + 1) xs))

  -- under one line a call has at most one thing, as labels stand in strict order there
  none_behind : (d : Label) (k : ℕ) (ls : List L) → is_label c d ≡ true → AllByRecursion (λ other. is_lower d other ≡ true) (map label ls)
      → under label shown c k ls ≡ []
  none_behind d k [] is all = refl
  none_behind d k (l ∷ ls) is all =
      elim (is_label c (label l)) as (λ b. is_label c (label l) ≡ b → also b (k, shown l) (under label shown c k ls) ≡ []) [
        | true ↦ λ own. absurd (false≢true (sym (not_lower c)
            ∙ subst (λ x. is_lower x c ≡ true) (same_label c d is) (subst (λ x. is_lower d x ≡ true) (same_label c (label l) own) all.0)))
        | false ↦ λ own. none_behind d k ls is all.1
      ] refl

  rise_line : (k : ℕ) (ls : List L) (rest : List (ℕ × A)) → AreSorted (map label ls) → RiseIn (k + 1) rest → RiseIn k (under label shown c k ls ++ rest)
  rise_line k [] rest sorted rise = lower k (k + 1) rest (omega arith) rise
  rise_line k (l ∷ ls) rest sorted rise =
      elim (is_label c (label l)) as (λ b. is_label c (label l) ≡ b → RiseIn k (also b (k, shown l) (under label shown c k ls) ++ rest)) [
        | true ↦ λ is. (omega arith, subst (λ xs. RiseIn (k + 1) (xs ++ rest)) (sym (none_behind (label l) k ls is sorted.0)) rise)
        | false ↦ λ is. rise_line k ls rest sorted.1 rise
      ] refl

  things_rise : (k : ℕ) (xs : List X) → AllByRecursion (λ x. AreSorted (map label (hung x))) xs → RiseIn k (own_under hung label shown c k xs)
  things_rise k [] sorted = tt
  things_rise k (x ∷ xs) sorted = rise_line k (hung x) (own_under hung label shown c (k + 1) xs) sorted.0 (things_rise (k + 1) xs sorted.1)

  -- where all are these in some order, and those of a call among them are its receipts in some order, so are those under the call's label
  permuted : (xs : List X) (all : List (Label × (ℕ × A))) (items : List (ℕ × A)) → IsPermutation (all_under hung label shown 1 xs) all
      → IsPermutation (of_call c all) items → IsPermutation (own_under hung label shown c 1 xs) items
  permuted xs all items same own =
      subst (λ ys. IsPermutation ys items) (sym (own_of_call 1 xs))
      (IsPermutation-trans (of_call c (all_under hung label shown 1 xs)) (of_call c all) items
      (IsPermutation-map (λ (e : Label × (ℕ × A)). e.1) (filter (λ e. is_label c e.0) (all_under hung label shown 1 xs)) (filter (λ e. is_label c e.0) all)
      (filter_permuted (λ (e : Label × (ℕ × A)). is_label c e.0) (all_under hung label shown 1 xs) all same)) own)

-- ---- looks

looks_are_under : (c : Label) (k : ℕ) (ls : List Look) → looks_under c k ls ≡ under (λ l. l.label) (λ l. l.reply) c k ls
looks_are_under c k [] = refl
looks_are_under c k (l ∷ ls) = ap (also (is_label c l.label) (k, l.reply)) (looks_are_under c k ls)

own_looks_under : (c : Label) (k : ℕ) (lines : List TimerLine) → own_looks c k lines ≡ own_under (λ line. line.looks) (λ l. l.label) (λ l. l.reply) c k lines
own_looks_under c k [] = refl
own_looks_under c k (line ∷ lines) =
    ap (λ xs. xs ++ own_looks c (k + 1) lines) (looks_are_under c k line.looks)
    ∙ ap (λ ys. under (λ l. l.label) (λ l. l.reply) c k line.looks ++ ys) (own_looks_under c (k + 1) lines)

-- all looks under a timer's lines
abbrev pub all_looks : ℕ → List TimerLine → List (Label × (ℕ × CallbackReply))
all_looks k lines = all_under (λ line. line.looks) (λ l. l.label) (λ l. l.reply) k lines

-- law: the looks under the call's label are its receipts of looks, in the order of their numbers
pub own_looks_are : (c : Label) (lines : List TimerLine) (all : List (Label × (ℕ × CallbackReply))) (items : List (ℕ × CallbackReply))
    → AllByRecursion (λ line. AreSorted (map (λ l. l.label) line.looks)) lines → IsPermutation (all_looks 1 lines) all → IsPermutation (of_call c all) items
    → RiseIn 1 items → own_looks c 1 lines ≡ items
own_looks_are c lines all items sorted same own rise =
    own_looks_under c 1 lines ∙ same_risen (own_under (λ line. line.looks) (λ l. l.label) (λ l. l.reply) c 1 lines) items
    (permuted (λ line. line.looks) (λ l. l.label) (λ l. l.reply) c lines all items same own)
    (things_rise (λ line. line.looks) (λ l. l.label) (λ l. l.reply) c 1 lines sorted) rise

-- ---- refused expiries

skips_are_under : (c : Label) (k : ℕ) (ls : List Skip) → skips_under c k ls ≡ under (λ l. l.label) (λ l. l.generation) c k ls
skips_are_under c k [] = refl
skips_are_under c k (l ∷ ls) = ap (also (is_label c l.label) (k, l.generation)) (skips_are_under c k ls)

own_skips_under : (c : Label) (k : ℕ) (lines : List ObjectLine)
    → own_skips c k lines ≡ own_under (λ line. line.skips) (λ l. l.label) (λ l. l.generation) c k lines
own_skips_under c k [] = refl
own_skips_under c k (line ∷ lines) =
    ap (λ xs. xs ++ own_skips c (k + 1) lines) (skips_are_under c k line.skips)
    ∙ ap (λ ys. under (λ l. l.label) (λ l. l.generation) c k line.skips ++ ys) (own_skips_under c (k + 1) lines)

-- all that were refused under an object's lines
abbrev pub all_skips : ℕ → List ObjectLine → List (Label × (ℕ × ℕ))
all_skips k lines = all_under (λ line. line.skips) (λ l. l.label) (λ l. l.generation) k lines

-- law: the refused expiries under the call's label are its receipts of them, in some order
pub own_skips_are : (c : Label) (lines : List ObjectLine) (all : List (Label × (ℕ × ℕ))) (items : List (ℕ × ℕ)) → IsPermutation (all_skips 1 lines) all
    → IsPermutation (of_call c all) items → IsPermutation (own_skips c 1 lines) items
own_skips_are c lines all items same own =
    subst (λ xs. IsPermutation xs items) (sym (own_skips_under c 1 lines))
    (permuted (λ line. line.skips) (λ l. l.label) (λ l. l.generation) c lines all items same own)
