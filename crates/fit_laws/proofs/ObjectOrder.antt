-- In a record that fits each entry of an object bears the label of a call, and these keep the order of calls.
use Rattle.std.proofs.Common.{◌≡◌, ◌<◌, ◌≤◌, ℕ, ◌+◌, suc, false, List, [], ◌∷◌, ◌++◌, length, arith, refl, ap, map, sym, ◌∙◌, subst}
use Rattle.std.specs.List.{AllByRecursion}
use Rattle.std.proofs.Math.Logic.{⊎_elim}
use Rattle.std.proofs.lemmas.Bool.{cases_lt}
use Rattle.std.proofs.lemmas.List.{append-nil, get_or_past}
use Rattle.record_text.specs.declared.record.Label.{Label}
use Rattle.record_text.specs.declared.record.ObjectLine.{ObjectLine}
use Rattle.script_text.specs.declared.script.Script.{Script}
use Rattle.run_history.specs.Fits.{FitsIn}
use Rattle.run_history.specs.Objects.{lines_of_object, object_labels}
use Rattle.run_history.specs.Order.{is_before, IsInOrder, IsLabel}
use Rattle.run_history.specs.Witnesses.{CountersList, Witness, line_of_object, line_of_signal, lines_at, moves_from, moves_on, twice}
use Rattle.fit_laws.proofs.OwnParts.{all_on, order_on}
use Rattle.fit_laws.proofs.OwnPoints.{lists_in}

-- the lines of an object of the script are its record's, each twice
pub own_lines : (w : Witness) → FitsIn w → (i : ℕ) → i < length w.script.timers
    → lines_at (lists_in w) (CountersList (suc i)) ≡ twice (map (line_of_object i) (lines_of_object w.run i))
own_lines w f i its =
    let lines = twice (map (line_of_object i) (lines_of_object w.run i)) in
    ap (λ ls. lines ++ map (line_of_signal (suc i)) ls) (f.signals.others i its) ∙ append-nil lines

-- past those there are none
pub no_lines : (w : Witness) → FitsIn w → (i : ℕ) → length w.script.timers ≤ i → lines_of_object w.run i ≡ []
no_lines w f i past = get_or_past w.run.objects i [] (omega (arith, f.objects, past))

-- what holds along the labels of a list's moves holds along an object's lines, where it holds of none, and of those of which each stands twice
along_lines : (P : List Label → Type 0) (w : Witness) (f : FitsIn w) (i : ℕ) → P []
    → ((xs : List Label) → P (twice xs) → P xs) → P (map (λ m. m.label) (moves_on (CountersList (suc i)) w.moves)) → P (object_labels w.run i)
along_lines P w f i none once all = ⊎_elim
    (λ (its : i < length w.script.timers). once (object_labels w.run i) (subst P (ap (map (λ m. m.label))
    (f.history.all (CountersList (suc i)) ∙ ap (moves_from 0) (own_lines w f i its)) ∙ of_lines 0 (lines_of_object w.run i)) all))
    (λ (past : length w.script.timers ≤ i). subst (λ ls. P (map (λ line. line.label) ls)) (sym (no_lines w f i past)) none)
    (cases_lt i (length w.script.timers))
  where
    of_lines : (b : ℕ) (lines : List ObjectLine)
        → map (λ m. m.label) (moves_from b (twice (map (line_of_object i) lines))) ≡ twice (map (λ line. line.label) lines)
    of_lines b [] = refl
    of_lines b (l ∷ lines) = ap (λ xs. l.label ∷ l.label ∷ xs) (of_lines (b + 1 + 1) lines)

all_once : (P : Label → Type 0) (xs : List Label) → AllByRecursion P (twice xs) → AllByRecursion P xs
all_once P [] all = tt
all_once P (x ∷ xs) all = (all.0, all_once P xs all.1.1)

order_once : (s : Script) (xs : List Label) → IsInOrder s (twice xs) → IsInOrder s xs
order_once s [] order = tt
order_once s (x ∷ xs) order = (all_once (λ y. is_before s y x ≡ false) xs order.0.1, order_once s xs order.1.1)

-- law: each entry of an object bears the label of a call
pub objects_called : (w : Witness) → FitsIn w → (i : ℕ) → AllByRecursion (IsLabel w.script) (object_labels w.run i)
objects_called w f i =
    along_lines (AllByRecursion (IsLabel w.script)) w f i tt (all_once (IsLabel w.script))
    (all_on (IsLabel w.script) (CountersList (suc i)) w.moves f.move_calls)

-- law: and they keep the order of calls
pub objects_in_order : (w : Witness) → FitsIn w → (i : ℕ) → IsInOrder w.script (object_labels w.run i)
objects_in_order w f i =
    along_lines (IsInOrder w.script) w f i tt (order_once w.script) (order_on w.script (CountersList (suc i)) w.moves f.order)
