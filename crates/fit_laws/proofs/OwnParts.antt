-- One list's part of the order of all entries: its own moves, and among those the ones of a call; and what a timer's part shows of its history.
use Rattle.std.proofs.Common.{◌≡◌, ◌≤◌, ℕ, ◌+◌, zero, suc, true, false, nat_eq, if◌then◌else◌, List, [], ◌∷◌, ◌++◌, filter, length, map, take, drop, Some, arith, refl, sym, ap, ◌∙◌}
use Rattle.std.specs.List.{AllByRecursion, slice_get}
use Rattle.std.proofs.lemmas.Option.{same_Some}
use Rattle.std.proofs.Math.Seq.{take-append_seam}
use Rattle.std.proofs.lemmas.Bool.{eq-eqb}
use Rattle.std.proofs.lemmas.List.{take-map}
use Rattle.record_text.specs.declared.record.Entry.{Entry}
use Rattle.record_text.specs.declared.record.Label.{Label}
use Rattle.record_text.specs.declared.record.TimerLine.{TimerLine}
use Rattle.run_history.specs.Actions.{Action, also, Began, Entered, entered, Looked, Made, own, Shifted, Signalled, Skipped, Wrote}
use Rattle.run_history.specs.Order.{is_before, is_label, IsInOrder, made_by}
use Rattle.script_text.specs.declared.script.Script.{Script}
use Rattle.run_history.specs.Witnesses.{Move, OfBase, OfRise, OfTimer, Owner, Shown, ShownLine, TimersList, is_owner, line_of_timer, moves_from, moves_on, owner_of}
use Rattle.run_history.specs.Traces.{all_entered, own_moves}
use Rattle.run_history.proofs.Owners.{owner_is}

-- ---- the moves of one list

-- a list's among the first so many, and among the others
pub on_take : (o : Owner) (n : ℕ) (ms : List Move) → take (length (moves_on o (take n ms))) (moves_on o ms) ≡ moves_on o (take n ms)
on_take o zero [] = refl
on_take o (suc n) [] = refl
on_take o zero (m ∷ ms) = refl
on_take o (suc n) (m ∷ ms) =
    elim (is_owner (owner_of m.shown) o) as (λ b. take (length (also b m (moves_on o (take n ms)))) (also b m (moves_on o ms))
    ≡ also b m (moves_on o (take n ms))) [
      | true ↦ ap (λ xs. m ∷ xs) (on_take o n ms)
      | false ↦ on_take o n ms
    ]

pub on_drop : (o : Owner) (n : ℕ) (ms : List Move) → drop (length (moves_on o (take n ms))) (moves_on o ms) ≡ moves_on o (drop n ms)
on_drop o zero [] = refl
on_drop o (suc n) [] = refl
on_drop o zero (m ∷ ms) = refl
on_drop o (suc n) (m ∷ ms) =
    elim (is_owner (owner_of m.shown) o) as (λ b. drop (length (also b m (moves_on o (take n ms)))) (also b m (moves_on o ms)) ≡ moves_on o (drop n ms)) [
      | true ↦ on_drop o n ms
      | false ↦ on_drop o n ms
    ]

-- a list has no fewer later
pub on_rises : (o : Owner) (ms : List Move) (a b : ℕ) → a ≤ b → length (moves_on o (take a ms)) ≤ length (moves_on o (take b ms))
on_rises o [] zero b le = omega arith
on_rises o [] (suc a) zero le = omega arith
on_rises o [] (suc a) (suc b) le = omega arith
on_rises o (m ∷ ms) zero b le = omega arith
on_rises o (m ∷ ms) (suc a) zero le = absurd (omega (arith, le))
on_rises o (m ∷ ms) (suc a) (suc b) le =
    let rest = on_rises o ms a b (omega (arith, le)) in
    elim (is_owner (owner_of m.shown) o) as (λ x. length (also x m (moves_on o (take a ms))) ≤ length (also x m (moves_on o (take b ms)))) [
      | true ↦ omega (arith, rest)
      | false ↦ rest
    ]

-- where a move stands among its list's, and how many of them it says to be before it
pub on_place : (o : Owner) (p : ℕ) (ms : List Move) (m : Move) → slice_get ms p ≡ Some m → owner_of m.shown ≡ o
    → slice_get (moves_on o ms) (length (moves_on o (take p ms))) ≡ Some m
on_place o p [] m at of = absurd (cc)
on_place o zero (x ∷ ms) m at of =
    ap (λ b. slice_get (also b x (moves_on o ms)) 0) (owner_is (owner_of x.shown) o (ap (λ (y : Move). owner_of y.shown) (same_Some x m at) ∙ of)) ∙ at
on_place o (suc p) (x ∷ ms) m at of =
    elim (is_owner (owner_of x.shown) o)
    as (λ b. slice_get (also b x (moves_on o ms)) (length (also b x (moves_on o (take p ms)))) ≡ Some m) [
      | true ↦ on_place o p ms m at of
      | false ↦ on_place o p ms m at of
    ]

-- at a move's place its list goes on by one
pub on_here : (o : Owner) (p : ℕ) (ms : List Move) (m : Move) → slice_get ms p ≡ Some m → owner_of m.shown ≡ o
    → length (moves_on o (take (suc p) ms)) ≡ suc (length (moves_on o (take p ms)))
on_here o p [] m there of = absurd (cc)
on_here o zero (x ∷ ms) m there of =
    ap (λ b. length (also b x [])) (owner_is (owner_of x.shown) o (ap (λ (y : Move). owner_of y.shown) (same_Some x m there) ∙ of))
on_here o (suc p) (x ∷ ms) m there of =
    elim (is_owner (owner_of x.shown) o)
    as (λ b. length (also b x (moves_on o (take (suc p) ms))) ≡ suc (length (also b x (moves_on o (take p ms))))) [
      | true ↦ ap suc (on_here o p ms m there of)
      | false ↦ on_here o p ms m there of
    ]

-- and another list doesn't
pub stays : (o : Owner) (p : ℕ) (ms : List Move) (m : Move) → slice_get ms p ≡ Some m → is_owner (owner_of m.shown) o ≡ false
    → length (moves_on o (take (suc p) ms)) ≡ length (moves_on o (take p ms))
stays o p [] m there not = absurd (cc)
stays o zero (x ∷ ms) m there not =
    ap (λ b. length (also b x [])) (ap (λ (y : Move). is_owner (owner_of y.shown) o) (same_Some x m there) ∙ not)
stays o (suc p) (x ∷ ms) m there not =
    elim (is_owner (owner_of x.shown) o)
    as (λ b. length (also b x (moves_on o (take (suc p) ms))) ≡ length (also b x (moves_on o (take p ms)))) [
      | true ↦ ap suc (stays o p ms m there not)
      | false ↦ stays o p ms m there not
    ]

-- a line taken as a move says its own place
pub before_at : (b k : ℕ) (lines : List ShownLine) (m : Move) → slice_get (moves_from b lines) k ≡ Some m → b + k ≡ m.before
before_at b k [] m at = absurd (cc)
before_at b zero (l ∷ lines) m at = none b ∙ ap (λ (y : Move). y.before) (same_Some _ m at)
  where
    none : (b : ℕ) → b + 0 ≡ b
    none b = omega arith
before_at b (suc k) (l ∷ lines) m at = further b k ∙ before_at (b + 1) k lines m at
  where
    further : (b k : ℕ) → b + suc k ≡ b + 1 + k
    further b k = omega arith

-- the first so many lines are the first so many moves
pub take_from : (b n : ℕ) (lines : List ShownLine) → moves_from b (take n lines) ≡ take n (moves_from b lines)
take_from b zero [] = refl
take_from b (suc n) [] = refl
take_from b zero (l ∷ lines) = refl
take_from b (suc n) (l ∷ lines) = ap (λ xs. record { before = b; label = l.label; shown = l.shown } ∷ xs) (take_from (b + 1) n lines)

-- what holds of all labels holds of a list's
pub all_on : (P : Label → Type 0) (o : Owner) (ms : List Move) → AllByRecursion P (map (λ m. m.label) ms)
    → AllByRecursion P (map (λ m. m.label) (moves_on o ms))
all_on P o [] all = tt
all_on P o (m ∷ ms) all = elim (is_owner (owner_of m.shown) o) as (λ b. AllByRecursion P (map (λ m. m.label) (also b m (moves_on o ms)))) [
  | true ↦ (all.0, all_on P o ms all.1)
  | false ↦ all_on P o ms all.1
]

-- and labels that are in order are so along a list
pub order_on : (s : Script) (o : Owner) (ms : List Move) → IsInOrder s (map (λ m. m.label) ms) → IsInOrder s (map (λ m. m.label) (moves_on o ms))
order_on s o [] all = tt
order_on s o (m ∷ ms) all = elim (is_owner (owner_of m.shown) o) as (λ b. IsInOrder s (map (λ m. m.label) (also b m (moves_on o ms)))) [
  | true ↦ (all_on (λ y. is_before s y m.label ≡ false) o ms all.0, order_on s o ms all.1)
  | false ↦ order_on s o ms all.1
]

-- a list's moves bear the labels of its lines
pub labels_of_lines : {L : Type 0} (line : L → ShownLine) (b : ℕ) (lines : List L)
    → map (λ m. m.label) (moves_from b (map line lines)) ≡ map (λ l. (line l).label) lines
labels_of_lines line b [] = refl
labels_of_lines line b (l ∷ lines) = ap (λ xs. (line l).label ∷ xs) (labels_of_lines line (b + 1) lines)

-- ---- the moves of a call

-- a call's moves are as many as their labels
pub count_moves : (c : Label) (ms : List Move) → made_by c (map (λ m. m.label) ms) ≡ length (own_moves c ms)
count_moves c [] = refl
count_moves c (m ∷ ms) =
    elim (is_label c m.label) as (λ b. length (if b then m.label ∷ filter (is_label c) (map (λ m. m.label) ms)
    else filter (is_label c) (map (λ m. m.label) ms)) ≡ length (also b (m.before + 1, m.shown) (own_moves c ms))) [
      | true ↦ ap suc (count_moves c ms)
      | false ↦ count_moves c ms
    ]

own_take : (c : Label) (n : ℕ) (ms : List Move) → own_moves c (take n ms) ≡ take (length (own_moves c (take n ms))) (own_moves c ms)
own_take c zero [] = refl
own_take c (suc n) [] = refl
own_take c zero (m ∷ ms) = refl
own_take c (suc n) (m ∷ ms) =
    let e : ℕ × Shown = (m.before + 1, m.shown) in
    elim (is_label c m.label) as (λ b. also b e (own_moves c (take n ms))
    ≡ take (length (also b e (own_moves c (take n ms)))) (also b e (own_moves c ms))) [
      | true ↦ ap (λ xs. e ∷ xs) (own_take c n ms)
      | false ↦ own_take c n ms
    ]

-- the first so many moves have of the call what it had done by then
pub own_early : (c : Label) (n : ℕ) (ms : List Move) (early late : List (ℕ × Shown)) → own_moves c ms ≡ early ++ late
    → made_by c (take n (map (λ m. m.label) ms)) ≡ length early → own_moves c (take n ms) ≡ early
own_early c n ms early late own many =
    let count : length (own_moves c (take n ms)) ≡ length early = sym (count_moves c (take n ms))
    ∙ ap (made_by c) (sym (take-map (λ (m : Move). m.label) n ms)) ∙ many in
    own_take c n ms ∙ ap (λ k. take k (own_moves c ms)) count ∙ ap (take (length early)) own ∙ take-append_seam early late

-- a call has made no fewer of its entries later
pub own_rises : (c : Label) (ms : List Move) (a b : ℕ) → a ≤ b → length (own_moves c (take a ms)) ≤ length (own_moves c (take b ms))
own_rises c [] zero b le = omega arith
own_rises c [] (suc a) zero le = omega arith
own_rises c [] (suc a) (suc b) le = omega arith
own_rises c (m ∷ ms) zero b le = omega arith
own_rises c (m ∷ ms) (suc a) zero le = absurd (omega (arith, le))
own_rises c (m ∷ ms) (suc a) (suc b) le =
    let rest = own_rises c ms a b (omega (arith, le)) in
    elim (is_label c m.label) as (λ x. length (also x (m.before + 1, m.shown) (own_moves c (take a ms)))
    ≤ length (also x (m.before + 1, m.shown) (own_moves c (take b ms)))) [
      | true ↦ omega (arith, rest)
      | false ↦ rest
    ]

-- those of a call that are of one timer
abbrev pub timers_part : ℕ → ℕ → Shown → List (ℕ × Entry) → List (ℕ × Entry)
timers_part t number (OfTimer u entry) rest = also (nat_eq u t) (number, entry) rest
timers_part t number (OfBase b event) rest = rest
timers_part t number (OfRise k) rest = rest

abbrev pub of_timer : ℕ → List (ℕ × Shown) → List (ℕ × Entry)
of_timer t [] = []
of_timer t (e ∷ es) = timers_part t e.0 e.1 (of_timer t es)

-- of what a call did, they are its entries of the timer
pub of_timer-entered : (t : ℕ) (ds : List Action) → of_timer t (all_entered ds) ≡ entered t ds
of_timer-entered t [] = refl
of_timer-entered t (Wrote number write ∷ ds) = of_timer-entered t ds
of_timer-entered t (Entered timer number entry ∷ ds) = ap (also (nat_eq timer t) (number, entry)) (of_timer-entered t ds)
of_timer-entered t (Looked timer number reply ∷ ds) = of_timer-entered t ds
of_timer-entered t (Began i stamp ∷ ds) = of_timer-entered t ds
of_timer-entered t (Made i number entry ∷ ds) = of_timer-entered t ds
of_timer-entered t (Skipped i number generation ∷ ds) = of_timer-entered t ds
of_timer-entered t (Shifted base number event ∷ ds) = of_timer-entered t ds
of_timer-entered t (Signalled counter number signal ∷ ds) = of_timer-entered t ds

-- an entry of another list adds nothing
part_else : (t number : ℕ) (shown : Shown) (rest : List (ℕ × Entry)) → is_owner (owner_of shown) (TimersList t) ≡ false
    → timers_part t number shown rest ≡ rest
part_else t number (OfTimer u entry) rest not = ap (λ b. also b (number, entry) rest) not
part_else t number (OfBase b event) rest not = refl
part_else t number (OfRise k) rest not = refl

-- of the order, they are those of the timer's own moves
pub of_timer-on : (c : Label) (t : ℕ) (ms : List Move) → of_timer t (own_moves c (moves_on (TimersList t) ms)) ≡ of_timer t (own_moves c ms)
of_timer-on c t [] = refl
of_timer-on c t (m ∷ ms) =
    let o = TimersList t in
    let e : ℕ × Shown = (m.before + 1, m.shown) in
    elim (is_label c m.label) as (λ x. is_label c m.label ≡ x
    → of_timer t (own_moves c (also (is_owner (owner_of m.shown) o) m (moves_on o ms))) ≡ of_timer t (also x e (own_moves c ms))) [
      | true ↦ λ is. elim (is_owner (owner_of m.shown) o) as (λ b. is_owner (owner_of m.shown) o ≡ b
          → of_timer t (own_moves c (also b m (moves_on o ms))) ≡ timers_part t e.0 e.1 (of_timer t (own_moves c ms))) [
            | true ↦ λ on. ap (λ x. of_timer t (also x e (own_moves c (moves_on o ms)))) is ∙ ap (timers_part t e.0 e.1) (of_timer-on c t ms)
            | false ↦ λ on. of_timer-on c t ms ∙ sym (part_else t e.0 e.1 (of_timer t (own_moves c ms)) on)
          ] refl
      | false ↦ λ is. elim (is_owner (owner_of m.shown) o) as (λ b. of_timer t (own_moves c (also b m (moves_on o ms))) ≡ of_timer t (own_moves c ms)) [
        | true ↦ ap (λ x. of_timer t (also x e (own_moves c (moves_on o ms)))) is ∙ of_timer-on c t ms
        | false ↦ of_timer-on c t ms
      ]
    ] refl

-- and of a timer's lines, those that bear the call's label
pub of_timer-from : (c : Label) (t b : ℕ) (lines : List TimerLine)
    → of_timer t (own_moves c (moves_from b (map (line_of_timer t) lines))) ≡ own (λ line. line.label) (λ line. line.entry) c (b + 1) lines
of_timer-from c t b [] = refl
of_timer-from c t b (l ∷ lines) =
    let rest = own_moves c (moves_from (b + 1) (map (line_of_timer t) lines)) in
    elim (is_label c l.label) as (λ x. of_timer t (also x (b + 1, OfTimer t l.entry) rest)
    ≡ also x (b + 1, l.entry) (own (λ line. line.label) (λ line. line.entry) c (b + 1 + 1) lines)) [
      | true ↦ ap (λ x. also x (b + 1, l.entry) (of_timer t rest)) (eq-eqb t t refl) ∙ ap (λ xs. (b + 1, l.entry) ∷ xs) (of_timer-from c t (b + 1) lines)
      | false ↦ of_timer-from c t (b + 1) lines
    ]
