-- Pushes and pops with the calls that made them, and of each counter the signals of its rises: those of a call have their numbers along the whole.
use Rattle.std.proofs.Common.{◌≡◌, ℕ, ◌+◌, ◌&&◌, Bool, true, false, nat_eq, List, [], ◌∷◌, ◌++◌, length, map, take, arith, refl, sym, ap, ◌∙◌, subst}
use Rattle.std.specs.List.{AllByRecursion}
use Rattle.std.proofs.Math.Bool.{and_comm}
use Rattle.std.proofs.lemmas.Bool.{eq-eqb, eqb-true, ne_eqb}
use Rattle.std.proofs.lemmas.List.{append_assoc, length-append, take-append-le, take_all}
use Rattle.pass_names.specs.Counts.{one_if}
use Rattle.lane_notes.proofs.Kept.{IsOfQueued, signal_at, signals_of}
use Rattle.record_text.specs.declared.record.Label.{Label}
use Rattle.run_history.specs.Actions.{Action, Began, Entered, Looked, Made, Shifted, Signalled, Skipped, Wrote, also, own, signalled}
use Rattle.run_history.specs.Order.{is_label}
use Rattle.run_history.specs.Signals.{SendsSignals, SignalLine, pop_counter, push_counter, signals_in}
use Rattle.script_text.specs.Declarations.{kind_of}
use Rattle.script_text.specs.declared.script.Script.{Script}
use Rattle.signal_queue.specs.Turns.{popped, pushed}
use Rattle.signal_queue.specs.declared.signal.Signal.{Signal}
use Rattle.signal_queue.specs.declared.signal.Turn.{Turn}
use Rattle.signal_queue.specs.declared.signal.Turn.TheVariants.{Popped, Pushed}

-- a push or a pop with the call that made it
abbrev pub SignalMove : Type 0
SignalMove = Label × Turn

abbrev pub turns_in : List SignalMove → List Turn
turns_in ms = map (λ m. m.1) ms

-- the counter that a push or a pop raises, and its signal
abbrev pub counter_of : Script → Turn → ℕ
counter_of s (Pushed x) = push_counter s
counter_of s (Popped x) = pop_counter s

abbrev pub signal_of : Turn → Signal
signal_of (Pushed x) = x
signal_of (Popped x) = x

abbrev pub line_of : SignalMove → SignalLine
line_of m = record { label = m.0; signal = signal_of m.1 }

-- the signals of a counter's rises
abbrev pub lines_on : Script → ℕ → List SignalMove → List SignalLine
lines_on s k [] = []
lines_on s k (m ∷ ms) = also (nat_eq (counter_of s m.1) k) (line_of m) (lines_on s k ms)

-- ---- how many there are

differ : (s : Script) → push_counter s ≡ pop_counter s → ⊥
differ s is = omega (arith, is)

back : (s : Script) → pop_counter s ≡ push_counter s → ⊥
back s is = omega (arith, is)

-- law: the signals of the counter of pushes are those that were pushed, and the same of pops
pub lines_pushed : (s : Script) (ms : List SignalMove) → signals_in (lines_on s (push_counter s) ms) ≡ pushed (turns_in ms)
lines_pushed s [] = refl
lines_pushed s ((c, Pushed x) ∷ ms) =
    let k = push_counter s in
    ap (λ b. signals_in (also b (line_of (c, Pushed x)) (lines_on s k ms))) (eq-eqb k k refl) ∙ ap (λ xs. x ∷ xs) (lines_pushed s ms)
lines_pushed s ((c, Popped x) ∷ ms) =
    let k = push_counter s in
    ap (λ b. signals_in (also b (line_of (c, Popped x)) (lines_on s k ms))) (ne_eqb (pop_counter s) k (back s)) ∙ lines_pushed s ms

pub lines_popped : (s : Script) (ms : List SignalMove) → signals_in (lines_on s (pop_counter s) ms) ≡ popped (turns_in ms)
lines_popped s [] = refl
lines_popped s ((c, Pushed x) ∷ ms) =
    let k = pop_counter s in
    ap (λ b. signals_in (also b (line_of (c, Pushed x)) (lines_on s k ms))) (ne_eqb (push_counter s) k (differ s)) ∙ lines_popped s ms
lines_popped s ((c, Popped x) ∷ ms) =
    let k = pop_counter s in
    ap (λ b. signals_in (also b (line_of (c, Popped x)) (lines_on s k ms))) (eq-eqb k k refl) ∙ ap (λ xs. x ∷ xs) (lines_popped s ms)

-- law: another counter has none
pub lines_none : (s : Script) (k : ℕ) → (push_counter s ≡ k → ⊥) → (pop_counter s ≡ k → ⊥) → (ms : List SignalMove) → lines_on s k ms ≡ []
lines_none s k no_push no_pop [] = refl
lines_none s k no_push no_pop ((c, Pushed x) ∷ ms) =
    ap (λ b. also b (line_of (c, Pushed x)) (lines_on s k ms)) (ne_eqb (push_counter s) k no_push) ∙ lines_none s k no_push no_pop ms
lines_none s k no_push no_pop ((c, Popped x) ∷ ms) =
    ap (λ b. also b (line_of (c, Popped x)) (lines_on s k ms)) (ne_eqb (pop_counter s) k no_pop) ∙ lines_none s k no_push no_pop ms

-- law: what is pushed is of a queued timer where each push is
pub lines_queued : (s : Script) (ms : List SignalMove) → AllByRecursion (IsOfQueued s) (turns_in ms)
    → AllByRecursion (λ line. SendsSignals (kind_of s line.signal.timer)) (lines_on s (push_counter s) ms)
lines_queued s [] all = tt
lines_queued s ((c, Pushed x) ∷ ms) all =
    let k = push_counter s in
    subst (λ b. AllByRecursion (λ line. SendsSignals (kind_of s line.signal.timer)) (also b (line_of (c, Pushed x)) (lines_on s k ms)))
    (sym (eq-eqb k k refl)) (all.0, lines_queued s ms all.1)
lines_queued s ((c, Popped x) ∷ ms) all =
    let k = push_counter s in
    subst (λ b. AllByRecursion (λ line. SendsSignals (kind_of s line.signal.timer)) (also b (line_of (c, Popped x)) (lines_on s k ms)))
    (sym (ne_eqb (pop_counter s) k (back s))) (lines_queued s ms all.1)

-- ---- the rises of a counter among a call's

-- of these rises those of a counter
abbrev pub rises_on : ℕ → List (ℕ × (ℕ × Signal)) → List (ℕ × Signal)
rises_on k [] = []
rises_on k (x ∷ xs) = also (nat_eq x.0 k) x.1 (rises_on k xs)

-- law: what a call did to a counter is of its pushes and pops
pub signalled_of : (k : ℕ) (ds : List Action) → signalled k ds ≡ rises_on k (signals_of ds)
signalled_of k [] = refl
signalled_of k (Wrote number write ∷ ds) = signalled_of k ds
signalled_of k (Entered timer number entry ∷ ds) = signalled_of k ds
signalled_of k (Looked timer number reply ∷ ds) = signalled_of k ds
signalled_of k (Began i stamp ∷ ds) = signalled_of k ds
signalled_of k (Made i number entry ∷ ds) = signalled_of k ds
signalled_of k (Skipped i number generation ∷ ds) = signalled_of k ds
signalled_of k (Shifted base number event ∷ ds) = signalled_of k ds
signalled_of k (Signalled counter number signal ∷ ds) = ap (also (nat_eq counter k) (number, signal)) (signalled_of k ds)

-- how many of these raise a counter
abbrev many_on : Script → ℕ → List Turn → ℕ
many_on s k [] = 0
many_on s k (t ∷ ts) = one_if (nat_eq (counter_of s t) k) + many_on s k ts

many_pushed : (s : Script) (ts : List Turn) → many_on s (push_counter s) ts ≡ length (pushed ts)
many_pushed s [] = refl
many_pushed s (Pushed x ∷ ts) = omega (arith, ap one_if (eq-eqb (push_counter s) (push_counter s) refl), many_pushed s ts)
many_pushed s (Popped x ∷ ts) = omega (arith, ap one_if (ne_eqb (pop_counter s) (push_counter s) (back s)), many_pushed s ts)

many_popped : (s : Script) (ts : List Turn) → many_on s (pop_counter s) ts ≡ length (popped ts)
many_popped s [] = refl
many_popped s (Pushed x ∷ ts) = omega (arith, ap one_if (ne_eqb (push_counter s) (pop_counter s) (differ s)), many_popped s ts)
many_popped s (Popped x ∷ ts) = omega (arith, ap one_if (eq-eqb (pop_counter s) (pop_counter s) refl), many_popped s ts)

many_behind : (s : Script) (k : ℕ) (ts : List Turn) (t : Turn) → many_on s k (ts ++ t ∷ []) ≡ many_on s k ts + one_if (nat_eq (counter_of s t) k)
many_behind s k [] t = omega arith
many_behind s k (u ∷ ts) t = omega (arith, many_behind s k ts t)

-- a push or a pop behind these, as a rise
abbrev rise_behind : Script → List Turn → Turn → ℕ → ℕ × Signal
rise_behind s before t k = (many_on s k before + 1, signal_of t)

at_seam : (s : Script) (before : List Turn) (t : Turn) (rest : List Turn)
    → signal_at s (before ++ t ∷ rest) (length before, t) ≡ (counter_of s t, rise_behind s before t (counter_of s t))
at_seam s before t rest = by_turn t
  where
    front : (t : Turn) → take (length before) (before ++ t ∷ rest) ≡ before
    front t = take-append-le (length before) before (t ∷ rest) (omega arith) ∙ take_all (length before) before (omega arith)

    by_turn : (t : Turn) → signal_at s (before ++ t ∷ rest) (length before, t) ≡ (counter_of s t, rise_behind s before t (counter_of s t))
    by_turn (Pushed x) = ap (λ ts. (push_counter s, (length (pushed ts) + 1, x))) (front (Pushed x))
        ∙ ap (λ n. (push_counter s, (n + 1, x))) (sym (many_pushed s before))
    by_turn (Popped x) = ap (λ ts. (pop_counter s, (length (popped ts) + 1, x))) (front (Popped x))
        ∙ ap (λ n. (pop_counter s, (n + 1, x))) (sym (many_popped s before))

-- what isn't there may be anything
also_none : {A : Type 0} (b : Bool) (x y : A) (ys : List A) → also (b && false) x ys ≡ also (b && false) y ys
also_none true x y ys = refl
also_none false x y ys = refl

also_at : {A : Type 0} (b : Bool) (j k : ℕ) (f : ℕ → A) (ys : List A) → also (b && nat_eq j k) (f k) ys ≡ also (b && nat_eq j k) (f j) ys
also_at b j k f ys = elim (nat_eq j k) as (λ d. nat_eq j k ≡ d → also (b && d) (f k) ys ≡ also (b && d) (f j) ys) [
  | true ↦ λ is. ap (λ i. also (b && true) (f i) ys) (sym (eqb-true j k is))
  | false ↦ λ is. also_none b (f k) (f j) ys
] refl

module _ (s : Script) (k : ℕ) (c : Label) where
  -- a call's lines with numbers from here on
  abbrev own_from : ℕ → List SignalLine → List (ℕ × Signal)
  own_from n ls = own (λ l. l.label) (λ l. l.signal) c n ls

  no_line : (n : ℕ) → n + 0 ≡ n
  no_line n = omega arith

  own_line : (d : Bool) (n : ℕ) (line : SignalLine) (ls : List SignalLine) (ys : List (ℕ × Signal)) → own_from (n + one_if d) ls ≡ ys
      → own_from n (also d line ls) ≡ also (d && is_label c line.label) (n, line.signal) ys
  own_line true n line ls ys is = ap (also (is_label c line.label) (n, line.signal)) is
  own_line false n line ls ys is = ap (λ m. own_from m ls) (sym (no_line n)) ∙ is

  own_rise : (b : Bool) (all : List Turn) (x : ℕ × Turn) (xs : List (ℕ × Turn))
      → rises_on k (map (signal_at s all) (also b x xs))
      ≡ also (b && nat_eq (signal_at s all x).0 k) (signal_at s all x).1 (rises_on k (map (signal_at s all) xs))
  own_rise true all x xs = refl
  own_rise false all x xs = refl

  further : (m d : ℕ) → m + d + 1 ≡ m + 1 + d
  further m d = omega arith

  -- law: a call's rises of a counter have their numbers along all pushes and pops
  pub own_rises_on : (before : List Turn) (ms : List SignalMove) → own_from (many_on s k before + 1) (lines_on s k ms)
      ≡ rises_on k (map (signal_at s (before ++ turns_in ms)) (own (λ m. m.0) (λ m. m.1) c (length before) ms))
  own_rises_on before [] = refl
  own_rises_on before (m ∷ ms) =
      let t = m.1 in
      let all = before ++ t ∷ turns_in ms in
      let b = is_label c m.0 in
      let d = nat_eq (counter_of s t) k in
      let later : ℕ → List (ℕ × Turn) = λ n. own (λ (y : SignalMove). y.0) (λ (y : SignalMove). y.1) c n ms in
      let behind = rises_on k (map (signal_at s all) (later (length before + 1))) in
      let rest : own_from (many_on s k before + 1 + one_if d) (lines_on s k ms) ≡ behind =
      ap (λ n. own_from n (lines_on s k ms)) (sym (ap (λ n. n + 1) (many_behind s k before t) ∙ further (many_on s k before) (one_if d)))
      ∙ own_rises_on (before ++ t ∷ []) ms
      ∙ ap (λ ts. rises_on k (map (signal_at s ts) (later (length (before ++ t ∷ []))))) (append_assoc before (t ∷ []) (turns_in ms))
      ∙ ap (λ n. rises_on k (map (signal_at s all) (later n))) (length-append before (t ∷ [])) in
      own_line d (many_on s k before + 1) (line_of m) (lines_on s k ms) behind rest
      ∙ ap (λ e. also e (rise_behind s before t k) behind) (and_comm d b)
      ∙ also_at b (counter_of s t) k (rise_behind s before t) behind
      ∙ ap (λ (y : ℕ × (ℕ × Signal)). also (b && nat_eq y.0 k) y.1 behind) (sym (at_seam s before t (turns_in ms)))
      ∙ sym (own_rise b all (length before, t) (later (length before + 1)))
