-- What of a fit is a matter of numbers and labels, as tests that small witnesses pass by computing.
use Rattle.std.proofs.Common.{◌≡◌, ◌<◌, ◌≤◌, ◌&&◌, ◌||◌, ℕ, ◌+◌, ◌-◌, zero, suc, Bool, true, false, not, if◌then◌else◌, nat_eq, nat_le, nat_lt, List, [], ◌∷◌, ◌++◌, length, map, take, drop, arith, refl, sym, ap, ◌∙◌, subst}
use Rattle.std.specs.List.{AllByRecursion, list_all}
use Rattle.std.proofs.lemmas.Bool.Decides.{nat_tests}
use Rattle.std.proofs.lemmas.Bool.{and_parts, eqb-true}
use Rattle.seq_timer.specs.declared.event.EventBy.{EventBy}
use Rattle.seq_timer.specs.declared.event.EventBy.TheVariants as events
use Rattle.record_text.specs.declared.record.Label.{Label}
use Rattle.script_text.specs.declared.script.Script.{Script}
use Rattle.run_history.specs.Actions.{Action, also, Began, Entered, Looked, looked, Made, made, own, Shifted, Signalled, signalled, Skipped, skipped, Wrote}
use Rattle.run_history.specs.Order.{AreSorted, calls_of, is_before, is_label, is_lower, IsInOrder, IsLabel, IsPoint, made_by, NeverFall}
use Rattle.seq_timer.specs.Systems.{rises_of}
use Rattle.seq_timer.specs.declared.system.SystemEntry.{SystemEntry}
use Rattle.seq_timer.specs.declared.system.SystemEntry.TheVariants as entries
use Rattle.signal_queue.specs.declared.signal.Signal.{Signal}
use Rattle.run_history.specs.Signals.{SignalLine, most_signals, pop_counter, push_counter, signals_in}
use Rattle.run_history.specs.Witnesses.{CountersList, Move, OfBase, OfRise, OfTimer, Shown, Witness, entries_in, labels, line_of_signal, moves_from, moves_on}
use Rattle.run_history.specs.Fits.{LabelsNeverFall}
use Rattle.run_history.proofs.Labels.{same_label}
use Rattle.run_history.specs.Traces.{all_entered}
use Rattle.run_history.specs.Told.{IsArmedBelowLimit, observed}
use Rattle.run_history.specs.Truths.{AreTrue, IsMoment, IsTrue, IsTrueEntry, OfClaim, Saw, SawFull}

-- numbers that a test compared
pub below : (a b : ℕ) → nat_lt a b ≡ true → a < b
below a b e = grind (arith, nat_tests)

pub upto : (a b : ℕ) → nat_le a b ≡ true → a ≤ b
upto a b e = grind (arith, nat_tests)

-- the same, of numbers that the goal names
pub lt : {a b : ℕ} → nat_lt a b ≡ true → a < b
lt {a} {b} e = below a b e

pub le : {a b : ℕ} → nat_le a b ≡ true → a ≤ b
le {a} {b} e = upto a b e

unless : (b : Bool) → not b ≡ true → b ≡ false
unless true e = cc
unless false e = refl

-- what a test shows of each item
pub all_true : {X : Type 0} (P : X → Type 0) (test : X → Bool) (each : (x : X) → test x ≡ true → P x) (xs : List X) → list_all test xs ≡ true
    → AllByRecursion P xs
all_true P test each [] e = tt
all_true P test each (x ∷ xs) e = let parts = and_parts (test x) (list_all test xs) e in (each x parts.0, all_true P test each xs parts.1)

all_unless : {X : Type 0} (test : X → Bool) (xs : List X) → list_all (λ x. not (test x)) xs ≡ true → AllByRecursion (λ x. test x ≡ false) xs
all_unless test xs e = all_true (λ x. test x ≡ false) (λ x. not (test x)) (λ x. unless (test x)) xs e

-- ---- labels

-- the labels are those of calls
abbrev pub are_calls : Script → List Label → Bool
are_calls s ls = list_all (λ l. nat_lt l.call (length (calls_of s l.lane))) ls

pub calls_pass : (s : Script) (ls : List Label) → are_calls s ls ≡ true → AllByRecursion (IsLabel s) ls
calls_pass s ls e = all_true (IsLabel s) (λ l. nat_lt l.call (length (calls_of s l.lane))) (λ l. below l.call (length (calls_of s l.lane))) ls e

-- no label stands behind one whose call began after it was over
abbrev pub are_in_order : Script → List Label → Bool
are_in_order s [] = true
are_in_order s (x ∷ xs) = list_all (λ y. not (is_before s y x)) xs && are_in_order s xs

pub order_passes : (s : Script) (ls : List Label) → are_in_order s ls ≡ true → IsInOrder s ls
order_passes s [] e = tt
order_passes s (x ∷ xs) e = let parts = and_parts (list_all (λ y. not (is_before s y x)) xs) (are_in_order s xs) e in
    (all_unless (λ y. is_before s y x) xs parts.0, order_passes s xs parts.1)

-- the number is one that the call may have seen, having made so many entries of the list
abbrev pub is_point : Script → Label → ℕ → ℕ → List Label → Bool
is_point s c own n ls =
    (nat_le n (length ls) && list_all (λ x. not (is_before s c x)) (take n ls))
    && (list_all (λ x. not (is_before s x c)) (drop n ls) && nat_eq (made_by c (take n ls)) own)

pub point_passes : (s : Script) (c : Label) (own n : ℕ) (ls : List Label) → is_point s c own n ls ≡ true → IsPoint s c own n ls
point_passes s c own n ls e =
    let halves = and_parts (nat_le n (length ls) && list_all (λ x. not (is_before s c x)) (take n ls))
    (list_all (λ x. not (is_before s x c)) (drop n ls) && nat_eq (made_by c (take n ls)) own) e in
    let one = and_parts (nat_le n (length ls)) (list_all (λ x. not (is_before s c x)) (take n ls)) halves.0 in
    let two = and_parts (list_all (λ x. not (is_before s x c)) (drop n ls)) (nat_eq (made_by c (take n ls)) own) halves.1 in
    record {
      within = record {
        small = upto n (length ls) one.0;
        before = all_unless (λ x. is_before s c x) (take n ls) one.1;
        behind = all_unless (λ x. is_before s x c) (drop n ls) two.0;
      };
      so_many = eqb-true (made_by c (take n ls)) own two.1;
    }

-- labels in their order, each once
abbrev pub are_sorted : List Label → Bool
are_sorted [] = true
are_sorted (c ∷ cs) = list_all (λ other. is_lower c other) cs && are_sorted cs

pub sorted_pass : (cs : List Label) → are_sorted cs ≡ true → AreSorted cs
sorted_pass [] e = tt
sorted_pass (c ∷ cs) e = let parts = and_parts (list_all (λ other. is_lower c other) cs) (are_sorted cs) e in
    (all_true (λ other. is_lower c other ≡ true) (λ other. is_lower c other) (λ x is. is) cs parts.0, sorted_pass cs parts.1)

-- labels in an order in which one may stand more than once
abbrev pub are_in_turn : List Label → Bool
are_in_turn [] = true
are_in_turn (c ∷ cs) = list_all (λ other. not (is_lower other c)) cs && are_in_turn cs

pub turn_passes : (cs : List Label) → are_in_turn cs ≡ true → LabelsNeverFall cs
turn_passes [] e = tt
turn_passes (c ∷ cs) e = let parts = and_parts (list_all (λ other. not (is_lower other c)) cs) (are_in_turn cs) e in
    (all_unless (λ other. is_lower other c) cs parts.0, turn_passes cs parts.1)

-- ---- numbers

-- numbers that never fall
abbrev pub never_fall : ℕ → List ℕ → ℕ → Bool
never_fall from [] to = nat_le from to
never_fall from (n ∷ ns) to = nat_le from n && never_fall n ns to

pub steps_pass : (from : ℕ) (ns : List ℕ) (to : ℕ) → never_fall from ns to ≡ true → NeverFall from ns to
steps_pass from [] to e = upto from to e
steps_pass from (n ∷ ns) to e = let parts = and_parts (nat_le from n) (never_fall n ns to) e in (upto from n parts.0, steps_pass n ns to parts.1)

-- ---- pushes and pops of signals

abbrev pub is_signal : Signal → Signal → Bool
is_signal a b = nat_eq a.timer b.timer && nat_eq a.number b.number

pub same_signal : (a b : Signal) → is_signal a b ≡ true → a ≡ b
same_signal a b e =
    let parts = and_parts (nat_eq a.timer b.timer) (nat_eq a.number b.number) e in
    ap {A = ℕ} (λ t. record { timer = t; number = a.number }) (eqb-true a.timer b.timer parts.0)
    ∙ ap {A = ℕ} (λ n. record { timer = b.timer; number = n }) (eqb-true a.number b.number parts.1)

-- numbered signals are the same
abbrev pub are_same : List (ℕ × Signal) → List (ℕ × Signal) → Bool
are_same [] [] = true
are_same (x ∷ xs) (y ∷ ys) = (nat_eq x.0 y.0 && is_signal x.1 y.1) && are_same xs ys
are_same xs ys = false

pub same_pass : (xs ys : List (ℕ × Signal)) → are_same xs ys ≡ true → xs ≡ ys
same_pass [] [] e = refl
same_pass [] (y ∷ ys) e = absurd (cc)
same_pass (x ∷ xs) [] e = absurd (cc)
same_pass (x ∷ xs) (y ∷ ys) e =
    let parts = and_parts (nat_eq x.0 y.0 && is_signal x.1 y.1) (are_same xs ys) e in
    let one = and_parts (nat_eq x.0 y.0) (is_signal x.1 y.1) parts.0 in
    ap {A = ℕ} (λ n. (n, x.1) ∷ xs) (eqb-true x.0 y.0 one.0) ∙ ap (λ z. (y.0, z) ∷ xs) (same_signal x.1 y.1 one.1)
    ∙ ap (λ zs. y ∷ zs) (same_pass xs ys parts.1)

-- the one list begins with the other
abbrev pub begins_with : List Signal → List Signal → Bool
begins_with ys [] = true
begins_with (y ∷ ys) (x ∷ xs) = is_signal y x && begins_with ys xs
begins_with [] (x ∷ xs) = false

pub begins_pass : (ys xs : List Signal) → begins_with ys xs ≡ true → (rest : List Signal) × (ys ≡ xs ++ rest)
begins_pass ys [] e = (ys, refl)
begins_pass [] (x ∷ xs) e = absurd (cc)
begins_pass (y ∷ ys) (x ∷ xs) e =
    let parts = and_parts (is_signal y x) (begins_with ys xs) e in
    let rest = begins_pass ys xs parts.1 in (rest.0, ap (λ z. z ∷ ys) (same_signal y x parts.0) ∙ ap (λ zs. x ∷ zs) rest.1)

-- where so many wait, each push along the order finds room, and each pop finds a signal
abbrev pub are_counted : ℕ → ℕ → ℕ → List SystemEntry → Bool
are_counted pushes pops waiting [] = true
are_counted pushes pops waiting (entries.Rise k ∷ es) =
    if nat_eq k pushes then nat_lt waiting most_signals && are_counted pushes pops (waiting + 1) es
    else if nat_eq k pops then nat_lt 0 waiting && are_counted pushes pops (waiting - 1) es
    else are_counted pushes pops waiting es
are_counted pushes pops waiting (entries.Timer e ∷ es) = are_counted pushes pops waiting es
are_counted pushes pops waiting (entries.Base e ∷ es) = are_counted pushes pops waiting es

-- behind each number of moves, at which so many were pushed and popped
abbrev pub IsCount : ℕ → ℕ → ℕ → Type 0
IsCount waiting pushed popped = (popped ≤ waiting + pushed) × (waiting + pushed ≤ popped + most_signals)

pub counted : (pushes pops waiting n : ℕ) (es : List SystemEntry) → nat_eq pushes pops ≡ false → are_counted pushes pops waiting es ≡ true
    → waiting ≤ most_signals → IsCount waiting (rises_of pushes (take n es)) (rises_of pops (take n es))
counted pushes pops waiting zero [] two e few = (omega arith, omega (arith, few))
counted pushes pops waiting zero (x ∷ es) two e few = (omega arith, omega (arith, few))
counted pushes pops waiting (suc n) [] two e few = (omega arith, omega (arith, few))
counted pushes pops waiting (suc n) (entries.Timer x ∷ es) two e few = counted pushes pops waiting n es two e few
counted pushes pops waiting (suc n) (entries.Base x ∷ es) two e few = counted pushes pops waiting n es two e few
counted pushes pops waiting (suc n) (entries.Rise k ∷ es) two e few =
    let p = rises_of pushes (take n es) in
    let q = rises_of pops (take n es) in
    elim (nat_eq k pushes) as (λ b. nat_eq k pushes ≡ b
    → (if b then nat_lt waiting most_signals && are_counted pushes pops (waiting + 1) es
    else if nat_eq k pops then nat_lt 0 waiting && are_counted pushes pops (waiting - 1) es else are_counted pushes pops waiting es) ≡ true
    → IsCount waiting (if b then p + 1 else p) (if nat_eq k pops then q + 1 else q)) [
      | true ↦ λ is e.
          let parts = and_parts (nat_lt waiting most_signals) (are_counted pushes pops (waiting + 1) es) e in
          let room = below waiting most_signals parts.0 in
          let rest = counted pushes pops (waiting + 1) n es two parts.1 (omega (arith, room)) in
          let other_one : nat_eq k pops ≡ false = ap (λ j. nat_eq j pops) (eqb-true k pushes is) ∙ two in
          subst (λ b. IsCount waiting (p + 1) (if b then q + 1 else q)) (sym other_one) (omega (arith, rest.0), omega (arith, rest.1))
      | false ↦ λ is e. elim (nat_eq k pops) as (λ b.
          (if b then nat_lt 0 waiting && are_counted pushes pops (waiting - 1) es else are_counted pushes pops waiting es) ≡ true
          → IsCount waiting p (if b then q + 1 else q)) [
            | true ↦ λ e.
                let parts = and_parts (nat_lt 0 waiting) (are_counted pushes pops (waiting - 1) es) e in
                let some = below 0 waiting parts.0 in
                let rest = counted pushes pops (waiting - 1) n es two parts.1 (omega (arith, few)) in
                (omega (arith, some, rest.0), omega (arith, some, rest.1))
            | false ↦ λ e. counted pushes pops waiting n es two e few
          ] e
    ] refl e

-- the moves are the lines of a counter of signals, where so many stand before them
abbrev pub is_rise : ℕ → Shown → Bool
is_rise k (OfRise j) = nat_eq j k
is_rise k shown = false

is_rise_pass : (k : ℕ) (shown : Shown) → is_rise k shown ≡ true → shown ≡ OfRise k
is_rise_pass k (OfRise j) e = ap {A = ℕ} (λ j. OfRise j) (eqb-true j k e)
is_rise_pass k (OfTimer t entry) e = absurd (cc)
is_rise_pass k (OfBase b event) e = absurd (cc)

abbrev pub are_rises : ℕ → ℕ → List Move → List SignalLine → Bool
are_rises k before [] [] = true
are_rises k before (m ∷ ms) (l ∷ ls) = (nat_eq m.before before && (is_label l.label m.label && is_rise k m.shown)) && are_rises k (before + 1) ms ls
are_rises k before ms ls = false

pub rises_pass : (k before : ℕ) (ms : List Move) (ls : List SignalLine) → are_rises k before ms ls ≡ true
    → ms ≡ moves_from before (map (line_of_signal k) ls)
rises_pass k before [] [] e = refl
rises_pass k before [] (l ∷ ls) e = absurd (cc)
rises_pass k before (m ∷ ms) [] e = absurd (cc)
rises_pass k before (m ∷ ms) (l ∷ ls) e =
    let parts = and_parts (nat_eq m.before before && (is_label l.label m.label && is_rise k m.shown)) (are_rises k (before + 1) ms ls) e in
    let one = and_parts (nat_eq m.before before) (is_label l.label m.label && is_rise k m.shown) parts.0 in
    let rest = and_parts (is_label l.label m.label) (is_rise k m.shown) one.1 in
    let at : m.before ≡ before = eqb-true m.before before one.0 in
    let by : m.label ≡ l.label = same_label l.label m.label rest.0 in
    let shown : m.shown ≡ OfRise k = is_rise_pass k m.shown rest.1 in
    let this : m ≡ record { before = before; label = l.label; shown = OfRise k } =
    ap {A = ℕ} (λ n. record { before = n; label = m.label; shown = m.shown }) at
    ∙ ap (λ c. record { before = before; label = c; shown = m.shown }) by ∙ ap (λ x. record { before = before; label = l.label; shown = x }) shown in
    ap (λ x. x ∷ ms) this ∙ ap (λ xs. record { before = before; label = l.label; shown = OfRise k } ∷ xs) (rises_pass k (before + 1) ms ls parts.1)

-- the signals that were pushed, and popped, are those of one queue, and stand in the order
abbrev pub are_signals : Witness → Bool
are_signals w =
    (begins_with (signals_in (w.signals (push_counter w.script))) (signals_in (w.signals (pop_counter w.script)))
    && are_counted (push_counter w.script) (pop_counter w.script) 0 (entries_in w))
    && (are_rises (push_counter w.script) 0 (moves_on (CountersList (push_counter w.script)) w.moves) (w.signals (push_counter w.script))
    && are_rises (pop_counter w.script) 0 (moves_on (CountersList (pop_counter w.script)) w.moves) (w.signals (pop_counter w.script)))

-- no other counter has signals
abbrev pub HasOthers : Witness → Type 0
HasOthers w = (k : ℕ) → nat_eq k (push_counter w.script) ≡ false → nat_eq k (pop_counter w.script) ≡ false → w.signals k ≡ []

-- what a call pushed and popped raised these counters
abbrev pub are_raised : ℕ → ℕ → List Action → Bool
are_raised pushes pops [] = true
are_raised pushes pops (Signalled counter number signal ∷ ds) = (nat_eq counter pushes || nat_eq counter pops) && are_raised pushes pops ds
are_raised pushes pops (d ∷ ds) = are_raised pushes pops ds

none_raised : (pushes pops k : ℕ) (ds : List Action) → nat_eq k pushes ≡ false → nat_eq k pops ≡ false → are_raised pushes pops ds ≡ true
    → signalled k ds ≡ []
none_raised pushes pops k [] one two e = refl
none_raised pushes pops k (Signalled counter number signal ∷ ds) one two e =
    let parts = and_parts (nat_eq counter pushes || nat_eq counter pops) (are_raised pushes pops ds) e in
    ap (λ b. also b (number, signal) (signalled k ds)) (apart counter parts.0) ∙ none_raised pushes pops k ds one two parts.1
  where
    apart : (counter : ℕ) → (nat_eq counter pushes || nat_eq counter pops) ≡ true → nat_eq counter k ≡ false
    apart counter e = grind (arith, nat_tests, one, two, e)
none_raised pushes pops k (d ∷ ds) one two e = none_raised pushes pops k ds one two e

-- a call's pushes and pops are those that the lists have under its label
abbrev pub is_heard : Witness → Label → Bool
is_heard w c =
    (are_same (own (λ line. line.label) (λ line. line.signal) c 1 (w.signals (push_counter w.script))) (signalled (push_counter w.script) (w.traces c).actions)
    && are_same (own (λ line. line.label) (λ line. line.signal) c 1 (w.signals (pop_counter w.script))) (signalled (pop_counter w.script) (w.traces c).actions))
    && are_raised (push_counter w.script) (pop_counter w.script) (w.traces c).actions

pub heard_passes : (w : Witness) → HasOthers w → (c : Label) → is_heard w c ≡ true → (k : ℕ)
    → own (λ line. line.label) (λ line. line.signal) c 1 (w.signals k) ≡ signalled k (w.traces c).actions
heard_passes w others c e k =
    let ds = (w.traces c).actions in
    let P = push_counter w.script in
    let Q = pop_counter w.script in
    let mine : ℕ → List (ℕ × Signal) = λ k. own (λ line. line.label) (λ line. line.signal) c 1 (w.signals k) in
    let all = and_parts (are_same (mine P) (signalled P ds) && are_same (mine Q) (signalled Q ds)) (are_raised P Q ds) e in
    let both = and_parts (are_same (mine P) (signalled P ds)) (are_same (mine Q) (signalled Q ds)) all.0 in
    elim (nat_eq k P) as (λ b. nat_eq k P ≡ b → mine k ≡ signalled k ds) [
      | true ↦ λ is. subst (λ j. mine j ≡ signalled j ds) (sym (eqb-true k P is)) (same_pass (mine P) (signalled P ds) both.0)
      | false ↦ λ not_pushed. elim (nat_eq k Q) as (λ b. nat_eq k Q ≡ b → mine k ≡ signalled k ds) [
        | true ↦ λ is. subst (λ j. mine j ≡ signalled j ds) (sym (eqb-true k Q is)) (same_pass (mine Q) (signalled Q ds) both.1)
        | false ↦ λ not_popped. ap (own (λ line. line.label) (λ line. line.signal) c 1) (others k not_pushed not_popped)
            ∙ sym (none_raised P Q k ds not_pushed not_popped all.1)
      ] refl
    ] refl

-- ---- what a call did is true, each thing at the place of the call's next entry

-- the place at which the call has its next entry, where it has made so many; the first of these places is numbered so
abbrev pub own_place : Label → ℕ → ℕ → List Label → ℕ
own_place c made n [] = n
own_place c zero n (x ∷ xs) = if is_label c x then n else own_place c zero (n + 1) xs
own_place c (suc made) n (x ∷ xs) = own_place c (if is_label c x then made else suc made) (n + 1) xs

-- that place, where the call has done these things
abbrev pub place_behind : Witness → Label → List Action → ℕ
place_behind w c before = own_place c (length (all_entered before)) 0 (labels w)

-- each of these places is a moment of the call, and they never go back
abbrev pub are_timed : Witness → Label → ℕ → List Action → List Action → ℕ → Bool
are_timed w c from before [] last = nat_le from last
are_timed w c from before (d ∷ ds) last =
    nat_le from (place_behind w c before)
    && (is_point w.script c (length (all_entered before)) (place_behind w c before) (labels w)
    && are_timed w c (place_behind w c before) (before ++ d ∷ []) ds last)

-- what is told there of timers and of objects is true
abbrev pub AreTold : Witness → Label → List Action → List Action → Type 0
AreTold w c before [] = Unit
AreTold w c before (Wrote number write ∷ ds) = AreTold w c (before ++ Wrote number write ∷ []) ds
AreTold w c before (Entered t number entry ∷ ds) = AreTold w c (before ++ Entered t number entry ∷ []) ds
AreTold w c before (Looked t number look ∷ ds) =
    (Saw w t number (observed look) (place_behind w c before) × IsArmedBelowLimit w.script.limit number look)
    × AreTold w c (before ++ Looked t number look ∷ []) ds
AreTold w c before (Began i stamp ∷ ds) = AreTold w c (before ++ Began i stamp ∷ []) ds
AreTold w c before (Made i number entry ∷ ds) =
    IsTrueEntry w i number entry (place_behind w c before) × AreTold w c (before ++ Made i number entry ∷ []) ds
AreTold w c before (Skipped i number generation ∷ ds) =
    SawFull w i number (place_behind w c before) × AreTold w c (before ++ Skipped i number generation ∷ []) ds
AreTold w c before (Shifted base number event ∷ ds) = AreTold w c (before ++ Shifted base number event ∷ []) ds
AreTold w c before (Signalled counter number signal ∷ ds) = AreTold w c (before ++ Signalled counter number signal ∷ []) ds

of_claim : {P : Type 0} (event : EventBy ℕ) → P → OfClaim event P
of_claim (events.Claim base reading) is = is
of_claim event is = tt

-- law: so what it did is true
pub told_pass : (w : Witness) (c : Label) (from : ℕ) (before ds : List Action) (last : ℕ) → are_timed w c from before ds last ≡ true
    → AreTold w c before ds → AreTrue w c from before ds last
told_pass w c from before [] last e told = upto from last e
told_pass w c from before (d ∷ ds) last e told =
    let n = place_behind w c before in
    let parts = and_parts (nat_le from n)
    (is_point w.script c (length (all_entered before)) n (labels w) && are_timed w c n (before ++ d ∷ []) ds last) e in
    let rest = and_parts (is_point w.script c (length (all_entered before)) n (labels w)) (are_timed w c n (before ++ d ∷ []) ds last) parts.1 in (
      n,
      upto from n parts.0,
      here d told (point_passes w.script c (length (all_entered before)) n (labels w) rest.0),
      told_pass w c n (before ++ d ∷ []) ds last
          rest.1 (further d told),
    )
  where
    here : (d : Action) → AreTold w c before (d ∷ ds) → IsMoment w c before (place_behind w c before) → IsTrue w c before d (place_behind w c before)
    here (Wrote number write) told point = tt
    here (Entered t number entry) told point = of_claim entry.event point
    here (Looked t number look) told point = (point, told.0.0, told.0.1)
    here (Began i stamp) told point = tt
    here (Made i number entry) told point = (point, told.0)
    here (Skipped i number generation) told point = (point, told.0)
    here (Shifted base number event) told point = tt
    here (Signalled counter number signal) told point = tt

    further : (d : Action) → AreTold w c before (d ∷ ds) → AreTold w c (before ++ d ∷ []) ds
    further (Wrote number write) told = told
    further (Entered t number entry) told = told
    further (Looked t number look) told = told.1
    further (Began i stamp) told = told
    further (Made i number entry) told = told.1
    further (Skipped i number generation) told = told.1
    further (Shifted base number event) told = told
    further (Signalled counter number signal) told = told

-- ---- what a call did, of timers and objects that are there

-- a number past so many is none of them
pub other : (a n k : ℕ) → nat_lt a n ≡ true → n ≤ k → nat_eq a k ≡ false
other a n k less past = grind (arith, nat_tests)

-- it looked at no timer past so many, and no object past so many had an entry of it or refused an expiry
abbrev pub are_made : ℕ → ℕ → List Action → Bool
are_made timers objects [] = true
are_made timers objects (Wrote number write ∷ ds) = are_made timers objects ds
are_made timers objects (Entered t number entry ∷ ds) = are_made timers objects ds
are_made timers objects (Looked t number look ∷ ds) = nat_lt t timers && are_made timers objects ds
are_made timers objects (Began i stamp ∷ ds) = are_made timers objects ds
are_made timers objects (Made i number entry ∷ ds) = nat_lt i objects && are_made timers objects ds
are_made timers objects (Skipped i number generation ∷ ds) = nat_lt i objects && are_made timers objects ds
are_made timers objects (Shifted base number event ∷ ds) = are_made timers objects ds
are_made timers objects (Signalled counter number signal ∷ ds) = are_made timers objects ds

-- so past them there is nothing
pub record IsPast (timers objects i : ℕ) (ds : List Action) : Type 0 where
  pub looked : timers ≤ i → looked i ds ≡ []
  pub made : objects ≤ i → made i ds ≡ []
  pub skipped : objects ≤ i → skipped i ds ≡ []

-- law: the same, of what passes the test
pub made_past : (timers objects i : ℕ) (ds : List Action) → are_made timers objects ds ≡ true → IsPast timers objects i ds
made_past timers objects i [] e = record { looked = λ p. refl; made = λ p. refl; skipped = λ p. refl }
made_past timers objects i (Wrote number write ∷ ds) e =
    let rest = made_past timers objects i ds e in record { looked = rest.looked; made = rest.made; skipped = rest.skipped }
made_past timers objects i (Entered t number entry ∷ ds) e =
    let rest = made_past timers objects i ds e in record { looked = rest.looked; made = rest.made; skipped = rest.skipped }
made_past timers objects i (Looked t number look ∷ ds) e =
    let parts = and_parts (nat_lt t timers) (are_made timers objects ds) e in
    let rest = made_past timers objects i ds parts.1 in record {
      looked = λ p. ap (λ b. also b (number, look) (looked i ds)) (other t timers i parts.0 p) ∙ rest.looked p;
      made = rest.made;
      skipped = rest.skipped;
    }
made_past timers objects i (Began j stamp ∷ ds) e =
    let rest = made_past timers objects i ds e in record { looked = rest.looked; made = rest.made; skipped = rest.skipped }
made_past timers objects i (Made j number entry ∷ ds) e =
    let parts = and_parts (nat_lt j objects) (are_made timers objects ds) e in
    let rest = made_past timers objects i ds parts.1 in record {
      looked = rest.looked;
      made = λ p. ap (λ b. also b (number, entry) (made i ds)) (other j objects i parts.0 p) ∙ rest.made p;
      skipped = rest.skipped;
    }
made_past timers objects i (Skipped j number generation ∷ ds) e =
    let parts = and_parts (nat_lt j objects) (are_made timers objects ds) e in
    let rest = made_past timers objects i ds parts.1 in record {
      looked = rest.looked;
      made = rest.made;
      skipped = λ p. ap (λ b. also b (number, generation) (skipped i ds)) (other j objects i parts.0 p) ∙ rest.skipped p;
    }
made_past timers objects i (Shifted base number event ∷ ds) e =
    let rest = made_past timers objects i ds e in record { looked = rest.looked; made = rest.made; skipped = rest.skipped }
made_past timers objects i (Signalled counter number signal ∷ ds) e =
    let rest = made_past timers objects i ds e in record { looked = rest.looked; made = rest.made; skipped = rest.skipped }
