-- The record of a small witness fits: tests of the whole, and what is said of each timer and each lane.
use Rattle.std.proofs.Common.{◌≡◌, ◌≤◌, ◌<◌, ◌&&◌, if◌then◌else◌, ◌++◌, ℕ, ◌+◌, zero, suc, Bool, true, false, nat_eq, nat_lt, List, [], ◌∷◌, length, map, arith, refl, sym, ap, ◌∙◌, subst}
use Rattle.std.specs.List.{AllByRecursion, list_all}
use Rattle.std.proofs.Math.Logic.{⊎_elim}
use Rattle.std.proofs.lemmas.Bool.{and_parts, cases_lt, eqb-true}
use Rattle.std.proofs.lemmas.Bool.Decides.{nat_tests}
use Rattle.std.proofs.lemmas.List.{get_or_past, length-map}
use Rattle.ktime.specs.Clocks.{at_stamp}
use Rattle.seq_timer.specs.Systems.{IsSystemHistory}
use Rattle.record_text.specs.declared.record.ObjectLine.{ObjectLine}
use Rattle.record_text.specs.declared.record.RunRecord.{RunRecord}
use Rattle.record_text.specs.declared.record.TimerLine.{TimerLine}
use Rattle.seq_timer.specs.declared.context.Context.TheVariants as contexts
use Rattle.script_text.specs.declared.script.Callback.TheVariants as callbacks
use Rattle.script_text.specs.declared.script.Kind.TheVariants as kinds
use Rattle.script_text.specs.declared.script.LaneCall.{LaneCall}
use Rattle.script_text.specs.declared.script.Round.{Round}
use Rattle.script_text.specs.declared.script.Script.{Script}
use Rattle.run_history.specs.Histories.{answers_of, AreWrites, clock_labels}
use Rattle.script_text.specs.Declarations.{declareds_of, terms_of, kind_of}
use Rattle.run_history.specs.Objects.{IsLegalObject}
use Rattle.run_history.specs.Order.{AreUnder, IsInOrder, calls_of}
use Rattle.run_history.specs.Witnesses.{BasesList, CountersList, RunLists, Witness, entries_in, is_owner, labels, line_of_base, line_of_object, line_of_signal, line_of_timer, lines_at, Move, moves_from, moves_on, Owner, owner_of, TimersList, twice}
use Rattle.run_history.specs.Signals.{AreSignals, pop_counter, pops_at, push_counter, pushes_at, signals_in}
use Rattle.run_history.proofs.Labels.{refuted}
use Rattle.fit_laws.proofs.OwnPoints.{lists_in}
use Rattle.fit_laws.proofs.SignalDeeds.{apart}
use Rattle.run_history.specs.Fits.{AreSkipsUnder, Fits, FitsIn, FitsLane, unseen}
use Rattle.run_cases.proofs.Calls.{AreRight, are_placed, lane_fits}
use Rattle.run_cases.proofs.Witnesses.{Along, everywhere, each_list, none_on, no_calls, queue_of}
use Rattle.run_cases.proofs.Tests.{HasOthers, IsCount, all_true, are_calls, are_counted, are_in_order, are_rises, are_signals, are_sorted, are_in_turn, begins_pass, begins_with, calls_pass, counted, order_passes, other, rises_pass, sorted_pass, turn_passes}

-- ---- the whole record

-- its labels are those of calls
abbrev pub are_called : Witness → Bool
are_called w = are_calls w.script (clock_labels w.run) && are_calls w.script (labels w)

-- along each of its lists labels are in order
abbrev pub are_ordered : Witness → Bool
are_ordered w = are_in_order w.script (clock_labels w.run) && are_in_order w.script (labels w)

-- looks bear the labels of calls and stand in order
abbrev pub is_under : Script → TimerLine → Bool
is_under s line = are_calls s (map (λ look. look.label) line.looks) && are_sorted (map (λ look. look.label) line.looks)

-- so do the refused expiries under an object's entry
abbrev pub is_refused_under : Script → ObjectLine → Bool
is_refused_under s line = are_calls s (map (λ skip. skip.label) line.skips) && are_in_turn (map (λ skip. skip.label) line.skips)

-- the same of all its lines
abbrev pub are_under : Witness → Bool
are_under w =
    list_all (λ lines. list_all (is_under w.script) lines) w.run.timers && list_all (λ lines. list_all (is_refused_under w.script) lines) w.run.objects

-- a list is that of one of a record's timers, bases or objects, or the clock's, or of one of so many counters behind these
abbrev pub is_list : RunRecord → ℕ → Owner → Bool
is_list r more (TimersList t) = nat_lt t (length r.timers)
is_list r more (BasesList b) = nat_lt b (length r.bases)
is_list r more (CountersList zero) = true
is_list r more (CountersList (suc i)) = nat_lt i (length r.objects + more)

-- no move is of a list that isn't there, and no call is of a lane that isn't
abbrev pub are_there : Witness → Bool
are_there w =
    list_all (λ m. is_list w.run 2 (owner_of m.shown)) w.moves
    && list_all (λ round. list_all (λ c. nat_lt c.lane (length w.run.answers)) round.calls) w.script.rounds

-- there are lists for each timer, each object, each lane and each base
abbrev pub are_sized : Witness → Bool
are_sized w =
    (nat_eq (length w.run.timers) (length w.script.timers) && nat_eq (length w.run.objects) (length w.script.timers))
    && (nat_eq (length w.run.answers) w.script.lanes && nat_eq (length w.run.bases) w.script.bases)

-- these tests but that of order, and all of them
abbrev pub is_whole : Witness → Bool
is_whole w = (are_sized w && are_signals w) && (are_called w && (are_under w && are_there w))

abbrev pub is_passed : Witness → Bool
is_passed w = is_whole w && are_ordered w

-- what makes the record of a small witness fit: the tests are passed, and the rest is said of each timer and each lane
pub record IsSmall (w : Witness) : Type 0 where
  pub version : w.run.version ≡ w.script.version
  pub passed : is_passed w ≡ true
  pub writes : AreWrites (at_stamp 0) w.run.clock
  pub all : Along (λ t. moves_on (TimersList t) w.moves ≡ moves_from 0 (lines_at (lists_in w) (TimersList t))) 0 w.run.timers
  pub bases : Along (λ b. moves_on (BasesList b) w.moves ≡ moves_from 0 (lines_at (lists_in w) (BasesList b))) 0 w.run.bases
  pub clock : moves_on (CountersList 0) w.moves ≡ moves_from 0 (lines_at (lists_in w) (CountersList 0))
  pub objects : Along (λ i. moves_on (CountersList (suc i)) w.moves ≡ moves_from 0 (lines_at (lists_in w) (CountersList (suc i)))) 0 w.run.objects
  pub history : IsSystemHistory w.script.bases (declareds_of w.script) (terms_of w.script) (entries_in w)
  pub object_histories : Along (λ i. IsLegalObject w.script w.run i (kind_of w.script i)) 0 w.script.timers
  pub placed : Along (λ lane. are_placed w lane 0 unseen (calls_of w.script lane) (answers_of w.run lane) ≡ true) 0 w.run.answers
  pub calls : Along (λ lane. AreRight w lane 0 (calls_of w.script lane) (answers_of w.run lane)) 0 w.run.answers

-- what makes the record of a witness fit, however its calls and their order are shown
pub record IsWhole (w : Witness) : Type 0 where
  pub version : w.run.version ≡ w.script.version
  pub passed : is_whole w ≡ true
  pub clock_order : IsInOrder w.script (clock_labels w.run)
  pub order : IsInOrder w.script (labels w)
  pub writes : AreWrites (at_stamp 0) w.run.clock
  pub all : Along (λ t. moves_on (TimersList t) w.moves ≡ moves_from 0 (lines_at (lists_in w) (TimersList t))) 0 w.run.timers
  pub bases : Along (λ b. moves_on (BasesList b) w.moves ≡ moves_from 0 (lines_at (lists_in w) (BasesList b))) 0 w.run.bases
  pub clock : moves_on (CountersList 0) w.moves ≡ moves_from 0 (lines_at (lists_in w) (CountersList 0))
  pub objects : Along (λ i. moves_on (CountersList (suc i)) w.moves ≡ moves_from 0 (lines_at (lists_in w) (CountersList (suc i)))) 0 w.run.objects
  pub history : IsSystemHistory w.script.bases (declareds_of w.script) (terms_of w.script) (entries_in w)
  pub object_histories : Along (λ i. IsLegalObject w.script w.run i (kind_of w.script i)) 0 w.script.timers
  pub lanes : Along (λ lane. FitsLane w lane 0 unseen (calls_of w.script lane) (answers_of w.run lane)) 0 w.run.answers

under_passes : (s : Script) (line : TimerLine) → is_under s line ≡ true → AreUnder s (map (λ look. look.label) line.looks)
under_passes s line e =
    let parts = and_parts (are_calls s (map (λ look. look.label) line.looks)) (are_sorted (map (λ look. look.label) line.looks)) e in
    record { calls = calls_pass s (map (λ look. look.label) line.looks) parts.0; sorted = sorted_pass (map (λ look. look.label) line.looks) parts.1 }

refused_passes : (s : Script) (line : ObjectLine) → is_refused_under s line ≡ true → AreSkipsUnder s (map (λ skip. skip.label) line.skips)
refused_passes s line e =
    let parts = and_parts (are_calls s (map (λ skip. skip.label) line.skips)) (are_in_turn (map (λ skip. skip.label) line.skips)) e in
    record { calls = calls_pass s (map (λ skip. skip.label) line.skips) parts.0; in_order = turn_passes (map (λ skip. skip.label) line.skips) parts.1 }

-- no move is of a list that isn't there
not_timer : (r : RunRecord) (more : ℕ) (t : ℕ) (o : Owner) → length r.timers ≤ t → is_list r more o ≡ true → is_owner o (TimersList t) ≡ false
not_timer r more t (TimersList u) past less = other u (length r.timers) t less past
not_timer r more t (BasesList b) past less = refl
not_timer r more t (CountersList k) past less = refl

not_base : (r : RunRecord) (more : ℕ) (b : ℕ) (o : Owner) → length r.bases ≤ b → is_list r more o ≡ true → is_owner o (BasesList b) ≡ false
not_base r more b (TimersList u) past less = refl
not_base r more b (BasesList c) past less = other c (length r.bases) b less past
not_base r more b (CountersList k) past less = refl

not_object : (r : RunRecord) (more : ℕ) (i : ℕ) (o : Owner) → length r.objects + more ≤ i → is_list r more o ≡ true → is_owner o (CountersList (suc i)) ≡ false
not_object r more i (TimersList t) past less = refl
not_object r more i (BasesList b) past less = refl
not_object r more i (CountersList zero) past less = grind (arith, nat_tests)
not_object r more i (CountersList (suc j)) past less = no_later j (length r.objects + more) i less past
  where
    no_later : (j n i : ℕ) → nat_lt j n ≡ true → n ≤ i → nat_eq (suc j) (suc i) ≡ false
    no_later j n i less past = grind (arith, nat_tests)

-- law: so each list's moves are its lines, where those of the counters behind the objects' are
pub each_owner : (l : RunLists) (more : ℕ) (ms : List Move) → list_all (λ m. is_list l.run more (owner_of m.shown)) ms ≡ true
    → Along (λ t. moves_on (TimersList t) ms ≡ moves_from 0 (lines_at l (TimersList t))) 0 l.run.timers
    → Along (λ b. moves_on (BasesList b) ms ≡ moves_from 0 (lines_at l (BasesList b))) 0 l.run.bases
    → moves_on (CountersList 0) ms ≡ moves_from 0 (lines_at l (CountersList 0))
    → Along (λ i. moves_on (CountersList (suc i)) ms ≡ moves_from 0 (lines_at l (CountersList (suc i)))) 0 l.run.objects
    → ((i : ℕ) → length l.run.objects ≤ i → i < length l.run.objects + more
    → moves_on (CountersList (suc i)) ms ≡ moves_from 0 (map (line_of_signal (suc i)) (l.signals (suc i))))
    → ((i : ℕ) → length l.run.objects + more ≤ i → l.signals (suc i) ≡ [])
    → (o : Owner) → moves_on o ms ≡ moves_from 0 (lines_at l o)
each_owner l more ms there all bases clock objects behind none (TimersList t) =
    everywhere (λ t. moves_on (TimersList t) ms ≡ moves_from 0 (lines_at l (TimersList t))) l.run.timers all (λ t past.
    none_on (TimersList t) ms (all_true (λ m. is_owner (owner_of m.shown) (TimersList t) ≡ false) (λ m. is_list l.run more (owner_of m.shown))
    (λ m less. not_timer l.run more t (owner_of m.shown) past less) ms there)
    ∙ ap (λ lines. moves_from 0 (map (line_of_timer t) lines)) (sym (get_or_past l.run.timers t [] past))) t
each_owner l more ms there all bases clock objects behind none (BasesList b) =
    everywhere (λ b. moves_on (BasesList b) ms ≡ moves_from 0 (lines_at l (BasesList b))) l.run.bases bases (λ b past.
    none_on (BasesList b) ms (all_true (λ m. is_owner (owner_of m.shown) (BasesList b) ≡ false) (λ m. is_list l.run more (owner_of m.shown))
    (λ m less. not_base l.run more b (owner_of m.shown) past less) ms there)
    ∙ ap (λ lines. moves_from 0 (map (line_of_base b) lines)) (sym (get_or_past l.run.bases b [] past))) b
each_owner l more ms there all bases clock objects behind none (CountersList zero) = clock
each_owner l more ms there all bases clock objects behind none (CountersList (suc i)) =
    everywhere (λ i. moves_on (CountersList (suc i)) ms ≡ moves_from 0 (lines_at l (CountersList (suc i)))) l.run.objects objects (λ i past.
    ⊎_elim (λ (less : i < length l.run.objects + more). behind i past less)
    (λ (far : length l.run.objects + more ≤ i).
    none_on (CountersList (suc i)) ms (all_true (λ m. is_owner (owner_of m.shown) (CountersList (suc i)) ≡ false)
    (λ m. is_list l.run more (owner_of m.shown)) (λ m less. not_object l.run more i (owner_of m.shown) far less) ms there)
    ∙ ap (λ lines. moves_from 0 (map (line_of_signal (suc i)) lines)) (sym (none i far)))
    (cases_lt i (length l.run.objects + more))
    ∙ ap (λ lines. moves_from 0 (twice (map (line_of_object i) lines) ++ map (line_of_signal (suc i)) (l.signals (suc i))))
    (sym (get_or_past l.run.objects i [] past))) i

-- the signals of a small witness
small_signals : (w : Witness) → HasOthers w → are_signals w ≡ true → AreSignals w.script w.signals (entries_in w)
small_signals w others e =
    let P = push_counter w.script in
    let Q = pop_counter w.script in
    let parts = and_parts (begins_with (signals_in (w.signals P)) (signals_in (w.signals Q)) && are_counted P Q 0 (entries_in w))
    (are_rises P 0 (moves_on (CountersList P) w.moves) (w.signals P) && are_rises Q 0 (moves_on (CountersList Q) w.moves) (w.signals Q)) e in
    let first = and_parts (begins_with (signals_in (w.signals P)) (signals_in (w.signals Q))) (are_counted P Q 0 (entries_in w)) parts.0 in
    let taken = begins_pass (signals_in (w.signals P)) (signals_in (w.signals Q)) first.0 in
    let count : (n : ℕ) → IsCount 0 (pushes_at w.script (entries_in w) n) (pops_at w.script (entries_in w) n) =
    λ n. counted P Q 0 n (entries_in w) (apart w.script).0 first.1 (omega arith) in
    record {
      others = λ i less. others (suc i) (refuted _ (λ is. let same = eqb-true (suc i) P is in omega (arith, same, less)))
          (refuted _ (λ is. let same = eqb-true (suc i) Q is in omega (arith, same, less)));
      waiting = taken.0;
      in_turn = taken.1;
      pushed_first = λ n. let c = count n in omega (arith, c.0);
      room = λ n. let c = count n in omega (arith, c.1);
    }

-- and where they stand in the order
small_rises : (w : Witness) → length w.run.objects ≡ length w.script.timers → are_signals w ≡ true → (i : ℕ) → length w.run.objects ≤ i
    → i < length w.run.objects + 2 → moves_on (CountersList (suc i)) w.moves ≡ moves_from 0 (map (line_of_signal (suc i)) (w.signals (suc i)))
small_rises w same e i past less =
    let P = push_counter w.script in
    let Q = pop_counter w.script in
    let parts = and_parts (begins_with (signals_in (w.signals P)) (signals_in (w.signals Q)) && are_counted P Q 0 (entries_in w))
    (are_rises P 0 (moves_on (CountersList P) w.moves) (w.signals P) && are_rises Q 0 (moves_on (CountersList Q) w.moves) (w.signals Q)) e in
    let both = and_parts (are_rises P 0 (moves_on (CountersList P) w.moves) (w.signals P))
    (are_rises Q 0 (moves_on (CountersList Q) w.moves) (w.signals Q)) parts.1 in
    let IsOn : ℕ → Type 0 = λ k. moves_on (CountersList k) w.moves ≡ moves_from 0 (map (line_of_signal k) (w.signals k)) in
    ⊎_elim
    (λ (one : i < length w.run.objects + 1). subst IsOn (omega (arith, one, past, same))
    (rises_pass P 0 (moves_on (CountersList P) w.moves) (w.signals P) both.0))
    (λ (two : length w.run.objects + 1 ≤ i). subst IsOn (omega (arith, two, less, same))
    (rises_pass Q 0 (moves_on (CountersList Q) w.moves) (w.signals Q) both.1))
    (cases_lt i (length w.run.objects + 1))

-- law: it fits
pub whole_fits : (w : Witness) → HasOthers w → IsWhole w → FitsIn w
whole_fits w others small =
    let s = w.script in
    let r = w.run in
    let of_looks = λ (lines : List TimerLine). list_all (is_under s) lines in
    let of_skips = λ (lines : List ObjectLine). list_all (is_refused_under s) lines in
    let passed = and_parts (are_sized w && are_signals w) (are_called w && (are_under w && are_there w)) small.passed in
    let whole = and_parts (are_sized w) (are_signals w) passed.0 in
    let tests = and_parts (are_called w) (are_under w && are_there w) passed.1 in
    let within = and_parts (are_under w) (are_there w) tests.1 in
    let sized = and_parts (nat_eq (length r.timers) (length s.timers) && nat_eq (length r.objects) (length s.timers))
    (nat_eq (length r.answers) s.lanes && nat_eq (length r.bases) s.bases) whole.0 in
    let more_sized = and_parts (nat_eq (length r.answers) s.lanes) (nat_eq (length r.bases) s.bases) sized.1 in
    let each_sized = and_parts (nat_eq (length r.timers) (length s.timers)) (nat_eq (length r.objects) (length s.timers)) sized.0 in
    let objects : length r.objects ≡ length s.timers = eqb-true (length r.objects) (length s.timers) each_sized.1 in
    let called = and_parts (are_calls s (clock_labels r)) (are_calls s (labels w)) tests.0 in
    let under = and_parts (list_all of_looks r.timers) (list_all of_skips r.objects) within.0 in
    let of_moves = λ (m : Move). is_list r 2 (owner_of m.shown) in
    let of_lanes = λ (c : LaneCall). nat_lt c.lane (length r.answers) in
    let of_rounds = λ (round : Round). list_all of_lanes round.calls in
    let there = and_parts (list_all of_moves w.moves) (list_all of_rounds s.rounds) within.1 in
    record {
      version = small.version;
      bases = eqb-true (length r.bases) s.bases more_sized.1;
      timers = eqb-true (length r.timers) (length s.timers) each_sized.0;
      objects = objects;
      lanes = eqb-true (length r.answers) s.lanes more_sized.0;
      clock_calls = calls_pass s (clock_labels r) called.0;
      move_calls = calls_pass s (labels w) called.1;
      looks = each_list (AllByRecursion (λ line. AreUnder s (map (λ look. look.label) line.looks))) r.timers tt
          (all_true (AllByRecursion (λ line. AreUnder s (map (λ look. look.label) line.looks))) of_looks
          (λ lines e. all_true (λ line. AreUnder s (map (λ look. look.label) line.looks)) (is_under s) (under_passes s) lines e) r.timers under.0);
      skips = each_list (AllByRecursion (λ line. AreSkipsUnder s (map (λ skip. skip.label) line.skips))) r.objects tt
          (all_true (AllByRecursion (λ line. AreSkipsUnder s (map (λ skip. skip.label) line.skips))) of_skips
          (λ lines e. all_true (λ line. AreSkipsUnder s (map (λ skip. skip.label) line.skips)) (is_refused_under s) (refused_passes s) lines e) r.objects
          under.1);
      writes = small.writes;
      history = record {
        all = each_owner (lists_in w) 2 w.moves there.0 small.all small.bases small.clock small.objects (small_rises w objects whole.1)
            (λ i far. others (suc i) (refuted _ (λ is. let same = eqb-true (suc i) (push_counter s) is in omega (arith, same, far, objects)))
            (refuted _ (λ is. let same = eqb-true (suc i) (pop_counter s) is in omega (arith, same, far, objects))));
        history = small.history;
      };
      object_histories = everywhere (λ i. IsLegalObject s r i (kind_of s i)) s.timers small.object_histories (λ i past.
          subst (IsLegalObject s r i) (sym (get_or_past (map (λ d. d.kind) s.timers) i (kinds.Raw contexts.Hard callbacks.Once)
          (subst (λ n. n ≤ i) (sym (length-map s.timers (λ d. d.kind))) past))) (get_or_past r.objects i [] (subst (λ n. n ≤ i) (sym objects) past)));
      clock_order = small.clock_order;
      order = small.order;
      signals = small_signals w others whole.1;
      calls = everywhere (λ lane. FitsLane w lane 0 unseen (calls_of s lane) (answers_of r lane)) r.answers
          small.lanes (λ lane past.
          subst (λ ps. FitsLane w lane 0 unseen ps (answers_of r lane)) (sym (no_calls lane 0 s.rounds
          (all_true (λ (round : Round). AllByRecursion (λ c. nat_eq c.lane lane ≡ false) round.calls) of_rounds
          (λ round e. all_true (λ c. nat_eq c.lane lane ≡ false) of_lanes
          (λ c less. other c.lane (length r.answers) lane less past) round.calls e) s.rounds there.1)))
          (subst (FitsLane w lane 0 unseen []) (sym (get_or_past r.answers lane [] past)) tt));
    }

small_fits : (w : Witness) → HasOthers w → IsSmall w → FitsIn w
small_fits w others small =
    let tests = and_parts (is_whole w) (are_ordered w) small.passed in
    let ordered = and_parts (are_in_order w.script (clock_labels w.run)) (are_in_order w.script (labels w)) tests.1 in
    whole_fits w others (record {
      version = small.version;
      passed = tests.0;
      clock_order = order_passes w.script (clock_labels w.run) ordered.0;
      order = order_passes w.script (labels w) ordered.1;
      writes = small.writes;
      all = small.all;
      bases = small.bases;
      clock = small.clock;
      objects = small.objects;
      history = small.history;
      object_histories = small.object_histories;
      lanes = both 0 w.run.answers small.placed small.calls;
    })
  where
    both : {X : Type 0} (n : ℕ) (xs : List X) → Along (λ lane. are_placed w lane 0 unseen (calls_of w.script lane) (answers_of w.run lane) ≡ true) n xs
        → Along (λ lane. AreRight w lane 0 (calls_of w.script lane) (answers_of w.run lane)) n xs
        → Along (λ lane. FitsLane w lane 0 unseen (calls_of w.script lane) (answers_of w.run lane)) n xs
    both n [] placed each = tt
    both n (x ∷ xs) placed each = (lane_fits w others n 0 unseen (calls_of w.script n) (answers_of w.run n) placed.0 each.0, both (n + 1) xs placed.1 each.1)

-- the same witness, where only the queue's counters have signals
abbrev pub heard : Witness → Witness
heard w = record w { signals = queue_of w.script (w.signals (push_counter w.script)) (w.signals (pop_counter w.script)) }

no_others : (w : Witness) → HasOthers (heard w)
no_others w k one two =
    ap (λ b. if b then w.signals (push_counter w.script) else if nat_eq k (pop_counter w.script) then w.signals (pop_counter w.script) else []) one
    ∙ ap (λ b. if b then w.signals (pop_counter w.script) else []) two

-- law: the record of a small witness fits its script
pub fits_by : (w : Witness) → IsSmall (heard w) → Fits w.script w.run
fits_by w small = (w.moves, (heard w).signals, w.traces, small_fits (heard w) (no_others w) small)
