-- The calls of the record with a full queue fit in their turn, and so the record fits. From one settime on: n times a settime and an expiry that counts
-- are left but for the last; c is the settime's call, and before it the timer had a entries, its object b, the queue p pushes, and the order m moves.
use Rattle.std.proofs.Common.{◌≡◌, ◌+◌, ◌<◌, ◌≤◌, le_refl, ◌&&◌, ℕ, zero, suc, true, nat_eq, List, [], ◌∷◌, ◌++◌, filter, get_or, map, arith, refl, ap, ◌∙◌, subst}
use Rattle.std.proofs.lemmas.Bool.{and_parts}
use Rattle.record_text.specs.declared.record.Answer.TheVariants as answers
use Rattle.record_text.specs.declared.record.ObjectEntry.{ObjectEntry}
use Rattle.record_text.specs.declared.record.ObjectLine.{ObjectLine}
use Rattle.record_text.specs.declared.record.ObjectEntry.TheVariants as object_entries
use Rattle.script_text.specs.declared.script.LaneCall.{LaneCall}
use Rattle.run_history.specs.Actions.{also}
use Rattle.run_history.specs.Fits.{Fits, FitsLane, Seen}
use Rattle.run_history.specs.Objects.{lines_of_object}
use Rattle.run_history.specs.Order.{CallInRound}
use Rattle.run_history.specs.Traces.{all_entered, own_moves}
use Rattle.run_history.specs.Witnesses.{Move, OfRise, Shown, Trace}
use Rattle.run_cases.specs.FullQueue.{full_queue_record, full_queue_script, set_and_expire, set_and_signalled, set_and_told}
use Rattle.run_cases.specs.Lines.{at, by, case_object_line, counted_entry, hard_expire, set_entry_of, settime_to}
use Rattle.run_cases.proofs.Small.{whole_fits}
use Rattle.run_cases.proofs.FullQueueHistory.{is_history, is_object_history}
use Rattle.run_cases.proofs.FullQueue.{full_trace, are_computed, computed, full_witness, is_called, is_full, is_sent, is_set, full_moves, moves_from, moves_of, sent_moves, sent_trace, set_moves, set_trace, taken_moves, traces_from}
use Rattle.run_cases.proofs.FullQueueOwn.{full_own, is_earlier, is_later, is_same, its_line, no_lines, no_moves, none_taken, others_line, others_moves, own_entries, sent_own, set_own}
use Rattle.run_cases.proofs.FullQueuePlaces.{is_in_order}
use Rattle.run_cases.proofs.Tests.{le, lt}
use Rattle.run_cases.proofs.Witnesses.{did}
use Rattle.run_cases.proofs.FullQueueCalls.{Own, called_passes, clock_fits, full_fits, its_turn, no_others, sent_fits, set_fits, taken_fits}

-- so many times: the calls as a lane makes them
abbrev pub called_from : ℕ → List CallInRound
called_from n = map (λ (c : LaneCall). record { round = 0; call = c.call }) (filter (λ (c : LaneCall). nat_eq c.lane 0) (map (by 0) (set_and_expire n))) ++ []

-- what calls from this one on have in the record
record Left (n c a b p m : ℕ) : Type 0 where
  traces : (i : ℕ) → full_witness.traces (at 0 (c + i)) ≡ get_or (traces_from n a b p m) i (did 0 [] 0 0)
  moves : (i : ℕ) → c ≤ i → own_moves (at 0 i) full_witness.moves ≡ own_moves (at 0 i) (moves_from n c a b p)
  entries : (i : ℕ) → c ≤ i → own_entries (at 0 i) 1 (lines_of_object full_queue_record 0)
      ≡ own_entries (at 0 i) (b + 1) (set_and_signalled (λ g. object_entries.Overflow g 1) n c a)

start_is : (c : ℕ) → c + 0 ≡ c
start_is c = omega arith

-- a settime and the expiry behind it have these, where what is behind them is of later calls
both_own : (c a b m : ℕ) (xs : List (ℕ × Shown)) (entry : ObjectEntry) (rest : List Move) (lines : List ObjectLine) (t : Trace)
    → full_witness.traces (at 0 (c + 0)) ≡ set_trace a b m → full_witness.traces (at 0 (c + 1)) ≡ t
    → ((i : ℕ) → c ≤ i
    → own_moves (at 0 i) full_witness.moves ≡ own_moves (at 0 i) (moves_of (at 0 c) (set_moves a b) ++ moves_of (at 0 (c + 1)) xs ++ rest))
    → ((i : ℕ) → c ≤ i → own_entries (at 0 i) 1 (lines_of_object full_queue_record 0)
    ≡ own_entries (at 0 i) (b + 1) (case_object_line 0 c (set_entry_of 100 1 (a + 1) 0) ∷ case_object_line 0 (c + 1) entry ∷ lines))
    → ((i : ℕ) → i < c + 1 + 1 → own_moves (at 0 i) rest ≡ []) → ((i : ℕ) → i < c + 1 + 1 → own_entries (at 0 i) (b + 1 + 1 + 1) lines ≡ [])
    → own_moves (at 0 (c + 1)) (moves_of (at 0 (c + 1)) xs ++ rest) ≡ all_entered t.actions
    → Own c b (set_trace a b m) ((b + 1, set_entry_of 100 1 (a + 1) 0) ∷ []) × Own (c + 1) (b + 1) t ((b + 1 + 1, entry) ∷ [])
both_own c a b m xs entry rest lines t one two moves entries none no_entry second =
    let set = set_entry_of 100 1 (a + 1) 0 in (
      record {
        trace = subst (λ j. full_witness.traces (at 0 j) ≡ set_trace a b m) (start_is c) one;
        moves = moves c (le_refl c) ∙ set_own c a b m (moves_of (at 0 (c + 1)) xs ++ rest)
            (others_moves (at 0 c) (at 0 (c + 1)) xs rest (is_earlier c (c + 1) (omega arith)) ∙ none c (omega arith));
        entries = entries c (le_refl c) ∙ its_line c (b + 1) set (case_object_line 0 (c + 1) entry ∷ lines) (is_same c)
            ∙ ap (λ xs. (b + 1, set) ∷ xs)
            (others_line c (c + 1) (b + 1 + 1) entry lines (is_earlier c (c + 1) (omega arith)) ∙ no_entry c (omega arith));
      },
      record {
        trace = two;
        moves = moves (c + 1) (omega arith)
            ∙ others_moves (at 0 (c + 1)) (at 0 c) (set_moves a b) (moves_of (at 0 (c + 1)) xs ++ rest) (is_later (c + 1) c (omega arith)) ∙ second;
        entries = entries (c + 1) (omega arith)
            ∙ others_line (c + 1) c (b + 1) set (case_object_line 0 (c + 1) entry ∷ lines) (is_later (c + 1) c (omega arith))
            ∙ its_line (c + 1) (b + 1 + 1) entry lines (is_same (c + 1)) ∙ ap (λ xs. (b + 1 + 1, entry) ∷ xs) (no_entry (c + 1) (omega arith));
      },
    )

-- and then what is behind them has these
next_left : (n c a b p m : ℕ) → Left (suc n) c a b p m
    → Left n (c + 1 + 1) (a + 1 + 1 + 1) (b + 1 + 1) (p + 1) (m + 1 + 1 + 1 + 1 + 1 + 1 + 1 + 1)
next_left n c a b p m left =
    let rest = moves_from n (c + 1 + 1) (a + 1 + 1 + 1) (b + 1 + 1) (p + 1) in
    let lines = set_and_signalled (λ g. object_entries.Overflow g 1) n (c + 1 + 1) (a + 1 + 1 + 1) in
    let all = traces_from n (a + 1 + 1 + 1) (b + 1 + 1) (p + 1) (m + 1 + 1 + 1 + 1 + 1 + 1 + 1 + 1) in
    record {
      traces = λ i. subst (λ j. full_witness.traces (at 0 j) ≡ get_or all i (did 0 [] 0 0)) (two_on c i) (left.traces (suc (suc i)));
      moves = λ i less. left.moves i (omega (arith, less))
          ∙ others_moves (at 0 i) (at 0 c) (set_moves a b) (moves_of (at 0 (c + 1)) (sent_moves (a + 1) (b + 1) p) ++ rest)
          (is_later i c (omega (arith, less)))
          ∙ others_moves (at 0 i) (at 0 (c + 1)) (sent_moves (a + 1) (b + 1) p) rest (is_later i (c + 1) (omega (arith, less)));
      entries = λ i less. left.entries i (omega (arith, less))
          ∙ others_line i c (b + 1) (set_entry_of 100 1 (a + 1) 0) (case_object_line 0 (c + 1) (counted_entry (a + 1) 1) ∷ lines)
          (is_later i c (omega (arith, less)))
          ∙ others_line i (c + 1) (b + 1 + 1) (counted_entry (a + 1) 1) lines (is_later i (c + 1) (omega (arith, less)));
    }
  where
    two_on : (c i : ℕ) → c + suc (suc i) ≡ c + 1 + 1 + i
    two_on c i = omega arith

-- so the lane's calls fit from this one on
lane_from : (n c a b p m : ℕ) (before : Seen) → c + (n + n) ≡ 129 → m + (n + n + n + n + n + n + n + n) ≡ 513 → before.clock ≤ 1 → before.moves ≤ m
    → are_computed n c a b m ≡ true → Left n c a b p m → FitsLane full_witness 0 c before (called_from (suc n)) (set_and_told (suc n))
lane_from zero c a b p m before few many seen_clock seen_moves e left =
    let halves = and_parts (is_called c m && is_set c a b m) (is_called (c + 1) (m + 1 + 1 + 1) && is_full (c + 1) (m + 1 + 1 + 1)) e in
    let one = and_parts (is_called c m) (is_set c a b m) halves.0 in
    let two = and_parts (is_called (c + 1) (m + 1 + 1 + 1)) (is_full (c + 1) (m + 1 + 1 + 1)) halves.1 in
    let seen : Seen = record { clock = 1; moves = m + 1 + 1 + 1 } in
    let t = full_trace (a + 1) (b + 1) (m + 1 + 1 + 1) in
    let first = called_passes c m (omega (arith, few)) one.0 in
    let second = called_passes (c + 1) (m + 1 + 1 + 1) (omega (arith, few)) two.0 in
    let both = both_own c a b m (full_moves (a + 1) (b + 1)) (object_entries.Overflow (a + 1) 1)
    (moves_of (at 0 (c + 1 + 1)) taken_moves) [] t (left.traces 0) (left.traces 1) left.moves left.entries
    (λ i less. none_taken i c less) (λ i less. refl)
    (full_own (c + 1) (a + 1) (b + 1) (m + 1 + 1 + 1) (moves_of (at 0 (c + 1 + 1)) taken_moves) (none_taken (c + 1) c (omega arith))) in (
      seen,
      its_turn c m b before (set_trace a b m) (settime_to 100) (answers.Old 0 0) seen_moves refl refl first both.0
          (set_fits c a b m before (omega (arith, few)) seen_clock seen_moves first one.1 both.0),
      (
        record { clock = 1; moves = m + 1 + 1 + 1 + 1 + 1 + 1 + 1 },
        its_turn (c + 1) (m + 1 + 1 + 1) (b + 1) seen t (hard_expire 0 1) (answers.More 1 (0 ∷ [])) (le_refl (m + 1 + 1 + 1)) refl refl second both.1
            (full_fits (c + 1) (a + 1) (b + 1) (m + 1 + 1 + 1) seen (omega (arith, few)) (le_refl 1) (le_refl (m + 1 + 1 + 1)) second two.1 both.1),
        subst (λ k. FitsLane full_witness 0 k (record { clock = 1; moves = m + 1 + 1 + 1 + 1 + 1 + 1 + 1 }) (called_from 0) (set_and_told 0))
            (omega (arith, few))
            (subst (λ k. FitsLane full_witness 0 131 (record { clock = 1; moves = k }) (called_from 0) (set_and_told 0)) (omega (arith, many))
            (record { clock = 1; moves = 521 }, taken_fits, tt)),
      ),
    )
lane_from (suc n) c a b p m before few many seen_clock seen_moves e left =
    let halves = and_parts ((is_called c m && is_set c a b m) && (is_called (c + 1) (m + 1 + 1 + 1) && is_sent (c + 1) (m + 1 + 1 + 1)))
    (are_computed n (c + 1 + 1) (a + 1 + 1 + 1) (b + 1 + 1) (m + 1 + 1 + 1 + 1 + 1 + 1 + 1 + 1)) e in
    let tests = and_parts (is_called c m && is_set c a b m) (is_called (c + 1) (m + 1 + 1 + 1) && is_sent (c + 1) (m + 1 + 1 + 1)) halves.0 in
    let one = and_parts (is_called c m) (is_set c a b m) tests.0 in
    let two = and_parts (is_called (c + 1) (m + 1 + 1 + 1)) (is_sent (c + 1) (m + 1 + 1 + 1)) tests.1 in
    let seen : Seen = record { clock = 1; moves = m + 1 + 1 + 1 } in
    let behind : Seen = record { clock = 1; moves = m + 1 + 1 + 1 + 1 + 1 + 1 + 1 + 1 } in
    let t = sent_trace (a + 1) (b + 1) p (m + 1 + 1 + 1) in
    let rest = moves_from n (c + 1 + 1) (a + 1 + 1 + 1) (b + 1 + 1) (p + 1) in
    let first = called_passes c m (omega (arith, few)) one.0 in
    let second = called_passes (c + 1) (m + 1 + 1 + 1) (omega (arith, few)) two.0 in
    let both = both_own c a b m (sent_moves (a + 1) (b + 1) p) (counted_entry (a + 1) 1) rest
    (set_and_signalled (λ g. object_entries.Overflow g 1) n (c + 1 + 1) (a + 1 + 1 + 1)) t (left.traces 0) (left.traces 1) left.moves left.entries
    (λ i less. no_moves i n (c + 1 + 1) (a + 1 + 1 + 1) (b + 1 + 1) (p + 1) less)
    (λ i less. no_lines (λ g. object_entries.Overflow g 1) i (b + 1 + 1 + 1) n (c + 1 + 1) (a + 1 + 1 + 1) less)
    (sent_own (c + 1) (a + 1) (b + 1) p (m + 1 + 1 + 1) rest (no_moves (c + 1) n (c + 1 + 1) (a + 1 + 1 + 1) (b + 1 + 1) (p + 1) (omega arith))) in (
      seen,
      its_turn c m b before (set_trace a b m) (settime_to 100) (answers.Old 0 0) seen_moves refl refl first both.0
          (set_fits c a b m before (omega (arith, few)) seen_clock seen_moves first one.1 both.0),
      (
        behind,
        its_turn (c + 1) (m + 1 + 1 + 1) (b + 1) seen t (hard_expire 0 1) (answers.More 1 (0 ∷ [])) (le_refl (m + 1 + 1 + 1)) refl refl second both.1
            (sent_fits (c + 1) (a + 1) (b + 1) p (m + 1 + 1 + 1) seen (omega (arith, few)) (le_refl 1) (le_refl (m + 1 + 1 + 1)) second two.1 both.1),
        lane_from n (c + 1 + 1) (a + 1 + 1 + 1) (b + 1 + 1) (p + 1) (m + 1 + 1 + 1 + 1 + 1 + 1 + 1 + 1) behind (omega (arith, few))
            (omega (arith, many)) (le_refl 1)
            (le_refl (m + 1 + 1 + 1 + 1 + 1 + 1 + 1 + 1)) halves.1 (next_left n c a b p m left),
      ),
    )

-- what the calls behind it have
all_left : Left 64 1 0 0 0 1
all_left = record {
  traces = λ i. subst (λ j. full_witness.traces (at 0 j) ≡ get_or (traces_from 64 0 0 0 1) i (did 0 [] 0 0)) (one_on i) refl;
  moves = λ i less. ap (λ b. also b (1, OfRise 0) (own_moves (at 0 i) (moves_from 64 1 0 0 0))) (is_later i 0 (omega (arith, less)));
  entries = λ i less. refl;
}
  where
    one_on : (i : ℕ) → suc i ≡ 1 + i
    one_on i = omega arith

-- law: the record fits
pub full_queue_fits : Fits full_queue_script full_queue_record
full_queue_fits = (
  full_witness.moves,
  full_witness.signals,
  full_witness.traces,
  whole_fits full_witness no_others (record {
    version = refl;
    passed = refl;
    clock_order = (tt, tt);
    order = is_in_order;
    writes = (record { counted = lt refl; timely = le refl }, record { mono = refl; real = refl; boot = refl; changes = refl }, tt);
    all = (refl, tt);
    bases = (refl, tt);
    clock = refl;
    objects = (refl, tt);
    history = is_history;
    object_histories = (is_object_history, tt);
    lanes = (
      (
        record { clock = 1; moves = 1 },
        clock_fits,
        lane_from 64 1 0 0 0 1 (record { clock = 1; moves = 1 }) (omega arith) (omega arith) (le_refl 1)
            (le_refl 1) computed
            all_left,
      ),
      tt,
    );
  }),
)
