-- What each call has in the record with a full queue: its moves, and its lines of the object.
use Rattle.std.proofs.Common.{◌≡◌, ◌+◌, ◌<◌, ℕ, zero, suc, true, false, List, [], ◌∷◌, ◌++◌, map, arith, refl, ap, ◌∙◌}
use Rattle.std.proofs.lemmas.Bool.Decides.{nat_tests}
use Rattle.record_text.specs.declared.record.Label.{Label}
use Rattle.record_text.specs.declared.record.ObjectEntry.{ObjectEntry}
use Rattle.record_text.specs.declared.record.ObjectLine.{ObjectLine}
use Rattle.run_history.specs.Actions.{also, own, own_looks, own_skips}
use Rattle.run_history.specs.Order.{is_label}
use Rattle.run_history.specs.Traces.{all_entered, own_moves}
use Rattle.run_history.specs.Witnesses.{Move, OfRise, OfTimer, Shown}
use Rattle.run_cases.specs.FullQueue.{set_and_expired, set_and_signalled}
use Rattle.run_cases.specs.Lines.{at, case_object_line, claim_entry, counted_entry, finish_entry, set_entry_of, set_start}
use Rattle.run_cases.proofs.FullQueue.{full_moves, full_trace, moves_from, moves_of, sent_moves, sent_trace, set_moves, set_trace, taken_moves}

pub is_same : (i : ℕ) → is_label (at 0 i) (at 0 i) ≡ true
is_same i = grind (arith, nat_tests)

pub is_earlier : (i j : ℕ) → i < j → is_label (at 0 i) (at 0 j) ≡ false
is_earlier i j less = grind (arith, nat_tests, less)

pub is_later : (i j : ℕ) → j < i → is_label (at 0 i) (at 0 j) ≡ false
is_later i j less = grind (arith, nat_tests, less)

-- ---- moves

-- a call's own moves, and those of another call
pub its_moves : (c : Label) (xs : List (ℕ × Shown)) (rest : List Move) → is_label c c ≡ true
    → own_moves c (moves_of c xs ++ rest) ≡ map (λ x. (x.0 + 1, x.1)) xs ++ own_moves c rest
its_moves c [] rest same = refl
its_moves c (x ∷ xs) rest same = ap (λ b. also b (x.0 + 1, x.1) (own_moves c (moves_of c xs ++ rest))) same
    ∙ ap (λ ys. (x.0 + 1, x.1) ∷ ys) (its_moves c xs rest same)

pub others_moves : (c l : Label) (xs : List (ℕ × Shown)) (rest : List Move) → is_label c l ≡ false → own_moves c (moves_of l xs ++ rest) ≡ own_moves c rest
others_moves c l [] rest other = refl
others_moves c l (x ∷ xs) rest other = ap (λ b. also b (x.0 + 1, x.1) (own_moves c (moves_of l xs ++ rest))) other ∙ others_moves c l xs rest other

-- nor has it that of the call that takes a signal
pub none_taken : (i c : ℕ) → i < c + 1 + 1 → own_moves (at 0 i) (moves_of (at 0 (c + 1 + 1)) taken_moves) ≡ []
none_taken i c less = ap (λ b. also b (1, OfRise 3) []) (is_earlier i (c + 1 + 1) less)

-- a call has no moves among those of later calls
pub no_moves : (i n c a b p : ℕ) → i < c → own_moves (at 0 i) (moves_from n c a b p) ≡ []
no_moves i zero c a b p less =
    others_moves (at 0 i) (at 0 c) (set_moves a b) (moves_of (at 0 (c + 1)) (full_moves (a + 1) (b + 1)) ++ moves_of (at 0 (c + 1 + 1)) taken_moves)
    (is_earlier i c less)
    ∙ others_moves (at 0 i) (at 0 (c + 1)) (full_moves (a + 1) (b + 1)) (moves_of (at 0 (c + 1 + 1)) taken_moves)
    (is_earlier i (c + 1) (omega (arith, less)))
    ∙ none_taken i c (omega (arith, less))
no_moves i (suc n) c a b p less =
    others_moves (at 0 i) (at 0 c) (set_moves a b) (moves_of (at 0 (c + 1)) (sent_moves (a + 1) (b + 1) p)
    ++ moves_from n (c + 1 + 1) (a + 1 + 1 + 1) (b + 1 + 1) (p + 1))
    (is_earlier i c less)
    ∙ others_moves (at 0 i) (at 0 (c + 1)) (sent_moves (a + 1) (b + 1) p) (moves_from n (c + 1 + 1) (a + 1 + 1 + 1) (b + 1 + 1) (p + 1))
    (is_earlier i (c + 1) (omega (arith, less)))
    ∙ no_moves i n (c + 1 + 1) (a + 1 + 1 + 1) (b + 1 + 1) (p + 1) (omega (arith, less))

made_twice : (b : ℕ) → b + b + 1 + 1 ≡ (b + 1) + (b + 1)
made_twice b = omega arith

-- what a settime made, where it made nothing behind
pub set_own : (c a b m : ℕ) (rest : List Move) → own_moves (at 0 c) rest ≡ []
    → own_moves (at 0 c) (moves_of (at 0 c) (set_moves a b) ++ rest) ≡ all_entered (set_trace a b m).actions
set_own c a b m rest none =
    its_moves (at 0 c) (set_moves a b) rest (is_same c) ∙ ap (λ ys. map (λ (x : ℕ × Shown). (x.0 + 1, x.1)) (set_moves a b) ++ ys) none
    ∙ ap (λ k. (b + b + 1, OfRise 1) ∷ (a + 1, OfTimer 0 (set_start 100 1 false)) ∷ (k, OfRise 1) ∷ []) (made_twice b)

-- and an expiry
pub sent_own : (c a b p m : ℕ) (rest : List Move) → own_moves (at 0 c) rest ≡ []
    → own_moves (at 0 c) (moves_of (at 0 c) (sent_moves a b p) ++ rest) ≡ all_entered (sent_trace a b p m).actions
sent_own c a b p m rest none =
    its_moves (at 0 c) (sent_moves a b p) rest (is_same c) ∙ ap (λ ys. map (λ (x : ℕ × Shown). (x.0 + 1, x.1)) (sent_moves a b p) ++ ys) none
    ∙ ap (λ k. (a + 1, OfTimer 0 (claim_entry 0 1 a)) ∷ (b + b + 1, OfRise 1) ∷ (p + 1, OfRise 2) ∷ (k, OfRise 1)
    ∷ (a + 1 + 1, OfTimer 0 (finish_entry false a)) ∷ []) (made_twice b)

pub full_own : (c a b m : ℕ) (rest : List Move) → own_moves (at 0 c) rest ≡ []
    → own_moves (at 0 c) (moves_of (at 0 c) (full_moves a b) ++ rest) ≡ all_entered (full_trace a b m).actions
full_own c a b m rest none =
    its_moves (at 0 c) (full_moves a b) rest (is_same c) ∙ ap (λ ys. map (λ (x : ℕ × Shown). (x.0 + 1, x.1)) (full_moves a b) ++ ys) none
    ∙ ap (λ k. (a + 1, OfTimer 0 (claim_entry 0 1 a)) ∷ (b + b + 1, OfRise 1) ∷ (k, OfRise 1)
    ∷ (a + 1 + 1, OfTimer 0 (finish_entry false a)) ∷ []) (made_twice b)

-- ---- lines of the object

-- a call's entries among lines that are numbered from here
abbrev pub own_entries : Label → ℕ → List ObjectLine → List (ℕ × ObjectEntry)
own_entries c number lines = own (λ line. line.label) (λ line. line.entry) c number lines

pub its_line : (c number : ℕ) (entry : ObjectEntry) (rest : List ObjectLine) → is_label (at 0 c) (at 0 c) ≡ true
    → own_entries (at 0 c) number (case_object_line 0 c entry ∷ rest) ≡ (number, entry) ∷ own_entries (at 0 c) (number + 1) rest
its_line c number entry rest same = ap (λ b. also b (number, entry) (own_entries (at 0 c) (number + 1) rest)) same

pub others_line : (i c number : ℕ) (entry : ObjectEntry) (rest : List ObjectLine) → is_label (at 0 i) (at 0 c) ≡ false
    → own_entries (at 0 i) number (case_object_line 0 c entry ∷ rest) ≡ own_entries (at 0 i) (number + 1) rest
others_line i c number entry rest other = ap (λ b. also b (number, entry) (own_entries (at 0 i) (number + 1) rest)) other

pub no_lines : (last : ℕ → ObjectEntry) (i number n c a : ℕ) → i < c → own_entries (at 0 i) number (set_and_signalled last n c a) ≡ []
no_lines last i number zero c a less =
    others_line i c number (set_entry_of 100 1 (a + 1) 0) (case_object_line 0 (c + 1) (last (a + 1)) ∷ [])
    (is_earlier i c less)
    ∙ others_line i (c + 1) (number + 1) (last (a + 1)) []
    (is_earlier i (c + 1) (omega (arith, less)))
no_lines last i number (suc n) c a less =
    others_line i c number (set_entry_of 100 1 (a + 1) 0) (case_object_line 0 (c + 1) (counted_entry (a + 1) 1)
    ∷ set_and_signalled last n (c + 1 + 1) (a + 1 + 1 + 1))
    (is_earlier i c less)
    ∙ others_line i (c + 1) (number + 1) (counted_entry (a + 1) 1) (set_and_signalled last n (c + 1 + 1) (a + 1 + 1 + 1))
    (is_earlier i (c + 1) (omega (arith, less)))
    ∙ no_lines last i (number + 1 + 1) n (c + 1 + 1) (a + 1 + 1 + 1) (omega (arith, less))

-- nothing hangs under a line
pub no_looks : (c : Label) (number n call before : ℕ) → own_looks c number (set_and_expired n call before) ≡ []
no_looks c number zero call before = refl
no_looks c number (suc n) call before = no_looks c (number + 1 + 1 + 1) n (call + 1 + 1) (before + 1 + 1 + 1)

pub no_skips : (c : Label) (last : ℕ → ObjectEntry) (number n call before : ℕ) → own_skips c number (set_and_signalled last n call before) ≡ []
no_skips c last number zero call before = refl
no_skips c last number (suc n) call before = no_skips c last (number + 1 + 1) n (call + 1 + 1) (before + 1 + 1 + 1)
