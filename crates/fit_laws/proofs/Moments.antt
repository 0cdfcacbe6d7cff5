-- What a moment has seen of a call: its last entry, all its entries, or none of them; and how often an object's counter has risen there.
use Rattle.std.proofs.Common.{◌≡◌, ◌<◌, ◌≤◌, ℕ, zero, suc, ◌+◌, true, false, nat_eq, if◌then◌else◌, Some, List, [], ◌∷◌, ◌++◌, filter, length, map, take, arith, refl, sym, ap, ◌∙◌}
use Rattle.std.specs.List.{slice_get}
use Rattle.std.proofs.Math.Logic.{⊎_elim}
use Rattle.std.proofs.lemmas.Bool.{cases_lt, true≢false}
use Rattle.std.proofs.lemmas.List.{take-map}
use Rattle.std.proofs.lemmas.Option.{same_Some}
use Rattle.seq_timer.specs.Systems.{rises_of}
use Rattle.record_text.specs.declared.record.Answer.{Answer}
use Rattle.record_text.specs.declared.record.ClockLine.{ClockLine}
use Rattle.record_text.specs.declared.record.Label.{Label}
use Rattle.script_text.specs.declared.script.Call.{Call}
use Rattle.run_history.specs.Actions.{Action, also}
use Rattle.run_history.specs.Order.{is_label, made_by}
use Rattle.run_history.specs.Fits.{FitsCall, Seen}
use Rattle.run_history.specs.Truths.{AreTrue, IsMoment}
use Rattle.run_history.specs.Traces.{own_moves}
use Rattle.run_history.specs.Witnesses.{CountersList, IsOneHistory, Move, OfBase, OfRise, OfTimer, Owner, Shown, TimersList, Witness, entry_of_move, entry_of_shown, is_owner, lines_at, moves_from, moves_on, owner_of, timer_along, turns_along, writes_along}
use Rattle.run_history.proofs.Labels.{label_itself}
use Rattle.fit_laws.proofs.EachTimer.{stands}
use Rattle.fit_laws.proofs.OwnParts.{count_moves, on_here, on_rises, own_rises}
use Rattle.fit_laws.proofs.OwnPoints.{before_there, lists_in, stamp_then}

-- ---- counts

-- a counter has risen as often as its moves stand among these
rises_on : (k : ℕ) (clock : List ClockLine) (ms : List Move) → rises_of k (map (entry_of_move clock) ms) ≡ length (moves_on (CountersList k) ms)
rises_on k clock [] = refl
rises_on k clock (m ∷ ms) = one m.shown (rises_on k clock ms)
  where
    one : (shown : Shown) → rises_of k (map (entry_of_move clock) ms) ≡ length (moves_on (CountersList k) ms)
        → rises_of k (entry_of_shown clock shown ∷ map (entry_of_move clock) ms)
        ≡ length (also (is_owner (owner_of shown) (CountersList k)) m (moves_on (CountersList k) ms))
    one (OfTimer t entry) rest = rest
    one (OfBase b event) rest = rest
    one (OfRise j) rest =
        elim (nat_eq j k) as (λ b. (if b then rises_of k (map (entry_of_move clock) ms) + 1 else rises_of k (map (entry_of_move clock) ms))
        ≡ length (also b m (moves_on (CountersList k) ms))) [
          | true ↦ omega (arith, rest)
          | false ↦ rest
        ]

-- law: at a moment a counter has risen as often as its moves stand before it
pub rises_counted : (w : Witness) (k n : ℕ) → rises_of k (take n (map (entry_of_move w.run.clock) w.moves))
    ≡ length (moves_on (CountersList k) (take n w.moves))
rises_counted w k n = ap (rises_of k) (take-map (entry_of_move w.run.clock) n w.moves) ∙ rises_on k w.run.clock (take n w.moves)

-- law: there are no fewer writes later
pub writes_rise : (w : Witness) (a b : ℕ) → a ≤ b → writes_along w a ≤ writes_along w b
writes_rise w a b le = omega (arith, on_rises (CountersList 0) w.moves a b le, rises_counted w 0 a, rises_counted w 0 b)

-- law: an object's counter has risen no less often later
pub turns_rise : (w : Witness) (i a b : ℕ) → a ≤ b → turns_along w a i ≤ turns_along w b i
turns_rise w i a b le =
    omega (arith, on_rises (CountersList (suc i)) w.moves a b le, rises_counted w (suc i) a, rises_counted w (suc i) b)

-- at a call's place it makes one more
pub own_here : (c : Label) (p : ℕ) (ms : List Move) (m : Move) → slice_get ms p ≡ Some m → m.label ≡ c
    → length (own_moves c (take (suc p) ms)) ≡ suc (length (own_moves c (take p ms)))
own_here c p [] m at label = absurd (cc)
own_here c zero (x ∷ ms) m at label =
    let e : ℕ × Shown = (x.before + 1, x.shown) in
    ap (λ b. length (also b e [])) (ap (λ (y : Move). is_label c y.label) (same_Some x m at) ∙ ap (is_label c) label ∙ label_itself c)
own_here c (suc p) (x ∷ ms) m at label =
    elim (is_label c x.label) as (λ b. length (also b (x.before + 1, x.shown) (own_moves c (take (suc p) ms)))
    ≡ suc (length (also b (x.before + 1, x.shown) (own_moves c (take p ms))))) [
      | true ↦ ap suc (own_here c p ms m at label)
      | false ↦ own_here c p ms m at label
    ]

-- ---- lines of a call

-- while a call has made no entry, a list doesn't reach to a line of it
not_yet : (o : Owner) (c : Label) (n k : ℕ) (ms : List Move) → slice_get (map (λ m. m.label) (moves_on o ms)) k ≡ Some c
    → made_by c (take n (map (λ m. m.label) ms)) ≡ 0 → length (moves_on o (take n ms)) ≤ k
not_yet o c n k [] line none = absurd (cc)
not_yet o c zero k (m ∷ ms) line none = omega arith
not_yet o c (suc n) k (m ∷ ms) line none =
    elim (is_label c m.label) as (λ b. is_label c m.label ≡ b
    → length (if b then m.label ∷ filter (is_label c) (take n (map (λ m. m.label) ms)) else filter (is_label c) (take n (map (λ m. m.label) ms))) ≡ 0
    → length (moves_on o (take (suc n) (m ∷ ms))) ≤ k) [
      | true ↦ λ is none. absurd (cc)
      | false ↦ λ other none. elim (is_owner (owner_of m.shown) o) as (λ q. slice_get (map (λ m. m.label) (also q m (moves_on o ms))) k ≡ Some c
          → length (also q m (moves_on o (take n ms))) ≤ k) [
            | true ↦ λ line. here k other line (λ k line. not_yet o c n k ms line none)
            | false ↦ λ line. not_yet o c n k ms line none
          ] line
    ] refl none
  where
    here : (k : ℕ) → is_label c m.label ≡ false → slice_get (m.label ∷ map (λ m. m.label) (moves_on o ms)) k ≡ Some c
        → ((k : ℕ) → slice_get (map (λ m. m.label) (moves_on o ms)) k ≡ Some c → length (moves_on o (take n ms)) ≤ k)
        → suc (length (moves_on o (take n ms))) ≤ k
    here zero other line further =
        absurd (true≢false (sym (label_itself c) ∙ ap (is_label c) (sym (same_Some m.label c line)) ∙ other))
    here (suc k) other line further = let rest = further k line in omega (arith, rest)

-- a call that a line is of has made an entry
some_own : (o : Owner) (c : Label) (k : ℕ) (ms : List Move) → slice_get (map (λ m. m.label) (moves_on o ms)) k ≡ Some c → 0 < length (own_moves c ms)
some_own o c k [] line = absurd (cc)
some_own o c k (m ∷ ms) line =
    elim (is_label c m.label) as (λ b. is_label c m.label ≡ b → 0 < length (also b (m.before + 1, m.shown) (own_moves c ms))) [
      | true ↦ λ is. omega arith
      | false ↦ λ other. elim (is_owner (owner_of m.shown) o) as (λ q. slice_get (map (λ m. m.label) (also q m (moves_on o ms))) k ≡ Some c
          → 0 < length (own_moves c ms)) [
            | true ↦ λ line. here k other line (λ k line. some_own o c k ms line)
            | false ↦ λ line. some_own o c k ms line
          ] line
    ] refl
  where
    here : (k : ℕ) → is_label c m.label ≡ false → slice_get (m.label ∷ map (λ m. m.label) (moves_on o ms)) k ≡ Some c
        → ((k : ℕ) → slice_get (map (λ m. m.label) (moves_on o ms)) k ≡ Some c → 0 < length (own_moves c ms)) → 0 < length (own_moves c ms)
    here zero other line further =
        absurd (true≢false (sym (label_itself c) ∙ ap (is_label c) (sym (same_Some m.label c line)) ∙ other))
    here (suc k) other line further = further k line

-- once a call has made all its entries, a list reaches past each line of it
all_there : (o : Owner) (c : Label) (n k : ℕ) (ms : List Move) → slice_get (map (λ m. m.label) (moves_on o ms)) k ≡ Some c
    → length (own_moves c ms) ≤ length (own_moves c (take n ms)) → k < length (moves_on o (take n ms))
all_there o c n k [] line all = absurd (cc)
all_there o c zero k (m ∷ ms) line all = let some = some_own o c k (m ∷ ms) line in absurd (omega (arith, some, all))
all_there o c (suc n) k (m ∷ ms) line all =
    let rest = less all in
    elim (is_owner (owner_of m.shown) o) as (λ q. slice_get (map (λ m. m.label) (also q m (moves_on o ms))) k ≡ Some c
    → k < length (also q m (moves_on o (take n ms)))) [
      | true ↦ λ line. here k line (λ k line. all_there o c n k ms line rest)
      | false ↦ λ line. all_there o c n k ms line rest
    ] line
  where
    less : length (own_moves c (m ∷ ms)) ≤ length (own_moves c (take (suc n) (m ∷ ms))) → length (own_moves c ms) ≤ length (own_moves c (take n ms))
    less all = elim (is_label c m.label) as (λ b. length (also b (m.before + 1, m.shown) (own_moves c ms))
        ≤ length (also b (m.before + 1, m.shown) (own_moves c (take n ms))) → length (own_moves c ms) ≤ length (own_moves c (take n ms))) [
          | true ↦ λ all. omega (arith, all)
          | false ↦ λ all. all
        ] all

    here : (k : ℕ) → slice_get (m.label ∷ map (λ m. m.label) (moves_on o ms)) k ≡ Some c
        → ((k : ℕ) → slice_get (map (λ m. m.label) (moves_on o ms)) k ≡ Some c → k < length (moves_on o (take n ms)))
        → k < suc (length (moves_on o (take n ms)))
    here zero line further = omega arith
    here (suc k) line further = let rest = further k line in omega (arith, rest)

-- the line of this number in a list, where the first is numbered 0, bears this label
abbrev pub IsLineOf : Witness → Owner → ℕ → Label → Type 0
IsLineOf w o k c = slice_get (map (λ m. m.label) (moves_from 0 (lines_at (lists_in w) o))) k ≡ Some c

-- at this moment a call has made all its entries
abbrev pub HasAll : Witness → Label → ℕ → Type 0
HasAll w c n = length (own_moves c w.moves) ≤ length (own_moves c (take n w.moves))

-- law: what a call did took no moment behind its last one
pub ends_later : (w : Witness) (c : Label) (from : ℕ) (done ds : List Action) (last : ℕ) → AreTrue w c from done ds last → from ≤ last
ends_later w c from done [] last truth = truth
ends_later w c from done (d ∷ ds) last truth =
    let rest = ends_later w c truth.0 (done ++ d ∷ []) ds last truth.3 in omega (arith, truth.1, rest)

-- law: a call has made all its entries at its last moment, and so at all moments behind those that its lane has seen then
pub all_since : {w : Witness} {c : Label} {call : Call} {answer : Answer} {before after : Seen} (n : ℕ) → FitsCall w c call answer before after
    → after.moves ≤ n → HasAll w c n
all_since {w} {c} n fits le =
    let last = (w.traces c).last in
    let rise = own_rises c w.moves last n (omega (arith, fits.move_steps.1, le)) in
    omega (
      arith,
      rise,
      ap length fits.traced.moves,
      fits.ends.so_many,
      ap (made_by c) (take-map (λ (m : Move). m.label) last w.moves) ∙ count_moves c (take last w.moves),
    )

-- law: a call's lane has seen no less after it than before it
pub seen_more : {w : Witness} {c : Label} {call : Call} {answer : Answer} {before after : Seen} → FitsCall w c call answer before after
    → before.moves ≤ after.moves
seen_more {w} {c} fits =
    let t = w.traces c in
    let within = ends_later w c t.first [] t.actions t.last fits.truth in
    omega (arith, fits.move_steps.0, within, fits.move_steps.1)

module _ (w : Witness) (history : IsOneHistory w) where
  -- law: at a moment at which a call has made no entry a list doesn't reach to a line of it
  pub none_yet : (o : Owner) (c : Label) (k n : ℕ) → IsLineOf w o k c → IsMoment w c [] n → length (moves_on o (take n w.moves)) ≤ k
  none_yet o c k n line begins = not_yet o c n k w.moves (ap (λ ms. slice_get (map (λ m. m.label) ms) k) (history.all o) ∙ line) begins.so_many

  -- law: an object's list neither
  pub none_made : (i : ℕ) (c : Label) (k n : ℕ) → IsLineOf w (CountersList (suc i)) k c → IsMoment w c [] n → turns_along w n i ≤ k
  none_made i c k n line begins = omega (arith, rises_counted w (suc i) n, none_yet (CountersList (suc i)) c k n line begins)

  -- law: at a moment at which a call has made all its entries a list reaches past each line of it
  pub all_yet : (o : Owner) (c : Label) (k n : ℕ) → IsLineOf w o k c → HasAll w c n → k < length (moves_on o (take n w.moves))
  all_yet o c k n line all = all_there o c n k w.moves (ap (λ ms. slice_get (map (λ m. m.label) ms) k) (history.all o) ∙ line) all

  -- law: an object's list too
  pub all_made : (i : ℕ) (c : Label) (k n : ℕ) → IsLineOf w (CountersList (suc i)) k c → HasAll w c n → k < turns_along w n i
  all_made i c k n line all = omega (arith, rises_counted w (suc i) n, all_yet (CountersList (suc i)) c k n line all)

  -- law: a timer's too
  pub all_entered_by : length w.run.timers ≡ length w.script.timers → (t : ℕ) (c : Label) (k n : ℕ) → IsLineOf w (TimersList t) k c → HasAll w c n
      → k < (timer_along w n t).stamp
  all_entered_by timers t c k n line all = omega (arith, stamp_then w history timers n t, all_yet (TimersList t) c k n line all)

  -- law: what a call has made at a moment it has made at each later one
  pub all_later : (c : Label) (a b : ℕ) → a ≤ b → HasAll w c a → HasAll w c b
  all_later c a b le all = let rise = own_rises c w.moves a b le in omega (arith, all, rise)

  -- law: where a list reaches past a line of a call, the call has made an entry
  pub some_made : (o : Owner) (c : Label) (k n : ℕ) → IsLineOf w o k c → k < length (moves_on o (take n w.moves))
      → 0 < length (own_moves c (take n w.moves))
  some_made o c k n line reached = ⊎_elim
      (λ (some : 0 < length (own_moves c (take n w.moves))). some)
      (λ (none : length (own_moves c (take n w.moves)) ≤ 0). absurd (omega (
        arith,
        reached,
        not_yet o c n k w.moves (ap (λ ms. slice_get (map (λ m. m.label) ms) k) (history.all o) ∙ line)
            (omega (arith, none, ap (made_by c) (take-map (λ (m : Move). m.label) n w.moves) ∙ count_moves c (take n w.moves))),
      )))
      (cases_lt 0 (length (own_moves c (take n w.moves))))

  -- law: a moment at which a call has made an entry has its first one
  pub first_by : (c : Label) (rest : List (ℕ × Shown)) (number n : ℕ) (shown : Shown) → own_moves c w.moves ≡ (number, shown) ∷ rest
      → 0 < length (own_moves c (take n w.moves)) → number ≤ length (moves_on (owner_of shown) (take n w.moves))
  first_by c rest number n shown own some =
      let s = stands c w.moves [] rest (number, shown) own in
      let p = s.place in
      let o = owner_of shown in
      let of : owner_of s.move.shown ≡ o = ap (λ (x : ℕ × Shown). owner_of x.1) s.is in
      ⊎_elim
      (λ (less : p < n). omega (
        arith,
        on_rises o w.moves (suc p) n (omega (arith, less)),
        on_here o p w.moves s.move s.there of,
        before_there w history p s.move o s.there of,
        ap (λ (x : ℕ × Shown). x.0) s.is,
      ))
      (λ (more : n ≤ p). absurd (omega (arith, some, own_rises c w.moves n p more, ap length s.own)))
      (cases_lt p n)

  -- law: a moment that has a call's last entry has all its entries
  pub all_by_last : (c : Label) (before : List (ℕ × Shown)) (number n : ℕ) (shown : Shown) → own_moves c w.moves ≡ before ++ (number, shown) ∷ []
      → number ≤ length (moves_on (owner_of shown) (take n w.moves)) → HasAll w c n
  all_by_last c before number n shown own reached =
      let s = stands c w.moves before [] (number, shown) own in
      let p = s.place in
      let o = owner_of shown in
      ⊎_elim
      (λ (less : p < n).
      let rise = own_rises c w.moves (suc p) n (omega (arith, less)) in
      let here = own_here c p w.moves s.move s.there s.label in
      omega (arith, rise, here, ap length own ∙ more before (number, shown), ap length s.own))
      (λ (more : n ≤ p). absurd (omega (
        arith,
        reached,
        ap (λ (x : ℕ × Shown). x.0) s.is,
        before_there w history p s.move o s.there (ap (λ (x : ℕ × Shown). owner_of x.1) s.is),
        on_rises o w.moves n p more,
      )))
      (cases_lt p n)
    where
      more : {X : Type 0} (xs : List X) (x : X) → length (xs ++ x ∷ []) ≡ suc (length xs)
      more [] x = refl
      more (y ∷ xs) x = ap suc (more xs x)
