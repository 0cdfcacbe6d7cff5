-- The sorted notes of entries and writes, and behind them those of pushes and pops, each with the place that its call's receipt has: they are what the lines
-- of timers, of bases and of counters are made of.
use Rattle.script_text.proofs.Lists.{All-map}
use Rattle.lane_notes.specs.Sorted.{Place}
use Rattle.run_history.specs.Receipts as receipts
use mathlib.Core.Bool.{cond}
use Rattle.std.proofs.Common.{◌≡◌, ℕ, ◌+◌, ◌<◌, ◌≤◌, zero, suc, true, false, nat_eq, Some, List, [], ◌∷◌, filter, length, map, take, arith, refl, sym, ap, ◌∙◌, subst}
use Rattle.std.specs.List.{AllByRecursion, slice_get}
use Rattle.std.proofs.lemmas.List.{length-map}
use Rattle.seq_timer.specs.declared.system.SystemEntry.{SystemEntry}
use Rattle.std.specs.List.Sorted.{IsPermutation}
use Rattle.std.proofs.Common.{◌⊎◌, ◌++◌, inl, inr, ⊎_elim}
use Rattle.std.proofs.lemmas.List.Elements.{filter-append}
use Rattle.std.proofs.lemmas.Bool.{and_left, cases_lt, cond-false, eqb-true, ne_eqb}
use Rattle.std.proofs.lemmas.List.{append-nil, length-append, map-append}
use Rattle.std.proofs.lemmas.List.Sorted.{IsPermutation-append, IsPermutation-map}
use Rattle.record_text.proofs.Lists.{All-append}
use Rattle.lane_notes.specs.Notes.{NotesOf}
use Rattle.lane_notes.specs.Records.{base_line, object_line, record_from, timer_line}
use Rattle.lane_notes.specs.Sorted.{is_of_list, IsSortedFrom, place_of_base, place_of_entry, place_of_look, place_of_object, place_of_skip, place_of_write}
use Rattle.lane_notes.specs.declared.notes.BaseNote.{BaseNote}
use Rattle.lane_notes.specs.declared.notes.EntryNote.{EntryNote}
use Rattle.lane_notes.specs.declared.notes.ObjectNote.{ObjectNote}
use Rattle.lane_notes.specs.declared.notes.WriteNote.{WriteNote}
use Rattle.lane_notes.proofs.Lists.{noted_lines-shown}
use Rattle.lane_notes.proofs.Rising.{is_at, RiseBehind, RiseBehind-sorted}
use Rattle.lane_notes.proofs.Standing.{All-permuted, AtMostOne, HasPlace, stands_permuted, stood_before}
use Rattle.record_text.specs.declared.record.Answer.{Answer}
use Rattle.record_text.specs.declared.record.Label.{Label}
use Rattle.run_history.specs.Actions.{also}
use Rattle.run_history.specs.Order.{calls_of, IsLabel}
use Rattle.run_history.specs.Signals.{SignalLine, pop_counter, push_counter}
use Rattle.signal_queue.specs.Rules.{turns}
use Rattle.signal_queue.specs.declared.signal.Signal.{Signal}
use Rattle.timer_objects.specs.Known.{seen_of}
use Rattle.script_text.specs.declared.script.Script.{Script}
use Rattle.run_history.specs.Receipts.{AreFiled, Filed, files_on, IsAhead, IsMade, line_filed, PlacedEntry, receipt, RiseBy}
use Rattle.run_history.specs.Witnesses.{BasesList, CountersList, OfBase, OfRise, OfTimer, Owner, RunLists, Shown, ShownLine, TimersList, line_of_base, line_of_object, line_of_signal, line_of_timer, line_of_write, lines_at, owner_of, twice}
use Rattle.run_history.specs.Runs.{CallLog}
use Rattle.run_history.proofs.Known.{behind_all, rises_lower}
use Rattle.run_history.proofs.Laid.{same_place}
use Rattle.run_history.proofs.Lists.{all_at, at_left, each, at_map, map_get}
use Rattle.lane_notes.proofs.Kept.{BaseNotes, EntryNotes, ObjectNotes, ToldNote, WriteNotes, of_base, of_entry, of_write, signal_at, signals_of, signals_told, told_notes, turn_notes}
use Rattle.lane_notes.proofs.PartLists.{each_weaker}
use Rattle.lane_notes.proofs.Left.{AreLastOf, AreLeft}
use Rattle.lane_notes.specs.Worlds.{WorldOf}
use Rattle.lane_notes.specs.declared.lane.WorldPass.{WorldPass}
use Rattle.record_laws.proofs.LastSeen.{at_behind, base_lines_are, entries_once, has_receipt, HasReceipt, is_told, note_made, noted_at, object_lines_are, objects_once, same_parts, split_place, write_rises_once, writes_once, shifts_once, timer_lines_are, told_parts}
use Rattle.record_laws.proofs.SeenThere.{objects_past}
use Rattle.record_laws.proofs.SignalNotes.{counter_filed, no_bases_signals, no_timers_signals, rise_notes, signal_is_noted, signal_noted, signal_notes, signals_on}
use Rattle.record_laws.proofs.Signalled.{signals, signals_none}
use Rattle.record_laws.proofs.Turns.{all_turns, is_on, line_told, none_of_turns, turns_of, turns_permuted, twice_many}
use Rattle.record_laws.proofs.Numbered.{as_many, at_most_one, number_within}
use Rattle.record_laws.proofs.ClockLines.{all_of_clock}
use Rattle.std.proofs.lemmas.Simd.{map-map}

-- ---- notes with their receipts

module _ (logs : Label → CallLog) where
  abbrev pub WithReceipt : Type 0
  WithReceipt = (n : ToldNote) × HasReceipt logs n

  abbrev pub with_receipts : (ns : List ToldNote) → AllByRecursion (HasReceipt logs) ns → List WithReceipt
  with_receipts [] has = []
  with_receipts (n ∷ ns) has = (n, has.0) ∷ with_receipts ns has.1

  are_notes : (ns : List ToldNote) (has : AllByRecursion (HasReceipt logs) ns) → map (λ p. p.0) (with_receipts ns has) ≡ ns
  are_notes [] has = refl
  are_notes (n ∷ ns) has = ap (λ ms. n ∷ ms) (are_notes ns has.1)

  abbrev pub file : WithReceipt → Filed
  file p = record { label = p.0.label; note = noted_at p.1.place p.0 }

  files_lines : (o : Owner) (ps : List WithReceipt)
      → map line_filed (files_on o (map file ps)) ≡ map line_told (filter (is_on o) (map (λ p. p.0) ps))
  files_lines o [] = refl
  files_lines o (p ∷ ps) =
      let notes = filter (is_on o) (map (λ (r : WithReceipt). r.0) ps) in
      elim (is_on o p.0) as (λ b. map line_filed (also b (file p) (files_on o (map file ps))) ≡ map line_told (cond b (p.0 ∷ notes) notes)) [
        | true ↦ ap (λ zs. line_told p.0 ∷ zs) (files_lines o ps)
        | false ↦ files_lines o ps
      ]

-- notes in the order of lists and numbers, behind a list's number
abbrev RiseTold : Owner → ℕ → List ToldNote → Type 0
RiseTold o k [] = Unit
RiseTold o k (n ∷ ns) =
    (IsAhead o (owner_of n.shown) ⊎ ((o ≡ owner_of n.shown) × (k < n.number))) × RiseTold (owner_of n.shown) n.number ns

files_rise : (logs : Label → CallLog) (o : Owner) (k : ℕ) (ps : List (WithReceipt logs)) → RiseTold o k (map (λ p. p.0) ps)
    → RiseBy o k (map (file logs) ps)
files_rise logs o k [] rise = tt
files_rise logs o k (p ∷ ps) rise = (rise.0, files_rise logs (owner_of p.0.shown) p.0.number ps rise.1)

-- the notes of objects have numbers from 1 on
abbrev AreSome : List ObjectNote → Type 0
AreSome os = AllByRecursion (λ n. 0 < n.number) os

-- the note of an entry stands behind that of its turn's beginning
turns_rise : (i k : ℕ) (os : List ObjectNote) → RiseBehind place_of_object i k os → AreSome os → RiseTold (CountersList (suc i)) (k + k) (turn_notes os)
turns_rise i k [] rise some = tt
turns_rise i k (x ∷ os) rise some = (
  ⊎_elim (λ less. inl (omega (arith, less))) (λ same. inr (ap (λ n. CountersList (suc n)) same.0, omega (arith, same.1))) rise.0,
  (inr (refl, omega (arith, some.0)), turns_rise x.object x.number os rise.1 some.1),
)

-- behind a list that is ahead of objects'
objects_rise : (o : Owner) (k : ℕ) (os : List ObjectNote) → ((i : ℕ) → IsAhead o (CountersList (suc i))) → RiseBehind place_of_object 0 0 os → AreSome os
    → RiseTold o k (turn_notes os)
objects_rise o k [] ahead rise some = tt
objects_rise o k (x ∷ os) ahead rise some =
    (inl (ahead x.object), (inr (refl, omega (arith, some.0)), turns_rise x.object x.number os rise.1 some.1))

writes_rise : (k : ℕ) (ws : List WriteNote) (os : List ObjectNote) → RiseBehind place_of_write 0 k ws → RiseBehind place_of_object 0 0 os → AreSome os
    → RiseTold (CountersList 0) k (map of_write ws ++ turn_notes os)
writes_rise k [] os rise last some = objects_rise (CountersList 0) k os (λ i. omega arith) last some
writes_rise k (w ∷ ws) os rise last some = (⊎_elim (λ less. inl less) (λ same. inr (refl, same.1)) rise.0, writes_rise w.stamp ws os rise.1 last some)

bases_rise : (b k : ℕ) (bs : List BaseNote) (ws : List WriteNote) (os : List ObjectNote) → RiseBehind place_of_base b k bs
    → RiseBehind place_of_write 0 0 ws → RiseBehind place_of_object 0 0 os → AreSome os
    → RiseTold (BasesList b) k (map of_base bs ++ (map of_write ws ++ turn_notes os))
bases_rise b k [] [] os rise behind last some = objects_rise (BasesList b) k os (λ i. tt) last some
bases_rise b k [] (w ∷ ws) os rise behind last some = (inl tt, writes_rise w.stamp ws os behind.1 last some)
bases_rise b k (x ∷ bs) ws os rise behind last some =
    (⊎_elim (λ less. inl less) (λ same. inr (ap (λ n. BasesList n) same.0, same.1)) rise.0, bases_rise x.base x.number bs ws os rise.1 behind last some)

told_rise : (t k : ℕ) (es : List EntryNote) (bs : List BaseNote) (ws : List WriteNote) (os : List ObjectNote) → RiseBehind place_of_entry t k es
    → RiseBehind place_of_base 0 0 bs → RiseBehind place_of_write 0 0 ws → RiseBehind place_of_object 0 0 os → AreSome os
    → RiseTold (TimersList t) k (map of_entry es ++ (map of_base bs ++ (map of_write ws ++ turn_notes os)))
told_rise t k [] [] [] os rise of_bases of_writes of_objects some = objects_rise (TimersList t) k os (λ i. tt) of_objects some
told_rise t k [] [] (w ∷ ws) os rise of_bases of_writes of_objects some = (inl tt, writes_rise w.stamp ws os of_writes.1 of_objects some)
told_rise t k [] (x ∷ bs) ws os rise of_bases of_writes of_objects some =
    (inl tt, bases_rise x.base x.number bs ws os of_bases.1 of_writes of_objects some)
told_rise t k (e ∷ es) bs ws os rise of_bases of_writes of_objects some = (
  ⊎_elim (λ less. inl less) (λ same. inr (ap (λ n. TimersList n) same.0, same.1)) rise.0,
  told_rise e.timer e.number es bs ws os rise.1 of_bases of_writes of_objects some,
)

-- notes in order stay so in front of others that are in order behind this counter
told_rise-append : (m : ℕ) (o : Owner) (k : ℕ) (xs ys : List ToldNote) → IsAhead o (CountersList m)
    → AllByRecursion (λ n. IsAhead (owner_of n.shown) (CountersList m)) xs → RiseTold o k xs
    → ((p : Owner) (j : ℕ) → IsAhead p (CountersList m) → RiseTold p j ys) → RiseTold o k (xs ++ ys)
told_rise-append m o k [] ys ahead all rise behind = behind o k ahead
told_rise-append m o k (x ∷ xs) ys ahead all rise behind =
    (rise.0, told_rise-append m (owner_of x.shown) x.number xs ys all.0 all.1 rise.1 behind)

-- the notes of a counter's rises are in order
rises_in_order : (k n j : ℕ) (lines : List SignalLine) → j < n → RiseTold (CountersList k) j (rise_notes k n lines)
rises_in_order k n j [] less = tt
rises_in_order k n j (line ∷ lines) less = (inr (refl, less), rises_in_order k (n + 1) n lines (omega arith))

rises_rise : (k n : ℕ) (o : Owner) (j : ℕ) (lines : List SignalLine) → IsAhead o (CountersList k) → RiseTold o j (rise_notes k n lines)
rises_rise k n o j [] ahead = tt
rises_rise k n o j (line ∷ lines) ahead = (inl ahead, rises_in_order k (n + 1) n lines (omega arith))

rises_ahead : (m k n : ℕ) (lines : List SignalLine) → k < m → AllByRecursion (λ y. IsAhead (owner_of y.shown) (CountersList m)) (rise_notes k n lines)
rises_ahead m k n [] less = tt
rises_ahead m k n (line ∷ lines) less = (less, rises_ahead m k (n + 1) lines less)

-- those of pushes and pops are
queue_rises : (k l : ℕ) (o : Owner) (j : ℕ) (pushes pops : List SignalLine) → k < l → IsAhead o (CountersList k)
    → RiseTold o j (rise_notes k 1 pushes ++ rise_notes l 1 pops)
queue_rises k l o j pushes pops less ahead = told_rise-append l o j (rise_notes k 1 pushes) (rise_notes l 1 pops) (further o ahead)
    (rises_ahead l k 1 pushes less) (rises_rise k 1 o j pushes ahead) (λ p i before. rises_rise l 1 p i pops before)
  where
    further : (o : Owner) → IsAhead o (CountersList k) → IsAhead o (CountersList l)
    further (TimersList t) ahead = tt
    further (BasesList b) ahead = tt
    further (CountersList i) ahead = omega (arith, ahead, less)

-- ---- notes of one list

-- the notes of a kind that are of a list give its lines
lines_on : {X : Type 0} (of : X → ToldNote) (place : X → Place) (o : Owner) (l : ℕ) (line : X → ShownLine)
    → ((x : X) → is_on o (of x) ≡ nat_eq (place x).list l) → ((x : X) → (place x).list ≡ l → line_told (of x) ≡ line x) → (xs : List X)
    → map line_told (filter (is_on o) (map of xs)) ≡ map line (filter (is_of_list place l) xs)
lines_on of place o l line test same [] = refl
lines_on of place o l line test same (x ∷ xs) =
    let notes = filter (is_on o) (map of xs) in
    let own = filter (is_of_list place l) xs in
    let rest = lines_on of place o l line test same xs in
    ap (λ b. map line_told (cond b (of x ∷ notes) notes)) (test x) ∙ elim (nat_eq (place x).list l) as (λ b. nat_eq (place x).list l ≡ b
    → map line_told (cond b (of x ∷ notes) notes) ≡ map line (cond b (x ∷ own) own)) [
      | true ↦ λ is. ap (λ y. y ∷ map line_told notes) (same x (eqb-true (place x).list l is)) ∙ ap (λ zs. line x ∷ zs) rest
      | false ↦ λ is. rest
    ] refl

-- and those of another kind are of none
none_on : {X : Type 0} (of : X → ToldNote) (o : Owner) → ((x : X) → is_on o (of x) ≡ false) → (xs : List X) → filter (is_on o) (map of xs) ≡ []
none_on of o other [] = refl
none_on of o other (x ∷ xs) =
    let notes = filter (is_on o) (map of xs) in
    ap (λ b. cond b (of x ∷ notes) notes) (other x) ∙ none_on of o other xs

of_timer_told : (t : ℕ) (ns : NotesOf) → map line_told (filter (is_on (TimersList t)) (told_notes ns))
    ≡ map (λ n. record { label = n.label; shown = OfTimer t n.entry }) (filter (is_of_list place_of_entry t) ns.entries)
of_timer_told t ns =
    let o = TimersList t in
    ap (map line_told) (told_parts (is_on o) ns ∙ same_parts refl (none_on of_base o (λ x. refl) ns.bases) (none_on of_write o (λ x. refl) ns.writes)
    (none_of_turns o (λ j. refl) ns.objects)
    ∙ append-nil (filter (is_on o) (map of_entry ns.entries))) ∙ lines_on of_entry place_of_entry o t _ (λ e. refl)
    (λ e is. ap (λ u. record { label = e.label; shown = OfTimer u e.entry }) is) ns.entries

of_base_told : (b : ℕ) (ns : NotesOf) → map line_told (filter (is_on (BasesList b)) (told_notes ns))
    ≡ map (λ n. record { label = n.label; shown = OfBase b n.event }) (filter (is_of_list place_of_base b) ns.bases)
of_base_told b ns =
    let o = BasesList b in
    ap (map line_told) (told_parts (is_on o) ns ∙ same_parts (none_on of_entry o (λ x. refl) ns.entries) refl (none_on of_write o (λ x. refl) ns.writes)
    (none_of_turns o (λ j. refl) ns.objects)
    ∙ append-nil (filter (is_on o) (map of_base ns.bases))) ∙ lines_on of_base place_of_base o b _ (λ e. refl)
    (λ e is. ap (λ u. record { label = e.label; shown = OfBase u e.event }) is) ns.bases

of_write_told : (ns : NotesOf) → map line_told (filter (is_on (CountersList 0)) (told_notes ns))
    ≡ map (λ n. line_of_write n.line) (filter (is_of_list place_of_write 0) ns.writes)
of_write_told ns =
    let o = CountersList 0 in
    ap (map line_told) (told_parts (is_on o) ns ∙ same_parts (none_on of_entry o (λ x. refl) ns.entries) (none_on of_base o (λ x. refl) ns.bases) refl
    (none_of_turns o (λ j. ne_eqb (suc j) 0 (λ is. omega (arith, is))) ns.objects) ∙ append-nil (filter (is_on o) (map of_write ns.writes)))
    ∙ lines_on of_write place_of_write o 0 _ (λ e. refl) (λ e is. refl) ns.writes

of_object_told : (i : ℕ) (ns : NotesOf) → map line_told (filter (is_on (CountersList (suc i))) (told_notes ns))
    ≡ twice (map (λ n. record { label = n.label; shown = OfRise (suc i) }) (filter (is_of_list place_of_object i) ns.objects))
of_object_told i ns =
    let o = CountersList (suc i) in
    ap (map line_told) (told_parts (is_on o) ns ∙ same_parts (none_on of_entry o (λ x. refl) ns.entries) (none_on of_base o (λ x. refl) ns.bases)
    (none_on of_write o (λ x. ne_eqb 0 (suc i) (λ is. omega (arith, is))) ns.writes) refl)
    ∙ turns_of i ns.objects

-- writes are of the clock's one list
none_elsewhere : (k n : ℕ) (ws : List WriteNote) → filter (is_at place_of_write (suc k) n) ws ≡ []
none_elsewhere k n [] = refl
none_elsewhere k n (w ∷ ws) =
    cond-false (is_at place_of_write (suc k) n w) _ _ (and_left _ _ (ne_eqb 0 (suc k) (λ is. omega (arith, is)))) ∙ none_elsewhere k n ws

-- ---- the record's lines

module _ {s : Script} {x : WorldOf} {q : WorldPass} {notes sorted : NotesOf} {logs : Label → CallLog} (last : AreLastOf s x q) (left : AreLeft s q notes logs)
    (is : IsSortedFrom notes sorted) (answers : List (List Answer)) where
  abbrev seen : List SystemEntry
  seen = q.timers.known.seen

  same_told : IsPermutation (told_notes notes) (told_notes sorted)
  same_told = IsPermutation-append _ _ _ _ (IsPermutation-map of_entry notes.entries sorted.entries is.entries.same)
      (IsPermutation-append _ _ _ _ (IsPermutation-map of_base notes.bases sorted.bases is.bases.same)
      (IsPermutation-append _ _ _ _ (IsPermutation-map of_write notes.writes sorted.writes is.writes.same)
      (turns_permuted notes.objects sorted.objects is.objects.same)))

  -- a note stands among the sorted ones where it stands among those that were left
  stood : (n : ToldNote) → HasPlace (told_notes sorted) n → HasPlace (told_notes notes) n
  stood n st = stood_before (told_notes notes) (told_notes sorted) st.0 n same_told st.1

  abbrev signalled : List ToldNote
  signalled = signal_notes last left

  -- the sorted notes, and behind them those of pushes and pops
  abbrev pub all_noted : List ToldNote
  all_noted = told_notes sorted ++ signalled

  pub each_has : AllByRecursion (HasReceipt logs) all_noted
  each_has = each (HasReceipt logs) all_noted (λ p n at.
      ⊎_elim (λ st. has_receipt left n (stood n st)) (signal_noted last left n) (split_place (told_notes sorted) signalled p n at))

  abbrev pub pairs : List (WithReceipt logs)
  pairs = with_receipts logs all_noted each_has

  abbrev pub filed_notes : List Filed
  filed_notes = map (file logs) pairs

  -- two receipts with one entry's number are one
  file_is : (c : Label) (j : ℕ) (y : PlacedEntry) → slice_get (logs c).notes j ≡ Some y → (p : WithReceipt logs) → p.0.label ≡ c → y ≡ noted_at y.place p.0
      → file logs p ≡ record { label = c; note = y }
  file_is c j y at p label told =
      let one = note_made left p.0 p.1 in
      let two = all_at (IsMade seen) (logs c).notes j y (left.stand c).made at in
      let o = owner_of y.shown in
      let same : owner_of p.0.shown ≡ o = ap (λ (z : PlacedEntry). owner_of z.shown) (sym told) in
      let its : receipts.count_owned o (take p.1.place seen) + 1 ≡ p.0.number =
      subst (λ u. receipts.count_owned u (take p.1.place seen) + 1 ≡ p.0.number) same one.number in
      let place : p.1.place ≡ y.place = same_place seen p.1.place y.place o one.step two.step one.there two.there (one.owner ∙ same) two.owner
      (omega (arith, its, two.number, ap (λ (z : PlacedEntry). z.number) told)) in
      ap (λ l. record { label = l; note = noted_at p.1.place p.0 }) label ∙ ap (λ k. record { label = c; note = noted_at k p.0 }) place
      ∙ ap (λ z. record { label = c; note = z }) (sym told)

  -- each receipt has a note
  noted : (c : Label) (j : ℕ) (y : PlacedEntry) → slice_get (logs c).notes j ≡ Some y
      → (n : ToldNote) × HasPlace all_noted n × (n.label ≡ c) × (y ≡ noted_at y.place n)
  noted c j y at = ⊎_elim
      (λ t.
      let st = stands_permuted (told_notes notes) (told_notes sorted) t.1.0 t.0 same_told t.1.1 in
      (t.0, (st.0, at_left (told_notes sorted) signalled st.0 t.0 st.1), t.2, t.3))
      (λ told.
      let st = signal_is_noted last left c (receipt y) told in
      let place = length (told_notes sorted) + st.0 in
      (record { label = c; number = y.number; shown = y.shown }, (place, at_behind (told_notes sorted) signalled st.0 _ st.1), refl, refl))
      (is_told left c j y at)

  -- law: each call's receipts are filed
  each_filed : (c : Label) → AllByRecursion (λ y. (i : ℕ) × (slice_get filed_notes i ≡ Some (record { label = c; note = y }))) (logs c).notes
  each_filed c = each (λ y. (i : ℕ) × (slice_get filed_notes i ≡ Some (record { label = c; note = y }))) (logs c).notes (λ j y at.
      let t = noted c j y at in
      let st = t.1 in
      let m = map_get (λ (p : WithReceipt logs). p.0) pairs st.0 t.0 (ap (λ ns. slice_get ns st.0) (are_notes logs all_noted each_has) ∙ st.1) in (
        st.0,
        at_map (file logs) pairs st.0 m.0 m.1 ∙ ap Some (file_is c j y at m.0 (ap (λ (n : ToldNote). n.label) m.2 ∙ t.2)
            (t.3 ∙ ap (noted_at y.place) (sym m.2))),
      ))

  shapes : (o : Owner) → map line_filed (files_on o filed_notes)
      ≡ map line_told (filter (is_on o) (told_notes sorted)) ++ map line_told (filter (is_on o) signalled)
  shapes o =
      files_lines logs o pairs ∙ ap (λ ns. map line_told (filter (is_on o) ns)) (are_notes logs all_noted each_has)
      ∙ ap (map line_told) (filter-append (is_on o) (told_notes sorted) signalled)
      ∙ map-append line_told (filter (is_on o) (told_notes sorted)) (filter (is_on o) signalled)

  -- where no push or pop is of a list
  notes_alone : (o : Owner) → filter (is_on o) signalled ≡ [] → map line_filed (files_on o filed_notes) ≡ map line_told (filter (is_on o) (told_notes sorted))
  notes_alone o none = shapes o ∙ ap (λ ns. map line_told (filter (is_on o) (told_notes sorted)) ++ map line_told ns) none
      ∙ append-nil (map line_told (filter (is_on o) (told_notes sorted)))

  timer_shapes : (t : ℕ) → map line_filed (files_on (TimersList t) filed_notes)
      ≡ map (λ n. record { label = n.label; shown = OfTimer t n.entry }) (filter (is_of_list place_of_entry t) sorted.entries)
  timer_shapes t = notes_alone (TimersList t) (no_timers_signals last left t) ∙ of_timer_told t sorted

  base_shapes : (b : ℕ) → map line_filed (files_on (BasesList b) filed_notes)
      ≡ map (λ n. record { label = n.label; shown = OfBase b n.event }) (filter (is_of_list place_of_base b) sorted.bases)
  base_shapes b = notes_alone (BasesList b) (no_bases_signals last left b) ∙ of_base_told b sorted

  write_shapes : map line_filed (files_on (CountersList 0) filed_notes) ≡ map (λ n. line_of_write n.line) (filter (is_of_list place_of_write 0) sorted.writes)
  write_shapes =
      shapes (CountersList 0) ∙ ap (λ ls. map line_told (filter (is_on (CountersList 0)) (told_notes sorted)) ++ ls) (signals_on last left 0
      ∙ ap (map (line_of_signal 0)) (signals_none last left 0 (λ is. omega (arith, is)) (λ is. omega (arith, is))))
      ∙ append-nil (map line_told (filter (is_on (CountersList 0)) (told_notes sorted))) ∙ of_write_told sorted

  object_shapes : (i : ℕ) → map line_filed (files_on (CountersList (suc i)) filed_notes)
      ≡ twice (map (λ n. record { label = n.label; shown = OfRise (suc i) }) (filter (is_of_list place_of_object i) sorted.objects))
      ++ map (line_of_signal (suc i)) (signals last left (suc i))
  object_shapes i =
      let its = map {B = ShownLine} (λ n. record { label = n.label; shown = OfRise (suc i) }) (filter (is_of_list place_of_object i) sorted.objects) in
      shapes (CountersList (suc i)) ∙ ap (λ ls. ls ++ map line_told (filter (is_on (CountersList (suc i))) signalled)) (of_object_told i sorted)
      ∙ ap (λ ls. twice its ++ ls) (signals_on last left (suc i))

  writes_apart : (l n : ℕ) → AtMostOne (is_at place_of_write l n) notes.writes
  writes_apart zero n = at_most_one is.writes (writes_once last left) n
  writes_apart (suc k) n = subst (λ ws. length ws ≤ 1) (sym (none_elsewhere k n notes.writes)) (omega arith)

  -- a list has as many receipts as entries
  many_filed : (o : Owner) → length (files_on o filed_notes) ≡ receipts.count_owned o seen
  many_filed (TimersList t) =
      sym (length-map (files_on (TimersList t) filed_notes) line_filed) ∙ ap length (timer_shapes t)
      ∙ length-map (filter (is_of_list place_of_entry t) sorted.entries) _ ∙ as_many is.entries (entries_once last left t)
  many_filed (BasesList b) =
      sym (length-map (files_on (BasesList b) filed_notes) line_filed) ∙ ap length (base_shapes b)
      ∙ length-map (filter (is_of_list place_of_base b) sorted.bases) _ ∙ as_many is.bases (shifts_once last left b)
  many_filed (CountersList zero) =
      sym (length-map (files_on (CountersList 0) filed_notes) line_filed) ∙ ap length write_shapes
      ∙ length-map (filter (is_of_list place_of_write 0) sorted.writes) _ ∙ as_many is.writes (write_rises_once last left)
  many_filed (CountersList (suc i)) =
      let own = filter (is_of_list place_of_object i) sorted.objects in
      let many = as_many is.objects (objects_once last left i) in
      let its = map {B = ShownLine} (λ n. record { label = n.label; shown = OfRise (suc i) }) own in
      sym (length-map (files_on (CountersList (suc i)) filed_notes) line_filed) ∙ ap length (object_shapes i)
      ∙ length-append (twice its) (map (line_of_signal (suc i)) (signals last left (suc i)))
      ∙ ap (λ n. n + length (map (line_of_signal (suc i)) (signals last left (suc i)))) (twice_many its ∙ ap (λ n. n + n) (length-map own _ ∙ many))
      ∙ ap (λ n. length (seen_of q.objects i) + length (seen_of q.objects i) + n) (length-map (signals last left (suc i)) (line_of_signal (suc i)))
      ∙ counter_filed last left i

  -- and its lines are theirs
  abbrev lists : RunLists
  lists = record { run = record_from s.version sorted s.bases (length s.timers) answers; signals = signals last left }

  lines_filed : (o : Owner) → lines_at lists o ≡ map line_filed (files_on o filed_notes)
  lines_filed (TimersList t) =
      ap (map (line_of_timer t)) (timer_lines_are last left is answers t)
      ∙ noted_lines-shown place_of_look timer_line place_of_entry t sorted.entries sorted.looks (line_of_timer t)
      (λ n. record { label = n.label; shown = OfTimer t n.entry }) (λ n us. refl) ∙ sym (timer_shapes t)
  lines_filed (BasesList b) =
      ap (map (line_of_base b)) (base_lines_are last left is answers b) ∙ each_line (filter (is_of_list place_of_base b) sorted.bases)
      ∙ sym (base_shapes b)
    where
      each_line : (bs : List BaseNote) → map (line_of_base b) (map base_line bs) ≡ map (λ n. record { label = n.label; shown = OfBase b n.event }) bs
      each_line [] = refl
      each_line (n ∷ bs) = ap (λ zs. record { label = n.label; shown = OfBase b n.event } ∷ zs) (each_line bs)
  lines_filed (CountersList zero) =
      map-map line_of_write (λ (n : WriteNote). n.line) sorted.writes ∙ ap (map (λ (n : WriteNote). line_of_write n.line)) (sym (all_of_clock sorted.writes))
      ∙ sym write_shapes
  lines_filed (CountersList (suc i)) =
      ap (λ ls. twice ls ++ map (line_of_signal (suc i)) (signals last left (suc i))) (ap (map (line_of_object i)) (object_lines_are last left is answers i)
      ∙ noted_lines-shown place_of_skip object_line place_of_object i sorted.objects sorted.skips (line_of_object i)
      (λ n. record { label = n.label; shown = OfRise (suc i) }) (λ n us. refl)) ∙ sym (object_shapes i)

  -- a note is of an object that is there
  object_there : (n : ObjectNote) → HasPlace notes.objects n → n.object < length s.timers
  object_there n st = ⊎_elim (λ less. less)
      (λ (past : length s.timers ≤ n.object).
      let number = number_within is.objects (objects_once last left n.object) n st refl in
      absurd (omega (arith, number, ap length (objects_past last.of n.object past))))
      (cases_lt n.object (length s.timers))

  -- so each note is of a list ahead of the queue's counters
  before_queue : AllByRecursion (λ n. IsAhead (owner_of n.shown) (CountersList (push_counter s))) (told_notes sorted)
  before_queue =
      let Ahead : ToldNote → Type 0 = λ n. IsAhead (owner_of n.shown) (CountersList (push_counter s)) in
      All-append Ahead (map of_entry sorted.entries) _ (All-map _ of_entry sorted.entries (each _ sorted.entries (λ p n at. tt)))
      (All-append Ahead (map of_base sorted.bases) _ (All-map _ of_base sorted.bases (each _ sorted.bases (λ p n at. tt)))
      (All-append Ahead (map of_write sorted.writes) (turn_notes sorted.objects)
      (All-map _ of_write sorted.writes (each _ sorted.writes (λ p n at. omega arith)))
      (all_turns Ahead sorted.objects (All-permuted _ notes.objects sorted.objects is.objects.same (each _ notes.objects (λ p n at.
      let less = object_there n (p, at) in (omega (arith, less), omega (arith, less))))))))

  -- law: the record's lines of timers, of bases, of the clock and of objects, and the pushes and pops, are the receipts of all calls, sorted
  pub are_filed : AreFiled lists seen (λ c. (logs c).notes) filed_notes
  are_filed = record {
    rise = λ c. rises_lower 0 (logs c).moves.0 (map (λ y. y.place) (logs c).notes) (omega arith) (left.stand c).rise;
    made = λ c. (left.stand c).made;
    filed = each_filed;
    back = λ i f at. let m = map_get (file logs) pairs i f at in
        (m.0.1.index, subst (λ (g : Filed). slice_get (logs g.label).notes m.0.1.index ≡ Some g.note) m.2 m.0.1.there);
    sorts = files_rise logs (TimersList 0) 0 pairs (subst (RiseTold (TimersList 0) 0) (sym (are_notes logs all_noted each_has))
        (told_rise-append (push_counter s) (TimersList 0) 0 (told_notes sorted) signalled tt before_queue
        (told_rise 0 0 sorted.entries sorted.bases sorted.writes sorted.objects
        (RiseBehind-sorted place_of_entry notes.entries sorted.entries is.entries (λ l n. at_most_one is.entries (entries_once last left l) n)
        (each _ notes.entries (λ p n at. (number_within is.entries (entries_once last left n.timer) n (p, at) refl).0)))
        (RiseBehind-sorted place_of_base notes.bases sorted.bases is.bases (λ l n. at_most_one is.bases (shifts_once last left l) n)
        (each _ notes.bases (λ p n at. (number_within is.bases (shifts_once last left n.base) n (p, at) refl).0)))
        (RiseBehind-sorted place_of_write notes.writes sorted.writes is.writes writes_apart
        (each _ notes.writes (λ p n at. (number_within is.writes (writes_once last left) n (p, at) refl).0)))
        (RiseBehind-sorted place_of_object notes.objects sorted.objects is.objects (λ l n. at_most_one is.objects (objects_once last left l) n)
        (each _ notes.objects (λ p n at. (number_within is.objects (objects_once last left n.object) n (p, at) refl).0)))
        (All-permuted _ notes.objects sorted.objects is.objects.same
        (each _ notes.objects (λ p n at. (number_within is.objects (objects_once last left n.object) n (p, at) refl).0))))
        (λ o j ahead.
        queue_rises (push_counter s) (pop_counter s) o j (signals last left (push_counter s)) (signals last left (pop_counter s)) (omega arith) ahead)));
    as_many = many_filed;
    lines = lines_filed;
  }

  -- a note's label is a call's
  note_called : (n : ToldNote) → HasPlace (told_notes notes) n → IsLabel s n.label
  note_called n st =
      let Called : ToldNote → Type 0 = λ m. IsLabel s m.label in
      all_at Called (told_notes notes) st.0 n (All-append Called (map of_entry notes.entries) _
      (All-map _ of_entry notes.entries (each_weaker notes.entries (λ e in_it. in_it.0) (left.seen EntryNotes)))
      (All-append Called (map of_base notes.bases) _
      (All-map _ of_base notes.bases (each_weaker notes.bases (λ e in_it. in_it.0) (left.seen BaseNotes)))
      (All-append Called (map of_write notes.writes) (turn_notes notes.objects)
      (All-map _ of_write notes.writes (each_weaker notes.writes (λ e in_it. in_it.0) (left.seen WriteNotes)))
      (all_turns Called notes.objects (each_weaker notes.objects (λ e in_it. (in_it.0, in_it.0)) (left.seen ObjectNotes)))))) st.1

  -- a call with a push or a pop is one
  signal_called : (c : Label) (y : ℕ × Shown) → HasPlace (signals_told (logs c).trace.actions) y → IsLabel s c
  signal_called c y st = ⊎_elim (λ is. is)
      (λ (past : length (calls_of s c.lane) ≤ c.call).
      let none : (logs c).turns ≡ [] = left.unturned c (λ is. omega (arith, is, past)) in
      let made : signals_of (logs c).trace.actions ≡ [] = (left.turned c).are ∙ ap (map (signal_at s (turns q.signals.knows))) none in
      absurd (nowhere (subst (λ xs. HasPlace {X = ℕ × Shown} (map (λ (x : ℕ × (ℕ × Signal)). (x.1.0, OfRise x.0)) xs) y) made st)))
      (cases_lt c.call (length (calls_of s c.lane)))
    where
      nowhere : HasPlace {X = ℕ × Shown} [] y → ⊥
      nowhere st = absurd (let at = st.1 in cc)

  -- law: receipts are of calls of the script, in their calls' spans
  pub receipts_inside : (c : Label) → AllByRecursion (λ y. IsLabel s c × ((logs c).moves.0 ≤ y.place) × (y.place < (logs c).moves.1)) (logs c).notes
  receipts_inside c = each (λ y. IsLabel s c × ((logs c).moves.0 ≤ y.place) × (y.place < (logs c).moves.1)) (logs c).notes (λ j y at.
      let label = ⊎_elim (λ t. subst (IsLabel s) t.2 (note_called t.0 t.1)) (signal_called c (receipt y)) (is_told left c j y at) in
      let behind = behind_all (logs c).moves.0 (logs c).moves.0 (logs c).notes (omega arith) (left.stand c).rise in
      (label, all_at _ (logs c).notes j y behind at, all_at _ (logs c).notes j y (left.stand c).below at))
