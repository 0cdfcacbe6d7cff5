-- Pushes and pops of signals as notes: of each a receipt stands in the one order, and the counters of the queue have risen as often as the queue made them.
use mathlib.Core.Bool.{cond}
use Rattle.std.proofs.Common.{◌≡◌, ◌≤◌, ◌<◌, ◌⊎◌, ℕ, ◌+◌, zero, suc, true, false, nat_eq, Some, List, [], ◌∷◌, ◌++◌, filter, length, map, arith, refl, sym, ap, ◌∙◌, subst, inl, inr}
use Rattle.std.specs.List.{slice_get}
use Rattle.std.proofs.Math.Logic.{⊎_elim}
use Rattle.std.proofs.lemmas.Bool.{cases_eq, cases_lt, eq-eqb, eqb-true, ne_eqb}
use Rattle.std.proofs.lemmas.List.{append-nil, length-map}
use Rattle.std.proofs.lemmas.List.Elements.{filter-append}
use Rattle.std.proofs.lemmas.Option.{same_Some}
use Rattle.base_row.specs.Rings.{put_counter, taken_counter}
use Rattle.base_row.specs.declared.view.Opening.{Opening}
use Rattle.lane_notes.specs.Notes.{NotesOf}
use Rattle.lane_notes.proofs.Kept.{signals_of, signals_told, ToldNote, told_in}
use Rattle.lane_notes.proofs.Left.{AreLastOf, AreLeft}
use Rattle.lane_notes.proofs.Standing.{HasPlace, map_stands_in, stands_in_map}
use Rattle.lane_notes.specs.Worlds.{WorldOf}
use Rattle.lane_notes.specs.declared.lane.WorldPass.{WorldPass}
use Rattle.record_laws.proofs.CounterLines.{rises_on, signalled_of}
use Rattle.record_laws.proofs.LastSeen.{at_behind, HasReceipt, note_made, noted_at, rises_counted, rose_to, signal_receipt, split_place}
use Rattle.record_laws.proofs.SeenThere.{none_past, objects_past}
use Rattle.timer_objects.specs.Known.{seen_of}
use Rattle.record_laws.proofs.Signalled.{signals, signals_none, signals_own, signals_popped, signals_pushed}
use Rattle.record_laws.proofs.Turns.{is_on, line_told}
use Rattle.record_text.specs.declared.record.Label.{Label}
use Rattle.run_history.specs.Actions.{also}
use Rattle.run_history.specs.Runs.{CallLog}
use Rattle.run_history.specs.Signals.{SignalLine, pop_counter, push_counter}
use Rattle.run_history.specs.Witnesses.{BasesList, CountersList, OfRise, Owner, Shown, TimersList, is_owner, line_of_signal}
use Rattle.run_history.proofs.Items.{Among, own_stands, stands_own}
use Rattle.run_history.proofs.Labels.{label_itself, same_label}
use Rattle.run_history.proofs.Lists.{at_left, item_at}
use Rattle.script_text.specs.declared.script.Script.{Script}
use Rattle.seq_timer.specs.Systems.{rises_of}
use Rattle.signal_queue.specs.Rules.{turns}
use Rattle.signal_queue.specs.Turns.{popped, pushed}
use Rattle.signal_queue.specs.declared.signal.Signal.{Signal}

-- ---- notes of a counter's rises

-- a rise with its number, and those of lines from a number on
abbrev pub rise_note : ℕ → ℕ → SignalLine → ToldNote
rise_note k n line = record { label = line.label; number = n; shown = OfRise k }

abbrev pub rise_notes : ℕ → ℕ → List SignalLine → List ToldNote
rise_notes k n [] = []
rise_notes k n (line ∷ lines) = rise_note k n line ∷ rise_notes k (n + 1) lines

none : (n : ℕ) → n ≡ n + 0
none n = omega arith

shift : (n j : ℕ) → n + 1 + j ≡ n + suc j
shift n j = omega arith

line_note : (k n j : ℕ) (lines : List SignalLine) (line : SignalLine) → slice_get lines j ≡ Some line
    → slice_get (rise_notes k n lines) j ≡ Some (rise_note k (n + j) line)
line_note k n j [] line at = absurd (cc)
line_note k n zero (l ∷ lines) line at = ap (λ m. Some (rise_note k m l)) (none n) ∙ ap (λ y. Some (rise_note k (n + 0) y)) (same_Some l line at)
line_note k n (suc j) (l ∷ lines) line at =
    line_note k (n + 1) j lines line at ∙ ap (λ m. Some (rise_note k m line)) (shift n j)

note_line : (k n j : ℕ) (lines : List SignalLine) (m : ToldNote) → slice_get (rise_notes k n lines) j ≡ Some m
    → (line : SignalLine) × (slice_get lines j ≡ Some line) × (m ≡ rise_note k (n + j) line)
note_line k n j [] m at = absurd (cc)
note_line k n zero (l ∷ lines) m at = (l, refl, sym (same_Some _ m at) ∙ ap (λ i. rise_note k i l) (none n))
note_line k n (suc j) (l ∷ lines) m at =
    let rest = note_line k (n + 1) j lines m at in (rest.0, rest.1, rest.2 ∙ ap (λ i. rise_note k i rest.0) (shift n j))

-- they give the counter's lines
rise_lines : (k n : ℕ) (lines : List SignalLine) → map line_told (rise_notes k n lines) ≡ map (line_of_signal k) lines
rise_lines k n [] = refl
rise_lines k n (line ∷ lines) = ap (λ ys. line_of_signal k line ∷ ys) (rise_lines k (n + 1) lines)

-- and are of its list alone
rises_of_list : (o : Owner) (k n : ℕ) (lines : List SignalLine) → is_owner (CountersList k) o ≡ true
    → filter (is_on o) (rise_notes k n lines) ≡ rise_notes k n lines
rises_of_list o k n [] is = refl
rises_of_list o k n (line ∷ lines) is =
    let rest = filter (is_on o) (rise_notes k (n + 1) lines) in
    ap (λ b. cond b (rise_note k n line ∷ rest) rest) is ∙ ap (λ ys. rise_note k n line ∷ ys) (rises_of_list o k (n + 1) lines is)

rises_of_none : (o : Owner) (k n : ℕ) (lines : List SignalLine) → is_owner (CountersList k) o ≡ false → filter (is_on o) (rise_notes k n lines) ≡ []
rises_of_none o k n [] not = refl
rises_of_none o k n (line ∷ lines) not =
    let rest = filter (is_on o) (rise_notes k (n + 1) lines) in
    ap (λ b. cond b (rise_note k n line ∷ rest) rest) not ∙ rises_of_none o k (n + 1) lines not

-- ---- a counter's rises among those of a call

-- one of these rises is among its counter's, and back
rise_among : (xs : List (ℕ × (ℕ × Signal))) (i : ℕ) (x : ℕ × (ℕ × Signal)) → slice_get xs i ≡ Some x → Among x.1 (rises_on x.0 xs)
rise_among [] i x at = absurd (cc)
rise_among (y ∷ xs) zero x at =
    let same = same_Some y x at in
    subst (λ b. Among x.1 (also b y.1 (rises_on x.0 xs))) (sym (eq-eqb y.0 x.0 (ap (λ (z : ℕ × (ℕ × Signal)). z.0) same)))
    (inl (ap (λ (z : ℕ × (ℕ × Signal)). z.1) (sym same)))
rise_among (y ∷ xs) (suc i) x at = elim (nat_eq y.0 x.0) as (λ b. Among x.1 (also b y.1 (rises_on x.0 xs))) [
  | true ↦ inr (rise_among xs i x at)
  | false ↦ rise_among xs i x at
]

among_rise : (k : ℕ) (y : ℕ × Signal) (xs : List (ℕ × (ℕ × Signal))) → Among y (rises_on k xs) → HasPlace xs (k, y)
among_rise k y [] here = absurd here
among_rise k y (x ∷ xs) here = elim (nat_eq x.0 k) as (λ b. nat_eq x.0 k ≡ b → Among y (also b x.1 (rises_on k xs)) → HasPlace (x ∷ xs) (k, y)) [
  | true ↦ λ is here. ⊎_elim
      (λ (same : y ≡ x.1). (0, ap (λ j. Some (j, x.1)) (eqb-true x.0 k is) ∙ ap (λ z. Some (k, z)) (sym same)))
      (λ more. let rest = among_rise k y xs more in (suc rest.0, rest.1)) here
  | false ↦ λ not here. let rest = among_rise k y xs here in (suc rest.0, rest.1)
] refl here

-- ---- those of the run

module _ {s : Script} {x : WorldOf} {q : WorldPass} {notes : NotesOf} {logs : Label → CallLog} (last : AreLastOf s x q) (left : AreLeft s q notes logs) where
  abbrev lines : ℕ → List SignalLine
  lines k = signals last left k

  abbrev pushes : List ToldNote
  pushes = rise_notes (push_counter s) 1 (lines (push_counter s))

  abbrev pops : List ToldNote
  pops = rise_notes (pop_counter s) 1 (lines (pop_counter s))

  -- law: the notes of all pushes and pops, in the order of their numbers
  abbrev pub signal_notes : List ToldNote
  signal_notes = pushes ++ pops

  -- the note of a rise is told by its call's actions
  rise_told : (k : ℕ) (n : ToldNote) → HasPlace (rise_notes k 1 (lines k)) n → HasPlace (signals_told (logs n.label).trace.actions) (told_in n)
  rise_told k n st =
      let line = note_line k 1 st.0 (lines k) n st.1 in
      let c = line.0.label in
      let mine = stands_own (λ l. l.label) (λ l. l.signal) c 1 st.0 (lines k) line.0 line.1 (label_itself c) in
      let did = subst (Among (1 + st.0, line.0.signal)) (signals_own last left c k ∙ signalled_of k (logs c).trace.actions) mine in
      let of = among_rise k (1 + st.0, line.0.signal) (signals_of (logs c).trace.actions) did in
      subst (λ (m : ToldNote). HasPlace (signals_told (logs m.label).trace.actions) (told_in m)) (sym line.2)
      (stands_in_map _ (signals_of (logs c).trace.actions) _ of)

  rise_receipt : (k : ℕ) (n : ToldNote) → HasPlace (rise_notes k 1 (lines k)) n → HasReceipt logs n
  rise_receipt k n st = signal_receipt left n (rise_told k n st)

  -- law: each is one of its call's receipts
  pub signal_noted : (n : ToldNote) → HasPlace signal_notes n → HasReceipt logs n
  signal_noted n st = ⊎_elim (rise_receipt (push_counter s) n) (rise_receipt (pop_counter s) n) (split_place pushes pops st.0 n st.1)

  -- a counter with a line is that of pushes or that of pops
  of_queue : (k j : ℕ) (line : SignalLine) → slice_get (lines k) j ≡ Some line → (push_counter s ≡ k) ⊎ (pop_counter s ≡ k)
  of_queue k j line at = ⊎_elim inl (λ no_push. ⊎_elim inr
      (λ no_pop. absurd (nowhere (ap (λ ls. slice_get ls j) (sym (signals_none last left k no_push no_pop)) ∙ at))) (cases_eq (pop_counter s) k))
      (cases_eq (push_counter s) k)
    where
      nowhere : slice_get [] j ≡ Some line → ⊥
      nowhere at = absurd (cc)

  -- law: what a call's actions tell of pushes and pops is one of them
  pub signal_is_noted : (c : Label) (e : ℕ × Shown) → HasPlace (signals_told (logs c).trace.actions) e
      → HasPlace signal_notes (record { label = c; number = e.0; shown = e.1 })
  signal_is_noted c e st =
      let of = map_stands_in _ (signals_of (logs c).trace.actions) e st in
      let k = of.0.0 in
      let did = rise_among (signals_of (logs c).trace.actions) of.1.0 of.0 of.1.1 in
      let mine = subst (Among of.0.1) (sym (signals_own last left c k ∙ signalled_of k (logs c).trace.actions)) did in
      let at = own_stands (λ l. l.label) (λ l. l.signal) c 1 (lines k) of.0.1 mine in
      let there = line_note k 1 at.before (lines k) at.line at.there in
      let note : rise_note k (1 + at.before) at.line ≡ record { label = c; number = e.0; shown = e.1 } =
      ap (λ l. record { label = l; number = 1 + at.before; shown = OfRise k }) (same_label c at.line.label at.own)
      ∙ ap (λ (y : ℕ × Signal). record { label = c; number = y.0; shown = OfRise k }) (sym at.is)
      ∙ ap (λ (y : ℕ × Shown). record { label = c; number = y.0; shown = y.1 }) of.2 in
      let stands : HasPlace (rise_notes k 1 (lines k)) (record { label = c; number = e.0; shown = e.1 }) = (at.before, there ∙ ap Some note) in
      ⊎_elim
      (λ (is : push_counter s ≡ k).
      let here = subst (λ j. HasPlace (rise_notes j 1 (lines j)) (record { label = c; number = e.0; shown = e.1 })) (sym is) stands in
      (here.0, at_left pushes pops here.0 _ here.1))
      (λ (is : pop_counter s ≡ k).
      let here = subst (λ j. HasPlace (rise_notes j 1 (lines j)) (record { label = c; number = e.0; shown = e.1 })) (sym is) stands in
      (length pushes + here.0, at_behind pushes pops here.0 _ here.1))
      (of_queue k at.before at.line at.there)

  -- law: those of a counter give its lines, and those of other lists are none
  pub signals_on : (k : ℕ) → map line_told (filter (is_on (CountersList k)) signal_notes) ≡ map (line_of_signal k) (lines k)
  signals_on k =
      let o = CountersList k in
      let parts = ap (map line_told) (filter-append (is_on o) pushes pops) in
      ⊎_elim
      (λ (is : push_counter s ≡ k).
      let mine = rises_of_list o (push_counter s) 1 (lines (push_counter s)) (eq-eqb (push_counter s) k is) in
      let none = rises_of_none o (pop_counter s) 1 (lines (pop_counter s)) (ne_eqb (pop_counter s) k (λ e. omega (arith, is, e))) in
      parts ∙ ap (λ ns. map line_told (ns ++ filter (is_on o) pops)) mine ∙ ap (λ ns. map line_told (pushes ++ ns)) none
      ∙ ap (map line_told) (append-nil pushes) ∙ rise_lines (push_counter s) 1 (lines (push_counter s)) ∙ ap (λ j. map (line_of_signal j) (lines j)) is)
      (λ no_push.
      let none = rises_of_none o (push_counter s) 1 (lines (push_counter s)) (ne_eqb (push_counter s) k no_push) in
      ⊎_elim
      (λ (is : pop_counter s ≡ k).
      let mine = rises_of_list o (pop_counter s) 1 (lines (pop_counter s)) (eq-eqb (pop_counter s) k is) in
      parts ∙ ap (λ ns. map line_told (ns ++ filter (is_on o) pops)) none ∙ ap (map line_told) mine
      ∙ rise_lines (pop_counter s) 1 (lines (pop_counter s)) ∙ ap (λ j. map (line_of_signal j) (lines j)) is)
      (λ no_pop.
      let neither = rises_of_none o (pop_counter s) 1 (lines (pop_counter s)) (ne_eqb (pop_counter s) k no_pop) in
      parts ∙ ap (λ ns. map line_told (ns ++ filter (is_on o) pops)) none ∙ ap (map line_told) neither
      ∙ ap (map (line_of_signal k)) (sym (signals_none last left k no_push no_pop)))
      (cases_eq (pop_counter s) k))
      (cases_eq (push_counter s) k)

  none_else : (o : Owner) → ((k : ℕ) → is_owner (CountersList k) o ≡ false) → filter (is_on o) signal_notes ≡ []
  none_else o other = filter-append (is_on o) pushes pops
      ∙ ap (λ ns. ns ++ filter (is_on o) pops) (rises_of_none o (push_counter s) 1 (lines (push_counter s)) (other (push_counter s)))
      ∙ rises_of_none o (pop_counter s) 1 (lines (pop_counter s)) (other (pop_counter s))

  pub no_timers_signals : (t : ℕ) → filter (is_on (TimersList t)) signal_notes ≡ []
  no_timers_signals t = none_else (TimersList t) (λ k. refl)

  pub no_bases_signals : (b : ℕ) → filter (is_on (BasesList b)) signal_notes ≡ []
  no_bases_signals b = none_else (BasesList b) (λ k. refl)

  -- each line of a counter is of a rise that was seen
  rose_for_each : (k many : ℕ) → many ≡ length (lines k) → many ≤ rises_of k q.timers.known.seen
  rose_for_each k zero is = omega arith
  rose_for_each k (suc n) is =
      let line = item_at (lines k) n (omega (arith, is)) in
      let note = rise_note k (1 + n) line.0 in
      let has = rise_receipt k note (n, line_note k 1 n (lines k) line.0 line.1) in
      let rose = rose_to last left (noted_at has.place note) k refl (note_made left note has) in
      omega (arith, rose)

  -- law: each counter of the queue has as many lines as rises
  pub pushes_counted : length (lines (push_counter s)) ≡ rises_of (push_counter s) q.timers.known.seen
  pushes_counted =
      let counter : put_counter x.timers.about 0 ≡ push_counter s = omega (arith, ap (λ (o : Opening). o.counters) last.of.world.timers) in
      let few = subst (λ k. rises_of k q.timers.known.seen ≤ length (pushed (turns q.signals.knows))) counter last.pushes in
      let many = sym (length-map (lines (push_counter s)) (λ (line : SignalLine). line.signal)) ∙ ap length (signals_pushed last left) in
      omega (arith, few, many, rose_for_each (push_counter s) (length (lines (push_counter s))) refl)

  pub pops_counted : length (lines (pop_counter s)) ≡ rises_of (pop_counter s) q.timers.known.seen
  pops_counted =
      let counter : taken_counter x.timers.about 0 ≡ pop_counter s = omega (arith, ap (λ (o : Opening). o.counters) last.of.world.timers) in
      let few = subst (λ k. rises_of k q.timers.known.seen ≤ length (popped (turns q.signals.knows))) counter last.pops in
      let many = sym (length-map (lines (pop_counter s)) (λ (line : SignalLine). line.signal)) ∙ ap length (signals_popped last left) in
      omega (arith, few, many, rose_for_each (pop_counter s) (length (lines (pop_counter s))) refl)

  -- law: an object's entries, twice each, and a counter's pushes and pops are its rises
  pub counter_filed : (i : ℕ) → length (seen_of q.objects i) + length (seen_of q.objects i) + length (lines (suc i)) ≡ rises_of (suc i) q.timers.known.seen
  counter_filed i = ⊎_elim
      (λ (less : i < length s.timers).
      let none = ap length (signals_none last left (suc i) (λ is. omega (arith, is, less)) (λ is. omega (arith, is, less))) in
      omega (arith, none, rises_counted last left i less))
      (λ (past : length s.timers ≤ i).
      let no_object = ap length (objects_past last.of i past) in
      ⊎_elim (λ (is : push_counter s ≡ suc i). let many = subst (λ k. length (lines k) ≡ rises_of k q.timers.known.seen) is pushes_counted in
      omega (arith, no_object, many))
      (λ no_push. ⊎_elim (λ (is : pop_counter s ≡ suc i). let many = subst (λ k. length (lines k) ≡ rises_of k q.timers.known.seen) is pops_counted in
      omega (arith, no_object, many))
      (λ no_pop.
      let none = ap length (signals_none last left (suc i) no_push no_pop) in
      let never = none_past last.of (CountersList (suc i)) (λ (there : suc i < length s.timers + 3). neither i past there no_push no_pop) in
      omega (arith, no_object, none, never))
      (cases_eq (pop_counter s) (suc i)))
      (cases_eq (push_counter s) (suc i)))
      (cases_lt i (length s.timers))
    where
      neither : (i : ℕ) → length s.timers ≤ i → suc i < length s.timers + 3 → (push_counter s ≡ suc i → ⊥) → (pop_counter s ≡ suc i → ⊥) → ⊥
      neither i past there no_push no_pop = ⊎_elim (λ (more : length s.timers < i). no_pop (omega (arith, more, there)))
          (λ (most : i ≤ length s.timers). no_push (omega (arith, past, most))) (cases_lt (length s.timers) i)
