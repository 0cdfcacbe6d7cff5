-- What the last passes know at the end of a run: of which timers, bases, counters and objects entries are, and that each of them was noted once.
use Rattle.run_history.specs.Receipts as receipts
use Rattle.std.proofs.Common.{◌⊎◌, inl, inr, ◌≡◌, ℕ, ◌<◌, ◌≤◌, zero, suc, Some, List, [], ◌∷◌, filter, length, map, take, arith, refl, sym, ap, ◌∙◌, subst}
use Rattle.std.specs.List.{slice_get}
use Rattle.std.proofs.Math.Logic.{⊎_elim}
use Rattle.std.proofs.lemmas.Bool.{and_right, cases_lt, lt-leb, and_parts, eqb-true}
use Rattle.clock_cell.specs.Views.{writes}
use Rattle.pass_names.specs.Counts.{count, one_if}
use Rattle.pass_names.specs.Passes.{within}
use Rattle.seq_timer.specs.Systems.{rises_of, shifts_of}
use Rattle.seq_timer.specs.declared.system.SystemEntry.{SystemEntry}
use Rattle.seq_timer.specs.declared.system.SystemEntry.TheVariants as entries
use Rattle.std.specs.List.{AllByRecursion}
use Rattle.std.specs.List.Sorted.{IsPermutation}
use Rattle.std.specs.Prelude.{◌==◌, ◌&&◌, Bool, true, false, ◌+◌, ◌++◌}
use mathlib.Core.Bool.{cond}
use Rattle.std.proofs.lemmas.Bool.{ne_eqb}
use Rattle.std.proofs.lemmas.Bool.Decides.{nat_tests}
use Rattle.std.proofs.lemmas.List.Elements.{filter-append}
use Rattle.pass_names.specs.Passes.{is_place}
use Rattle.timer_objects.specs.Known.{seen_of}
use Rattle.lane_notes.specs.Notes.{NotesOf}
use Rattle.lane_notes.specs.Sorted.{Place, place_of_base, place_of_entry, place_of_object, place_of_write, IsSortedFrom}
use Rattle.lane_notes.specs.declared.notes.BaseNote.{BaseNote}
use Rattle.lane_notes.specs.declared.notes.EntryNote.{EntryNote}
use Rattle.lane_notes.specs.declared.notes.ObjectNote.{ObjectNote}
use Rattle.lane_notes.proofs.Rising.{is_at}
use Rattle.lane_notes.proofs.Standing.{HasPlace, map_stands_in, stands_in_filter, stands_in_map, stands_permuted, stood_before, filter_stands_in}
use Rattle.record_text.specs.declared.record.Label.{Label}
use Rattle.run_history.specs.Order.{is_label}
use Rattle.script_text.specs.declared.script.Script.{Script}
use Rattle.run_history.specs.Receipts.{IsMade, PlacedEntry, receipt}
use Rattle.run_history.specs.Runs.{CallLog}
use Rattle.run_history.proofs.Labels.{label_itself, same_label}
use Rattle.run_history.proofs.Lists.{all_at, at_left, each}
use Rattle.run_history.specs.Witnesses.{BasesList, CountersList, Owner, Shown, TimersList, owner_of, owner_of_entry}
use Rattle.lane_notes.proofs.Kept.{ToldNote, base_note_place, note_place, of_base, of_entry, of_object, of_write, own_notes, signals_told, told_in, told_notes, turn_notes}
use Rattle.lane_notes.proofs.Left.{AreLastOf, AreLeft}
use Rattle.record_laws.proofs.Turns.{entry_stands_in, filter-turns}
use Rattle.lane_notes.specs.Worlds.{WorldOf}
use Rattle.lane_notes.specs.declared.lane.WorldPass.{WorldPass}
use Rattle.record_laws.proofs.SeenThere.{bases_many, IsThere, none_past, objects_past, rose_more, there_within, timers_many}
use Rattle.record_laws.proofs.Numbered.{AreEachOnce, count-map, nobody, as_many, lines_are, none_long, once_from, within_from}
use Rattle.lane_notes.specs.Records.{base_line, noted_base_lines, noted_object_lines, noted_timer_lines, record_from, numbered_from}
use Rattle.record_text.specs.declared.record.Answer.{Answer}
use Rattle.run_history.specs.Histories.{lines_of_base, lines_of_timer}
use Rattle.run_history.specs.Objects.{lines_of_object}

-- ---- notes and receipts

-- an entry's note as the receipt of it, with so many entries before it
abbrev pub noted_at : ℕ → ToldNote → PlacedEntry
noted_at place n = record { place = place; number = n.number; shown = n.shown }

told_at : (y : PlacedEntry) (n : ToldNote) → receipt y ≡ told_in n → y ≡ noted_at y.place n
told_at y n is = ap (λ (r : ℕ × Shown). record { place = y.place; number = r.0; shown = r.1 }) is

-- the receipt that an entry's note is of, among those of its call
pub record HasReceipt (logs : Label → CallLog) (n : ToldNote) : Type 0 where
  pub place : ℕ
  pub index : ℕ
  pub there : slice_get (logs n.label).notes index ≡ Some (noted_at place n)

-- an item behind a list, and where one of both stands
pub at_behind : {X : Type 0} (xs ys : List X) (j : ℕ) (y : X) → slice_get ys j ≡ Some y → slice_get (xs ++ ys) (length xs + j) ≡ Some y
at_behind [] ys j y at = subst (λ n. slice_get ys n ≡ Some y) (omega arith) at
at_behind (x ∷ xs) ys j y at = subst (λ n. slice_get (x ∷ xs ++ ys) n ≡ Some y) (further (length xs) j) (at_behind xs ys j y at)
  where
    further : (n j : ℕ) → suc (n + j) ≡ suc n + j
    further n j = omega arith

pub split_place : {X : Type 0} (xs ys : List X) (j : ℕ) (y : X) → slice_get (xs ++ ys) j ≡ Some y → HasPlace xs y ⊎ HasPlace ys y
split_place [] ys j y at = inr (j, at)
split_place (x ∷ xs) ys zero y at = inl (0, at)
split_place (x ∷ xs) ys (suc j) y at = ⊎_elim (λ st. inl (suc st.0, st.1)) inr (split_place xs ys j y at)

-- what is picked of things that are made of others
pub filter-map : {X Y : Type 0} (make : X → Y) (p : Y → Bool) (xs : List X) → filter p (map make xs) ≡ map make (filter (λ x. p (make x)) xs)
filter-map make p [] = refl
filter-map make p (x ∷ xs) =
    elim (p (make x)) as (λ b. cond b (make x ∷ filter p (map make xs)) (filter p (map make xs))
    ≡ map make (cond b (x ∷ filter (λ z. p (make z)) xs) (filter (λ z. p (make z)) xs))) [
      | true ↦ ap (λ ys. make x ∷ ys) (filter-map make p xs)
      | false ↦ filter-map make p xs
    ]

-- law: the notes that pass a test are those of each kind
pub told_parts : (p : ToldNote → Bool) (notes : NotesOf) → filter p (told_notes notes)
    ≡ filter p (map of_entry notes.entries)
    ++ (filter p (map of_base notes.bases) ++ (filter p (map of_write notes.writes) ++ filter p (turn_notes notes.objects)))
told_parts p notes =
    let rises = map of_write notes.writes ++ turn_notes notes.objects in
    filter-append p (map of_entry notes.entries) (map of_base notes.bases ++ rises)
    ∙ ap (λ xs. filter p (map of_entry notes.entries) ++ xs) (filter-append p (map of_base notes.bases) rises
    ∙ ap (λ xs. filter p (map of_base notes.bases) ++ xs) (filter-append p (map of_write notes.writes) (turn_notes notes.objects)))

-- law: four parts that are the same as others make the same list
pub same_parts : {X : Type 0} {a b c d e f g h : List X} → a ≡ b → c ≡ d → e ≡ f → g ≡ h → a ++ (c ++ (e ++ g)) ≡ b ++ (d ++ (f ++ h))
same_parts one two three four = λ i. one i ++ (two i ++ (three i ++ four i))

module _ {s : Script} {q : WorldPass} {notes : NotesOf} {logs : Label → CallLog} (left : AreLeft s q notes logs) where
  abbrev own : Label → List ToldNote
  own c = filter (λ n. is_label c n.label) (told_notes notes)

  own_told : (c : Label) → told_notes (own_notes c notes) ≡ own c
  own_told c =
      let mine = λ (n : ToldNote). is_label c n.label in
      sym (told_parts mine notes
      ∙ same_parts (filter-map of_entry mine notes.entries) (filter-map of_base mine notes.bases) (filter-map of_write mine notes.writes)
      (filter-turns (is_label c) notes.objects))

  -- a call's receipts are told by its notes, and by its pushes and pops
  told_so : (c : Label) → IsPermutation (map receipt (logs c).notes) (map told_in (own c) ++ signals_told (logs c).trace.actions)
  told_so c =
      subst (λ ts. IsPermutation (map receipt (logs c).notes) (map told_in ts ++ signals_told (logs c).trace.actions)) (own_told c) (left.tell c).receipts

  -- what is told is one of its call's receipts
  receipt_told : (n : ToldNote) → HasPlace (map told_in (own n.label) ++ signals_told (logs n.label).trace.actions) (told_in n) → HasReceipt logs n
  receipt_told n st =
      let b = stood_before (map receipt (logs n.label).notes) _ st.0 (told_in n) (told_so n.label) st.1 in
      let m = map_stands_in receipt (logs n.label).notes (told_in n) b in
      record { place = m.0.place; index = m.1.0; there = m.1.1 ∙ ap Some (told_at m.0 n m.2) }

  -- law: each note of an entry is one of its call's receipts
  pub has_receipt : (n : ToldNote) → HasPlace (told_notes notes) n → HasReceipt logs n
  has_receipt n st =
      let o = stands_in_map told_in (own n.label) n (stands_in_filter (λ m. is_label n.label m.label) (told_notes notes) n (label_itself n.label) st) in
      receipt_told n (o.0, at_left (map told_in (own n.label)) (signals_told (logs n.label).trace.actions) o.0 (told_in n) o.1)

  -- law: and so is that of each push and pop
  pub signal_receipt : (n : ToldNote) → HasPlace (signals_told (logs n.label).trace.actions) (told_in n) → HasReceipt logs n
  signal_receipt n st = receipt_told n
      (length (map told_in (own n.label)) + st.0, at_behind (map told_in (own n.label)) (signals_told (logs n.label).trace.actions) st.0 (told_in n) st.1)

  -- law: and each receipt has a note, or is that of a push or a pop
  pub is_told : (c : Label) (i : ℕ) (y : PlacedEntry) → slice_get (logs c).notes i ≡ Some y
      → ((n : ToldNote) × HasPlace (told_notes notes) n × (n.label ≡ c) × (y ≡ noted_at y.place n)) ⊎ HasPlace (signals_told (logs c).trace.actions) (receipt y)
  is_told c i y at =
      let o = stands_in_map receipt (logs c).notes y (i, at) in
      let all = stands_permuted (map receipt (logs c).notes) (map told_in (own c) ++ signals_told (logs c).trace.actions) o.0 (receipt y) (told_so c) o.1 in
      ⊎_elim
      (λ st.
      let m = map_stands_in told_in (own c) (receipt y) st in
      let f = filter_stands_in (λ n. is_label c n.label) (told_notes notes) m.0 m.1 in
      inl (m.0, f.0, same_label c m.0.label f.1, told_at y m.0 (sym m.2))) inr
      (split_place (map told_in (own c)) (signals_told (logs c).trace.actions) all.0 (receipt y) all.1)

  -- law: the entry that a note tells was made
  pub note_made : (n : ToldNote) (h : HasReceipt logs n) → IsMade q.timers.known.seen (noted_at h.place n)
  note_made n h = all_at (IsMade q.timers.known.seen) (logs n.label).notes h.index (noted_at h.place n) (left.stand n.label).made h.there

  -- a timer's note, a base's, and an object's, among all
  pub entry_stands : (e : EntryNote) → HasPlace notes.entries e → HasPlace (told_notes notes) (of_entry e)
  entry_stands e st = let o = stands_in_map of_entry notes.entries e st in
      (o.0, at_left (map of_entry notes.entries) (map of_base notes.bases ++ (map of_write notes.writes ++ turn_notes notes.objects)) o.0 _ o.1)

  pub base_stands : (e : BaseNote) → HasPlace notes.bases e → HasPlace (told_notes notes) (of_base e)
  base_stands e st = let o = stands_in_map of_base notes.bases e st in (
    length (map of_entry notes.entries) + o.0,
    at_behind (map of_entry notes.entries) (map of_base notes.bases ++ (map of_write notes.writes ++ turn_notes notes.objects)) o.0 _
        (at_left (map of_base notes.bases) (map of_write notes.writes ++ turn_notes notes.objects) o.0 _ o.1),
  )

  pub object_stands : (e : ObjectNote) → HasPlace notes.objects e → HasPlace (told_notes notes) (of_object e)
  object_stands e st =
      let o = entry_stands_in notes.objects e st in
      let rises = map of_write notes.writes ++ turn_notes notes.objects in (
        length (map of_entry notes.entries) + (length (map of_base notes.bases) + (length (map of_write notes.writes) + o.0)),
        at_behind (map of_entry notes.entries) (map of_base notes.bases ++ rises) _ _ (at_behind (map of_base notes.bases) rises _ _
            (at_behind (map of_write notes.writes) (turn_notes notes.objects) o.0 _ o.1)),
      )

-- ---- what the last passes have seen

no_number : (n : ℕ) → one_if (within n 0) ≡ 0
no_number zero = refl
no_number (suc n) = ap one_if (and_right _ _ (lt-leb (suc n) 0 (omega arith)))

-- no note stands at the place of a list that none is of
none_at : {X : Type 0} (place : X → ℕ × ℕ) (i n : ℕ) (xs : List X) → AllByRecursion (λ x. (place x).0 ≡ i → ⊥) xs
    → count (is_place i n) (map place xs) ≡ 0
none_at place i n [] all = refl
none_at place i n (x ∷ xs) all =
    ap (λ c. one_if (c && ((place x).1 == n)) + count (is_place i n) (map place xs)) (ne_eqb (place x).0 i all.0) ∙ omega (arith, none_at place i n xs all.1)

same_test : (many b c : ℕ) → (many + c == many + b) ≡ (c == b)
same_test many b c = grind (arith, nat_tests)

base_at : (many b n : ℕ) (bs : List BaseNote)
    → count (is_place (many + b) n) (map (base_note_place many) bs) ≡ count (is_place b n) (map (λ (e : BaseNote). (e.base, e.number)) bs)
base_at many b n [] = refl
base_at many b n (x ∷ bs) =
    ap (λ c. one_if (c && (x.number == n)) + count (is_place (many + b) n) (map (base_note_place many) bs)) (same_test many b x.base)
    ∙ ap (λ k. one_if ((x.base == b) && (x.number == n)) + k) (base_at many b n bs)

module _ {s : Script} {x : WorldOf} {q : WorldPass} (last : AreLastOf s x q) where
  many_timers : length x.timers.about.timers ≡ length s.timers
  many_timers = timers_many last.of

  many_bases : x.timers.about.bases ≡ s.bases
  many_bases = bases_many last.of

  module _ {notes : NotesOf} {logs : Label → CallLog} (left : AreLeft s q notes logs) where
    -- law: a note is of a timer, a base or a counter that is there
    pub note_within : (n : ToldNote) → HasPlace (told_notes notes) n → IsThere s (owner_of n.shown)
    note_within n st = let made = note_made left n (has_receipt left n st) in
        subst (IsThere s) made.owner (there_within last.of _ made.step made.there)

    -- where a list isn't there no number of it is noted
    none_noted_past : {X : Type 0} (place : X → Place) (l : ℕ) (xs : List X) (o : Owner) → (IsThere s o → ⊥)
        → ((e : X) → HasPlace xs e → (place e).list ≡ l → IsThere s o) → AreEachOnce place l (receipts.count_owned o q.timers.known.seen) xs
    none_noted_past place l xs o past there = record {
      each = λ n. ap length (nobody (filter (is_at place l n) xs) (λ e st.
          let f = filter_stands_in (is_at place l n) xs e st in
          past (there e f.0 (eqb-true (place e).list l (and_parts _ _ f.1).0))))
          ∙ sym (ap (λ k. one_if (within n k)) (none_past last.of o past) ∙ no_number n);
    }

    -- law: each entry of each timer is noted once
    pub entries_once : (t : ℕ) → AreEachOnce place_of_entry t (receipts.count_owned (TimersList t) q.timers.known.seen) notes.entries
    entries_once t = ⊎_elim
        (λ (less : t < length s.timers). once_from q.timers.known.mine
        (λ n. let none = none_at (base_note_place (length s.timers)) t n notes.bases (each _ notes.bases (λ p b at is. omega (arith, is, less))) in
        omega (arith, left.places.timers t n, none))
        (λ n. (last.of.passes.timers.knows.whole last.of.last.timers).once t n (subst (λ m. t < m) (sym many_timers) less)))
        (λ (past : length s.timers ≤ t). none_noted_past place_of_entry t notes.entries (TimersList t) (λ less. omega (arith, less, past))
        (λ e st is. subst (λ u. u < length s.timers) is (note_within (of_entry e) (entry_stands left e st))))
        (cases_lt t (length s.timers))

    -- law: each entry of each base is
    pub shifts_once : (b : ℕ) → AreEachOnce place_of_base b (receipts.count_owned (BasesList b) q.timers.known.seen) notes.bases
    shifts_once b = ⊎_elim
        (λ (less : b < s.bases). record {
          each = λ n. sym (count-map (λ (e : BaseNote). (e.base, e.number)) (is_place b n) notes.bases) ∙ omega (
            arith,
            left.places.timers (length s.timers + b) n,
            base_at (length s.timers) b n notes.bases,
            none_at note_place (length s.timers + b) n notes.entries (each _ notes.entries (λ p e at is.
                let there = note_within (of_entry e) (entry_stands left e (p, at)) in omega (arith, is, there))),
            subst (λ m. count (is_place (m + b) n) q.timers.known.mine ≡ one_if (within n (length (shifts_of b q.timers.known.seen)))) many_timers
                ((last.of.passes.timers.knows.shifts last.of.last.timers) b n (subst (λ m. b < m) (sym many_bases) less)),
          );
        })
        (λ (past : s.bases ≤ b). none_noted_past place_of_base b notes.bases (BasesList b) (λ less. omega (arith, less, past))
        (λ e st is. subst (λ c. c < s.bases) is (note_within (of_base e) (base_stands left e st))))
        (cases_lt b s.bases)

    -- law: each entry of each object is
    pub objects_once : (i : ℕ) → AreEachOnce place_of_object i (length (seen_of q.objects i)) notes.objects
    objects_once i = once_from _ (left.places.objects i) ((last.of.passes.objects.knows.all_entries last.of.last.objects).once i)

    -- law: each write of the clock is
    pub writes_once : AreEachOnce place_of_write 0 (length (writes q.clock.knows)) notes.writes
    writes_once = once_from _ left.places.clock ((last.of.passes.known.all_entries last.of.last.clock).once 0)

    -- law: so each rise of their counter is
    pub write_rises_once : AreEachOnce place_of_write 0 (receipts.count_owned (CountersList 0) q.timers.known.seen) notes.writes
    write_rises_once = subst (λ n. AreEachOnce place_of_write 0 n notes.writes) (sym last.told) writes_once

    -- what a counter's receipt is of
    its_rise : (y : SystemEntry) (k : ℕ) → owner_of_entry y ≡ CountersList k → y ≡ entries.Rise k
    its_rise (entries.Timer y) k is = absurd (cc)
    its_rise (entries.Base y) k is = absurd (cc)
    its_rise (entries.Rise j) k is = cc

    -- law: of a counter as many rises were seen as a receipt of it has its number
    pub rose_to : (y : PlacedEntry) (k : ℕ) → owner_of y.shown ≡ CountersList k → IsMade q.timers.known.seen y → y.number ≤ rises_of k q.timers.known.seen
    rose_to y k on made =
        let there = subst (λ z. slice_get q.timers.known.seen y.place ≡ Some z) (its_rise made.step k (made.owner ∙ on)) made.there in
        let number = subst (λ o. receipts.count_owned o (take y.place q.timers.known.seen) + 1 ≡ y.number) on made.number in
        omega (arith, rose_more last.of y.place k there, number)

    -- of each entry of an object two rises were seen
    object_rose : (i n : ℕ) → n ≡ length (seen_of q.objects i) → n + n ≤ rises_of (suc i) q.timers.known.seen
    object_rose i zero is = omega arith
    object_rose i (suc n) is =
        let many = length (seen_of q.objects i) in
        let own = filter (is_at place_of_object i many) notes.objects in
        let one : length own ≡ 1 = (objects_once i).each many ∙ within_from many many (omega (arith, is)) (omega arith) in
        let note = filter_stands_in (is_at place_of_object i many) notes.objects (head own one).0 (0, (head own one).1) in
        let e = (head own one).0 in
        let parts = and_parts _ _ note.1 in
        let on : e.object ≡ i = eqb-true e.object i parts.0 in
        let has = has_receipt left (of_object e) (object_stands left e note.0) in
        let rose = rose_to (noted_at has.place (of_object e)) (suc i) (ap (λ j. CountersList (suc j)) on) (note_made left (of_object e) has) in
        omega (arith, is, rose, eqb-true e.number many parts.1)
      where
        head : (xs : List ObjectNote) → length xs ≡ 1 → (y : ObjectNote) × (slice_get xs 0 ≡ Some y)
        head [] is = absurd (omega (arith, is))
        head (y ∷ ys) is = (y, refl)

    -- law: the counter of an object's turns has risen twice for each of its entries
    pub rises_counted : (i : ℕ) → i < length s.timers → rises_of (suc i) q.timers.known.seen ≡ length (seen_of q.objects i) + length (seen_of q.objects i)
    rises_counted i less =
        let many = length (seen_of q.objects i) in
        let few = subst (λ k. rises_of k q.timers.known.seen ≤ many + many) (one_more i) (last.no_more i less) in
        omega (arith, few, object_rose i (length (seen_of q.objects i)) refl)
      where
        one_more : (k : ℕ) → k + 1 ≡ suc k
        one_more k = omega arith

    -- law: so the record's lines of a timer, of a base and of an object are made of its sorted notes
    pub timer_lines_are : {sorted : NotesOf} → IsSortedFrom notes sorted → (answers : List (List Answer)) (t : ℕ)
        → lines_of_timer (record_from s.version sorted s.bases (length s.timers) answers) t ≡ noted_timer_lines t sorted.entries sorted.looks
    timer_lines_are {sorted = sorted} is answers t = lines_are (λ u. noted_timer_lines u sorted.entries sorted.looks) (length s.timers) t
        (λ past. ap (numbered_from _ 1)
        (none_long _ (as_many is.entries (entries_once t) ∙ none_past last.of (TimersList t) (λ less. omega (arith, less, past)))))

    pub base_lines_are : {sorted : NotesOf} → IsSortedFrom notes sorted → (answers : List (List Answer)) (b : ℕ)
        → lines_of_base (record_from s.version sorted s.bases (length s.timers) answers) b ≡ noted_base_lines b sorted.bases
    base_lines_are {sorted = sorted} is answers b = lines_are (λ c. noted_base_lines c sorted.bases) s.bases b
        (λ past. ap (map base_line) (none_long _ (as_many is.bases (shifts_once b) ∙ none_past last.of (BasesList b) (λ less. omega (arith, less, past)))))

    pub object_lines_are : {sorted : NotesOf} → IsSortedFrom notes sorted → (answers : List (List Answer)) (i : ℕ)
        → lines_of_object (record_from s.version sorted s.bases (length s.timers) answers) i ≡ noted_object_lines i sorted.objects sorted.skips
    object_lines_are {sorted = sorted} is answers i = lines_are (λ j. noted_object_lines j sorted.objects sorted.skips) (length s.timers) i
        (λ past. ap (numbered_from _ 1) (none_long _ (as_many is.objects (objects_once i) ∙ ap length (objects_past last.of i past))))
