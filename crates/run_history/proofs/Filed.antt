-- All calls' receipts in one list, sorted by list and number: each list's are its lines.
use Rattle.std.proofs.Common.{◌≡◌, ◌<◌, ◌≤◌, ℕ, ◌+◌, zero, suc, true, false, List, [], ◌∷◌, Some, length, map, take, arith, refl, sym, ap, ◌∙◌, subst}
use Rattle.std.specs.List.{AllByRecursion, slice_get}
use Rattle.std.proofs.Math.Logic.{⊎_elim}
use Rattle.std.proofs.lemmas.List.{length-map, take_all}
use Rattle.std.proofs.lemmas.Option.{same_Some, slice_get_within}
use Rattle.seq_timer.specs.declared.system.SystemEntry.{SystemEntry}
use Rattle.record_text.specs.declared.record.Label.{Label}
use Rattle.run_history.specs.Actions.{also}
use Rattle.run_history.specs.Witnesses.{RunLists, BasesList, CountersList, Owner, ShownLine, TimersList, is_owner, lines_at, owner_of}
use Rattle.run_history.specs.Receipts.{AreFiled, count_owned, Filed, files_on, IsAhead, IsMade, line_filed, owner_filed, PlacedEntry, RiseBy, Rises}
use Rattle.run_history.proofs.Laid.{AreReceipts, counts_more, IsLine, IsNoted}
use Rattle.run_history.proofs.Lists.{all_at, at_map, each, map_get}
use Rattle.run_history.proofs.Owners.{other_owner, owner_is, same_owner}

abbrev pub number_of : Filed → ℕ
number_of f = f.note.number

-- a list that is ahead of another, which is ahead of a third, is ahead of that
ahead_of_both : (a b o : Owner) → IsAhead a b → IsAhead b o → IsAhead a o
ahead_of_both (TimersList a) (TimersList b) (TimersList o) one two = omega (arith, one, two)
ahead_of_both (TimersList a) (BasesList b) (TimersList o) one two = absurd two
ahead_of_both (TimersList a) (CountersList b) (TimersList o) one two = absurd two
ahead_of_both (TimersList a) b (BasesList o) one two = tt
ahead_of_both (TimersList a) b (CountersList o) one two = tt
ahead_of_both (BasesList a) (TimersList b) o one two = absurd one
ahead_of_both (BasesList a) (BasesList b) (TimersList o) one two = absurd two
ahead_of_both (BasesList a) (BasesList b) (BasesList o) one two = omega (arith, one, two)
ahead_of_both (BasesList a) (CountersList b) (TimersList o) one two = absurd two
ahead_of_both (BasesList a) (CountersList b) (BasesList o) one two = absurd two
ahead_of_both (BasesList a) b (CountersList o) one two = tt
ahead_of_both (CountersList a) (TimersList b) o one two = absurd one
ahead_of_both (CountersList a) (BasesList b) o one two = absurd one
ahead_of_both (CountersList a) (CountersList b) (TimersList o) one two = absurd two
ahead_of_both (CountersList a) (CountersList b) (BasesList o) one two = absurd two
ahead_of_both (CountersList a) (CountersList b) (CountersList o) one two = omega (arith, one, two)

-- and of no list that it is itself
not_ahead : (a b : Owner) → IsAhead a b → a ≡ b → ⊥
not_ahead (TimersList a) (TimersList b) less same = let is : a ≡ b = cc in omega (arith, less, is)
not_ahead (TimersList a) (BasesList b) less same = absurd (cc)
not_ahead (TimersList a) (CountersList b) less same = absurd (cc)
not_ahead (BasesList a) (TimersList b) less same = less
not_ahead (BasesList a) (BasesList b) less same = let is : a ≡ b = cc in omega (arith, less, is)
not_ahead (BasesList a) (CountersList b) less same = absurd (cc)
not_ahead (CountersList a) (TimersList b) less same = less
not_ahead (CountersList a) (BasesList b) less same = less
not_ahead (CountersList a) (CountersList b) less same = let is : a ≡ b = cc in omega (arith, less, is)

rises_on : (o o0 : Owner) (n0 k : ℕ) (fs : List Filed) → AllByRecursion (λ f. 1 ≤ f.note.number) fs → RiseBy o0 n0 fs
    → (IsAhead o0 o → k ≤ 1) → (o0 ≡ o → k ≤ n0 + 1) → Rises k (map number_of (files_on o fs))
rises_on o o0 n0 k [] some rise low here = tt
rises_on o o0 n0 k (f ∷ fs) some rise low here =
    let f0 = owner_filed f in
    elim (is_owner f0 o) as (λ b. is_owner f0 o ≡ b → Rises k (map number_of (also b f (files_on o fs)))) [
      | true ↦ λ is.
          let same : f0 ≡ o = same_owner f0 o is in (
            ⊎_elim (λ (ahead : IsAhead o0 f0). more_than k f.note.number (low (subst (λ x. IsAhead o0 x) same ahead)) some.0)
                (λ next. after_it k n0 f.note.number (here (next.0 ∙ same)) next.1) rise.0,
            rises_on o f0 f.note.number (f.note.number + 1) fs some.1 rise.1 (λ ahead. absurd (not_ahead f0 o ahead same)) (λ e. omega arith),
          )
      | false ↦ λ not.
          rises_on o f0 f.note.number k fs some.1 rise.1
          (λ ahead. ⊎_elim (λ (earlier : IsAhead o0 f0). low (ahead_of_both o0 f0 o earlier ahead))
          (λ next. low (subst (λ x. IsAhead x o) (sym next.0) ahead)) rise.0)
          (λ e. absurd (other_owner f0 o not e))
    ] refl
  where
    more_than : (k n : ℕ) → k ≤ 1 → 1 ≤ n → k ≤ n
    more_than k n a b = omega (arith, a, b)

    after_it : (k m n : ℕ) → k ≤ m + 1 → m < n → k ≤ n
    after_it k m n a b = omega (arith, a, b)

-- rising numbers that are all below as many as there are leave none out
room : (k b : ℕ) (xs : List ℕ) → Rises k xs → AllByRecursion (λ n. n < b) xs → k ≤ b → k + length xs ≤ b
room k b [] rise below le = omega (arith, le)
room k b (x ∷ xs) rise below le = omega (arith, rise.0, room (x + 1) b xs rise.1 below.1 (omega (arith, below.0)))

numbered : (k i x : ℕ) (xs : List ℕ) → Rises k xs → AllByRecursion (λ n. n < k + length xs) xs → slice_get xs i ≡ Some x → x ≡ k + i
numbered k i x [] rise below at = absurd (cc)
numbered k i x (y ∷ xs) rise below at =
    let first : y ≡ k = omega (arith, rise.0, below.0, room (y + 1) (k + suc (length xs)) xs rise.1 below.1 (omega (arith, below.0))) in
    elim i as (λ i. slice_get (y ∷ xs) i ≡ Some x → x ≡ k + i) [
      | zero ↦ λ at. none k x (sym (same_Some y x at) ∙ first)
      | suc i ↦ λ at. further k i x (numbered (k + 1) i x xs (subst (λ n. Rises (n + 1) xs) first rise.1)
          (subst (λ n. AllByRecursion (λ m. m < n) xs) (shift k (length xs)) below.1) at)
    ] at
  where
    none : (k x : ℕ) → x ≡ k → x ≡ k + 0
    none k x e = omega (arith, e)

    further : (k i x : ℕ) → x ≡ k + 1 + i → x ≡ k + suc i
    further k i x e = omega (arith, e)

    shift : (k n : ℕ) → k + suc n ≡ k + 1 + n
    shift k n = omega arith

on_found : (o : Owner) (i : ℕ) (f : Filed) (fs : List Filed) → slice_get fs i ≡ Some f → owner_filed f ≡ o
    → (j : ℕ) × (slice_get (files_on o fs) j ≡ Some f)
on_found o i f [] at is = absurd (cc)
on_found o zero f (x ∷ fs) at is = (
  0,
  subst (λ b. slice_get (also b x (files_on o fs)) 0 ≡ Some f) (sym (owner_is (owner_filed x) o (ap owner_filed (same_Some x f at) ∙ is))) at,
)
on_found o (suc i) f (x ∷ fs) at is =
    let r = on_found o i f fs at is in
    elim (is_owner (owner_filed x) o) as (λ b. (j : ℕ) × (slice_get (also b x (files_on o fs)) j ≡ Some f)) [
      | true ↦ (suc r.0, r.1)
      | false ↦ r
    ]

found_on : (o : Owner) (j : ℕ) (f : Filed) (fs : List Filed) → slice_get (files_on o fs) j ≡ Some f
    → (i : ℕ) × (slice_get fs i ≡ Some f) × (owner_filed f ≡ o)
found_on o j f [] at = absurd (cc)
found_on o j f (x ∷ fs) at =
    elim (is_owner (owner_filed x) o) as (λ b. is_owner (owner_filed x) o ≡ b → slice_get (also b x (files_on o fs)) j ≡ Some f
    → (i : ℕ) × (slice_get (x ∷ fs) i ≡ Some f) × (owner_filed f ≡ o)) [
      | true ↦ λ is at. here j at (same_owner (owner_filed x) o is) (λ j at. found_on o j f fs at)
      | false ↦ λ is at. let r = found_on o j f fs at in (suc r.0, r.1, r.2)
    ] refl at
  where
    here : (j : ℕ) → slice_get (x ∷ files_on o fs) j ≡ Some f → owner_filed x ≡ o
        → ((j : ℕ) → slice_get (files_on o fs) j ≡ Some f → (i : ℕ) × (slice_get fs i ≡ Some f) × (owner_filed f ≡ o))
        → (i : ℕ) × (slice_get (x ∷ fs) i ≡ Some f) × (owner_filed f ≡ o)
    here zero at is further = (0, at, ap owner_filed (sym (same_Some x f at)) ∙ is)
    here (suc j) at is further = let r = further j at in (suc r.0, r.1, r.2)

module _ (r : RunLists) (order : List SystemEntry) (notes : Label → List PlacedEntry) (sorted : List Filed) (filed : AreFiled r order notes sorted) where
  made_of : (i : ℕ) (f : Filed) → slice_get sorted i ≡ Some f → IsMade order f.note
  made_of i f at = let b = filed.back i f at in all_at (IsMade order) (notes f.label) b.0 f.note (filed.made f.label) b.1

  -- the receipt of a list at a place of its sorted ones has the number of the place
  number_is : (o : Owner) (j : ℕ) (f : Filed) → slice_get (files_on o sorted) j ≡ Some f → f.note.number ≡ j + 1
  number_is o j f at =
      let rise = rises_on o (TimersList 0) 0 1 sorted (each (λ f. 1 ≤ f.note.number) sorted (λ i f at. at_least (made_of i f at))) filed.sorts
      (λ ahead. omega arith) (λ e. omega arith) in
      turned j f.note.number (numbered 1 j f.note.number (map number_of (files_on o sorted)) rise
      (each (λ n. n < 1 + length (map number_of (files_on o sorted))) (map number_of (files_on o sorted)) (λ i n at.
      let g = map_get number_of (files_on o sorted) i n at in
      let s = found_on o i g.0 sorted g.1 in
      below n _ _ (subst (λ m. m ≤ count_owned o order) g.2 (at_most g.0 (made_of s.0 g.0 s.1) s.2)) (length-map (files_on o sorted) number_of) (filed.as_many o)))
      (at_map number_of (files_on o sorted) j f at))
    where
      at_least : {x : PlacedEntry} → IsMade order x → 1 ≤ x.number
      at_least made = omega (arith, made.number)

      at_most : (g : Filed) → IsMade order g.note → owner_filed g ≡ o → g.note.number ≤ count_owned o order
      at_most g made is = omega (
        arith,
        subst (λ u. count_owned u (take g.note.place order) + 1 ≡ g.note.number) is made.number,
        subst (λ xs. count_owned o (take g.note.place order) + 1 ≤ count_owned o xs) (take_all (length order) order (omega arith))
            (counts_more order g.note.place (length order) o made.step made.there (made.owner ∙ is) (slice_get_within order g.note.place made.step made.there)),
      )

      below : (n l k : ℕ) {m : ℕ} → n ≤ m → l ≡ k → k ≡ m → n < 1 + l
      below n l k a b c = omega (arith, a, b, c)

      turned : (j n : ℕ) → n ≡ 1 + j → n ≡ j + 1
      turned j n e = omega (arith, e)

  line_of : (c : Label) (i : ℕ) (x : PlacedEntry) → slice_get sorted i ≡ Some (record { label = c; note = x }) → IsLine r c x
  line_of c i x at =
      let f : Filed = record { label = c; note = x } in
      let o = owner_of x.shown in
      let on = on_found o i f sorted at refl in
      record {
        before = on.0;
        number = sym (number_is o on.0 f on.1);
        there = ap (λ xs. slice_get xs on.0) (filed.lines o) ∙ at_map line_filed (files_on o sorted) on.0 f on.1;
      }

  noted_of : (o : Owner) (before : ℕ) (line : ShownLine) → slice_get (lines_at r o) before ≡ Some line → IsNoted notes o before line
  noted_of o before line at =
      let file = map_get line_filed (files_on o sorted) before line (ap (λ xs. slice_get xs before) (sym (filed.lines o)) ∙ at) in
      let s = found_on o before file.0 sorted file.1 in
      let b = filed.back s.0 file.0 s.1 in
      record {
        index = b.0;
        note = file.0.note;
        there = subst (λ l. slice_get (notes l) b.0 ≡ Some file.0.note) (ap (λ (l : ShownLine). l.label) file.2) b.1;
        owner = s.2;
        number = number_is o before file.0 file.1;
      }

  -- law: so they are receipts that stand in the order, and the lines are just they
  pub receipts_from : AreReceipts r order notes
  receipts_from = record {
    rise = filed.rise;
    made = filed.made;
    lines = λ c. each (IsLine r c) (notes c) (λ i x at.
        let f = all_at (λ x. (i : ℕ) × (slice_get sorted i ≡ Some (record { label = c; note = x }))) (notes c) i x (filed.filed c) at in line_of c f.0 x f.1);
    noted = noted_of;
    whole = λ o. ap length (filed.lines o) ∙ length-map (files_on o sorted) line_filed ∙ filed.as_many o;
  }
