-- From the receipts of all calls, sorted by list and number, to the order: each call's moves are its receipts.
use Rattle.std.proofs.Common.{◌≡◌, ◌<◌, ◌≤◌, ℕ, ◌+◌, zero, suc, true, false, List, [], ◌∷◌, ◌++◌, Some, length, map, take, get_or, arith, refl, sym, ap, ◌∙◌, subst}
use Rattle.std.specs.List.{AllByRecursion, slice_get}
use Rattle.std.proofs.Math.Logic.{⊎_elim}
use Rattle.std.proofs.lemmas.Bool.{cases_lt}
use Rattle.std.proofs.lemmas.List.{append-nil, append_assoc, take_all}
use Rattle.std.proofs.lemmas.Option.{get_or_from_slice_get, same_Some, slice_get-get_or, slice_get_within}
use Rattle.seq_timer.specs.declared.system.SystemEntry.{SystemEntry}
use Rattle.record_text.specs.declared.record.Label.{Label}
use Rattle.run_history.specs.Order.{is_label}
use Rattle.run_history.specs.Witnesses.{RunLists, Move, Owner, Shown, ShownLine, is_owner, lines_at, owner_of, owner_of_entry}
use Rattle.run_history.specs.Receipts.{AreAll, at_place, count_owned, IsMade, move_at, move_of, no_line, PlacedEntry, Rises, shape, weave}
use Rattle.run_history.proofs.Items.{Among, among_at, at_among, own_items, RiseIn, StandsIn}
use Rattle.run_history.proofs.Labels.{label_itself, same_label}
use Rattle.run_history.proofs.Lists.{all_at, at_map, map_get}
use Rattle.run_history.proofs.Owners.{and_one, count_cons, count_none, owner_is}

-- ---- moves of an order, by place

weave_at : (r : RunLists) (done xs : List SystemEntry) (p : ℕ) (x : SystemEntry) → slice_get xs p ≡ Some x
    → slice_get (weave r done xs) p ≡ Some (move_of r (done ++ take p xs) x)
weave_at r done [] p x at = absurd (cc)
weave_at r done (y ∷ xs) zero x at =
    ap (λ z. Some (move_of r done z)) (same_Some y x at) ∙ ap (λ ds. Some (move_of r ds x)) (sym (append-nil done))
weave_at r done (y ∷ xs) (suc p) x at =
    weave_at r (done ++ y ∷ []) xs p x at ∙ ap (λ ds. Some (move_of r ds x)) (append_assoc done (y ∷ []) (take p xs))

step_there : (r : RunLists) (done xs : List SystemEntry) (p : ℕ) (m : Move) → slice_get (weave r done xs) p ≡ Some m
    → (x : SystemEntry) × (slice_get xs p ≡ Some x)
step_there r done [] p m at = absurd (cc)
step_there r done (y ∷ xs) zero m at = (y, refl)
step_there r done (y ∷ xs) (suc p) m at = step_there r (done ++ y ∷ []) xs p m at

-- of two places of one list the later one has more of the list's entries before it
pub counts_more : (xs : List SystemEntry) (p q : ℕ) (o : Owner) (x : SystemEntry) → slice_get xs p ≡ Some x → owner_of_entry x ≡ o → p < q
    → count_owned o (take p xs) + 1 ≤ count_owned o (take q xs)
counts_more [] p q o x at is less = absurd (cc)
counts_more (y ∷ xs) zero zero o x at is less = absurd (omega (arith, less))
counts_more (y ∷ xs) zero (suc q) o x at is less =
    subst (λ n. n + 1 ≤ count_owned o (y ∷ take q xs)) (sym (count_none o)) (subst (λ n. 0 + 1 ≤ n) (sym (count_cons o y (take q xs)))
    (subst (λ b. 0 + 1 ≤ and_one b (count_owned o (take q xs)))
    (sym (owner_is (owner_of_entry y) o (ap owner_of_entry (same_Some y x at) ∙ is))) (omega arith)))
counts_more (y ∷ xs) (suc p) zero o x at is less = absurd (omega (arith, less))
counts_more (y ∷ xs) (suc p) (suc q) o x at is less =
    let rest = counts_more xs p q o x at is (omega (arith, less)) in
    subst (λ n. n + 1 ≤ count_owned o (y ∷ take q xs)) (sym (count_cons o y (take p xs)))
    (subst (λ n. and_one (is_owner (owner_of_entry y) o) (count_owned o (take p xs)) + 1 ≤ n) (sym (count_cons o y (take q xs)))
    (elim (is_owner (owner_of_entry y) o) as (λ b. and_one b (count_owned o (take p xs)) + 1 ≤ and_one b (count_owned o (take q xs))) [
      | true ↦ omega (arith, rest)
      | false ↦ rest
    ]))

pub same_place : (xs : List SystemEntry) (p q : ℕ) (o : Owner) (x y : SystemEntry) → slice_get xs p ≡ Some x → slice_get xs q ≡ Some y
    → owner_of_entry x ≡ o → owner_of_entry y ≡ o → count_owned o (take p xs) ≡ count_owned o (take q xs) → p ≡ q
same_place xs p q o x y at_p at_q is_x is_y same =
    ⊎_elim (λ (less : p < q). absurd (omega (arith, same, counts_more xs p q o x at_p is_x less)))
    (λ (le : q ≤ p). ⊎_elim (λ (less : q < p). absurd (omega (arith, same, counts_more xs q p o y at_q is_y less)))
    (λ (more : p ≤ q). omega (arith, le, more)) (cases_lt q p))
    (cases_lt p q)

-- ---- receipts and lines

-- the line at an entry's number is the call's, with this entry
pub record IsLine (r : RunLists) (c : Label) (x : PlacedEntry) : Type 0 where
  pub before : ℕ
  pub number : before + 1 ≡ x.number
  pub there : slice_get (lines_at r (owner_of x.shown)) before ≡ Some (record { label = c; shown = x.shown })

-- a line of a list is one of the receipts of the call that it is labelled with
pub record IsNoted (notes : Label → List PlacedEntry) (o : Owner) (before : ℕ) (line : ShownLine) : Type 0 where
  pub index : ℕ
  pub note : PlacedEntry
  pub there : slice_get (notes line.label) index ≡ Some note
  pub owner : owner_of note.shown ≡ o
  pub number : note.number ≡ before + 1

-- the receipts of all calls: of each call they stand at rising places of the order; the record's lines are just they; and each list has
-- as many lines as entries
pub record AreReceipts (r : RunLists) (order : List SystemEntry) (notes : Label → List PlacedEntry) : Type 0 where
  pub rise : (c : Label) → Rises 0 (map (λ x. x.place) (notes c))
  pub made : (c : Label) → AllByRecursion (IsMade order) (notes c)
  pub lines : (c : Label) → AllByRecursion (IsLine r c) (notes c)
  pub noted : (o : Owner) (before : ℕ) (line : ShownLine) → slice_get (lines_at r o) before ≡ Some line → IsNoted notes o before line
  pub whole : (o : Owner) → length (lines_at r o) ≡ count_owned o order

less_one : (a b n : ℕ) → a + 1 ≡ n → b + 1 ≡ n → a ≡ b
less_one a b n e f = omega (arith, e, f)

rise_places : (k : ℕ) (xs : List PlacedEntry) → Rises k (map (λ x. x.place) xs) → RiseIn k (map at_place xs)
rise_places k [] rise = tt
rise_places k (x ∷ xs) rise = (rise.0, rise_places (x.place + 1) xs rise.1)

pub placed_among : (e : ℕ × (ℕ × Shown)) (xs : List PlacedEntry) → Among e (map at_place xs) → (i : ℕ) × (x : PlacedEntry) × (slice_get xs i ≡ Some x)
    × (e ≡ at_place x)
placed_among e xs here =
    let at = at_among e (map at_place xs) here in let of = map_get at_place xs at.0 e at.1 in (at.0, of.0, of.1, sym of.2)

-- a receipt's move stands at its place, under the call's label
abbrev Stands : RunLists → List SystemEntry → Label → PlacedEntry → Type 0
Stands r order c x = StandsIn Move (ℕ × Shown) (λ m. m.label) shape c 0 (weave r [] order) (at_place x)

stands_at : (r : RunLists) (order : List SystemEntry) (c : Label) (x : PlacedEntry) → IsMade order x → IsLine r c x → Stands r order c x
stands_at r order c x here line =
    let o = owner_of x.shown in
    let move = move_of r (take x.place order) here.step in
    let move_is : move ≡ record { before = line.before; label = c; shown = x.shown } =
    ap (λ (y : Owner). move_at r y (count_owned y (take x.place order))) here.owner
    ∙ ap (move_at r o) (less_one (count_owned o (take x.place order)) line.before x.number here.number line.number)
    ∙ ap (λ (l : ShownLine). record { before = line.before; label = l.label; shown = l.shown })
    (get_or_from_slice_get (lines_at r o) line.before (record { label = c; shown = x.shown }) (no_line o) line.there) in
    record {
      before = x.place;
      line = move;
      there = weave_at r [] order x.place here.step here.there;
      own = ap (λ (m : Move). is_label c m.label) move_is ∙ label_itself c;
      is = ap (λ e. (x.place, e)) (sym (ap shape move_is ∙ ap (λ n. (n, x.shown)) line.number)) ∙ ap (λ n. (n, shape move)) (from_none x.place);
    }
  where
    from_none : (n : ℕ) → n ≡ 0 + n
    from_none n = omega arith

module _ (r : RunLists) (order : List SystemEntry) (notes : Label → List PlacedEntry) (all : AreReceipts r order notes) (c : Label) where
  each_stands : (i : ℕ) (x : PlacedEntry) → slice_get (notes c) i ≡ Some x → Stands r order c x
  each_stands i x at = stands_at r order c x (all_at (IsMade order) (notes c) i x (all.made c) at) (all_at (IsLine r c) (notes c) i x (all.lines c) at)

  -- each entry under the call's label is one of its receipts
  pub is_among : (p : ℕ) (m : Move) → slice_get (weave r [] order) p ≡ Some m → is_label c m.label ≡ true → Among (0 + p, shape m) (map at_place (notes c))
  is_among p m there own =
      let s = step_there r [] order p m there in
      let o = owner_of_entry s.0 in
      let n = count_owned o (take p order) in
      let move_is : m ≡ move_of r (take p order) s.0 = sym (same_Some (move_of r (take p order) s.0) m (sym (weave_at r [] order p s.0 s.1) ∙ there)) in
      let more : count_owned o (take p order) + 1 ≤ count_owned o (take (length order) order) =
      counts_more order p (length order) o s.0 s.1 refl (slice_get_within order p s.0 s.1) in
      let inside : n < length (lines_at r o) = within n _ _ (all.whole o) more (ap (count_owned o) (take_all (length order) order (omega arith))) in
      let line = get_or (lines_at r o) n (no_line o) in
      let noted = all.noted o n line (slice_get-get_or (lines_at r o) n (no_line o) inside) in
      let note = noted.note in
      let label : line.label ≡ c = ap (λ (x : Move). x.label) (sym move_is) ∙ same_label c m.label own in
      let its : slice_get (notes c) noted.index ≡ Some note = subst (λ l. slice_get (notes l) noted.index ≡ Some note) label noted.there in
      let made = all_at (IsMade order) (notes c) noted.index note (all.made c) its in
      let number : count_owned o (take note.place order) + 1 ≡ note.number =
      subst (λ u. count_owned u (take note.place order) + 1 ≡ note.number) noted.owner made.number in
      let owner : owner_of_entry made.step ≡ o = ◌∙◌ {a = owner_of_entry made.step} made.owner noted.owner in
      let same : note.place ≡ p =
      same_place order note.place p o made.step s.0 made.there s.1 owner refl
      (less_one (count_owned o (take note.place order)) n note.number number (sym noted.number)) in
      subst (λ e. Among e (map at_place (notes c))) (shown note m p (each_stands noted.index note its) same there)
      (among_at (map at_place (notes c)) noted.index (at_place note) (at_map at_place (notes c) noted.index note its))
    where
      within : (n l k : ℕ) {m : ℕ} → l ≡ k → n + 1 ≤ m → m ≡ k → n < l
      within n l k e le f = omega (arith, e, le, f)

      shown : (x : PlacedEntry) (m : Move) (p : ℕ) → Stands r order c x → x.place ≡ p → slice_get (weave r [] order) p ≡ Some m → at_place x ≡ (0 + p, shape m)
      shown x m p stands same there =
          let before : stands.before ≡ p = grounded x.place stands.before p (ap (λ (e : ℕ × (ℕ × Shown)). e.0) stands.is) same in
          stands.is ∙ ap (λ n. (0 + n, shape stands.line)) before
          ∙ ap (λ (y : Move). (0 + p, shape y)) (same_Some stands.line m (sym stands.there ∙ ap (slice_get (weave r [] order)) before ∙ there))
        where
          grounded : (a b p : ℕ) → a ≡ 0 + b → a ≡ p → b ≡ p
          grounded a b p e f = omega (arith, e, f)

  -- law: the receipts are all of the call's entries along the order
  pub are_all : AreAll c (weave r [] order) (notes c)
  are_all = own_items (λ m. m.label) shape c 0 (weave r [] order) (map at_place (notes c)) (rise_places 0 (notes c) (all.rise c))
      (λ e here. let a = placed_among e (notes c) here in
      subst (StandsIn Move (ℕ × Shown) (λ m. m.label) shape c 0 (weave r [] order)) (sym a.3) (each_stands a.0 a.1 a.2)) is_among
