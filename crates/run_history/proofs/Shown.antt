-- Each entry of the order is shown by its line, by the receipts.
use Rattle.std.proofs.Common.{◌≡◌, ◌<◌, ◌≤◌, ℕ, ◌+◌, zero, suc, true, false, List, [], ◌∷◌, ◌++◌, Some, length, take, get_or, arith, refl, sym, ap, ◌∙◌, subst}
use Rattle.std.specs.List.{AllByRecursion, slice_get}
use Rattle.std.proofs.Math.Seq.{take-append_seam}
use Rattle.std.proofs.lemmas.List.{take_all}
use Rattle.std.proofs.lemmas.Option.{get_or_from_slice_get, same_Some, slice_get-get_or, slice_get_within}
use Rattle.seq_timer.specs.declared.system.SystemEntry.{SystemEntry}
use Rattle.record_text.specs.declared.record.Label.{Label}
use Rattle.run_history.specs.Actions.{also}
use Rattle.run_history.specs.Witnesses.{RunLists, Owner, ShownLine, entry_of_shown, is_owner, lines_at, owner_of_entry}
use Rattle.run_history.specs.Receipts.{count_owned, IsMade, no_line, PlacedEntry, ShowsEntry}
use Rattle.run_history.proofs.Laid.{AreReceipts, counts_more, IsLine, same_place}
use Rattle.run_history.proofs.Lists.{all_at, at_seam}
use Rattle.run_history.proofs.Owners.{and_one, count_cons, count_none, entries_at, same_owner}
use Rattle.run_history.proofs.Weave.{IsShown}

-- lists of the same length with the same items
pub same_items : {X : Type 0} (xs ys : List X) → length xs ≡ length ys → ((k : ℕ) (x : X) → slice_get xs k ≡ Some x → slice_get ys k ≡ Some x) → xs ≡ ys
same_items [] [] same at = refl
same_items [] (y ∷ ys) same at = absurd (omega (arith, same))
same_items (x ∷ xs) [] same at = absurd (omega (arith, same))
same_items (x ∷ xs) (y ∷ ys) same at =
    ap (λ z. z ∷ xs) (sym (same_Some y x (at 0 x refl))) ∙ ap (λ zs. y ∷ zs) (same_items xs ys (omega (arith, same)) (λ k z is. at (suc k) z is))

-- an entry of a list stands at this place of the order, behind so many of the list's
pub record EntryAt (o : Owner) (k : ℕ) (e : SystemEntry) (xs : List SystemEntry) : Type 0 where
  pub place : ℕ
  pub there : slice_get xs place ≡ Some e
  pub owner : owner_of_entry e ≡ o
  pub number : count_owned o (take place xs) ≡ k

pub entry_place : (o : Owner) (k : ℕ) (e : SystemEntry) (xs : List SystemEntry) → slice_get (entries_at o xs) k ≡ Some e → EntryAt o k e xs
entry_place o k e [] at = absurd (cc)
entry_place o k e (y ∷ xs) at =
    elim (is_owner (owner_of_entry y) o) as (λ b. is_owner (owner_of_entry y) o ≡ b → slice_get (also b y (entries_at o xs)) k ≡ Some e
    → EntryAt o k e (y ∷ xs)) [
      | true ↦ λ is at. here k at is (λ k at. entry_place o k e xs at)
      | false ↦ λ is at. let r = entry_place o k e xs at in
          later k r (count_cons o y (take r.place xs) ∙ ap (λ b. and_one b (count_owned o (take r.place xs))) is ∙ r.number)
    ] refl at
  where
    later : (k : ℕ) {j : ℕ} → (r : EntryAt o j e xs) → count_owned o (take (suc r.place) (y ∷ xs)) ≡ k → EntryAt o k e (y ∷ xs)
    later k r number = record { place = suc r.place; there = r.there; owner = r.owner; number = number }

    here : (k : ℕ) → slice_get (y ∷ entries_at o xs) k ≡ Some e → is_owner (owner_of_entry y) o ≡ true
        → ((k : ℕ) → slice_get (entries_at o xs) k ≡ Some e → EntryAt o k e xs) → EntryAt o k e (y ∷ xs)
    here zero at is further =
        record { place = 0; there = at; owner = ap owner_of_entry (sym (same_Some y e at)) ∙ same_owner (owner_of_entry y) o is; number = count_none o }
    here (suc k) at is further =
        let r = further k at in
        later (suc k) r (count_cons o y (take r.place xs) ∙ ap (λ b. and_one b (count_owned o (take r.place xs))) is
        ∙ one_more (count_owned o (take r.place xs)) k r.number)
      where
        one_more : (a k : ℕ) → a ≡ k → a + 1 ≡ suc k
        one_more a k e = omega (arith, e)

-- law: so each entry of the order is shown by its line
pub shows_from : (r : RunLists) (order : List SystemEntry) (notes : Label → List PlacedEntry) → AreReceipts r order notes
    → ((c : Label) → AllByRecursion (ShowsEntry r.run order) (notes c))
    → (before : List SystemEntry) (x : SystemEntry) (later : List SystemEntry) → order ≡ before ++ x ∷ later → IsShown r before x
shows_from r order notes all entries before x later is =
    let o = owner_of_entry x in
    let p = length before in
    let there : slice_get order p ≡ Some x = ap (λ xs. slice_get xs p) is ∙ at_seam before later x in
    let upto : count_owned o (take p order) ≡ count_owned o before = ap (count_owned o) (ap (take p) is ∙ take-append_seam before (x ∷ later)) in
    let n = count_owned o before in
    let more = counts_more order p (length order) o x there refl (slice_get_within order p x there) in
    let inside : n < length (lines_at r o) = within n _ _ _ upto (all.whole o) more (ap (count_owned o) (take_all (length order) order (omega arith))) in
    let line = get_or (lines_at r o) n (no_line o) in
    let noted = all.noted o n line (slice_get-get_or (lines_at r o) n (no_line o) inside) in
    let note = noted.note in
    let made = all_at (IsMade order) (notes line.label) noted.index note (all.made line.label) noted.there in
    let its = all_at (IsLine r line.label) (notes line.label) noted.index note (all.lines line.label) noted.there in
    let shows = all_at (ShowsEntry r.run order) (notes line.label) noted.index note (entries line.label) noted.there in
    let number : count_owned o (take note.place order) + 1 ≡ note.number =
    subst (λ u. count_owned u (take note.place order) + 1 ≡ note.number) noted.owner made.number in
    let owner : owner_of_entry made.step ≡ o = ◌∙◌ {a = owner_of_entry made.step} made.owner noted.owner in
    let place : note.place ≡ p =
    same_place order note.place p o made.step x made.there there owner refl
    (less_one (count_owned o (take note.place order)) _ note.number n number noted.number upto) in
    let step_is : shows.step ≡ x = same_Some shows.step x (sym shows.there ∙ ap (slice_get order) place ∙ there) in
    let before_is : its.before ≡ n = one_less its.before n note.number its.number noted.number in
    let line_is : line ≡ record { label = line.label; shown = note.shown } =
    get_or_from_slice_get (lines_at r o) n (record { label = line.label; shown = note.shown }) (no_line o)
    (subst (λ k. slice_get (lines_at r o) k ≡ Some (record { label = line.label; shown = note.shown })) before_is
    (subst (λ u. slice_get (lines_at r u) its.before ≡ Some (record { label = line.label; shown = note.shown })) noted.owner its.there)) in
    ap (λ (l : ShownLine). entry_of_shown r.run.clock l.shown) line_is ∙ sym shows.entry ∙ step_is
  where
    within : (n l k m : ℕ) {a : ℕ} → m ≡ n → l ≡ k → m + 1 ≤ a → a ≡ k → n < l
    within n l k m u e le f = omega (arith, u, e, le, f)

    less_one : (a b n k : ℕ) → a + 1 ≡ n → n ≡ k + 1 → b ≡ k → a ≡ b
    less_one a b n k e f g = omega (arith, e, f, g)

    one_less : (a k n : ℕ) → a + 1 ≡ n → n ≡ k + 1 → a ≡ k
    one_less a k n e f = omega (arith, e, f)
