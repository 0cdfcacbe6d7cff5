-- What the rule tells of what a pass knows.
use Rattle.std.proofs.Common.{◌≡◌, ℕ, ◌<◌, ◌≤◌, true, false, List, [], length, ap, sym, ◌∙◌, subst, ⊎_elim, le_refl, le_trans, arith}
use Rattle.std.specs.Prelude.{Option, Some, None}
use Rattle.std.proofs.lemmas.Bool.{cases_lt}
use Rattle.std.proofs.lemmas.Bool.Decides.{nat_tests}
use mathlib.Core.Option.{some}
use lib.ListN.{get_elem?}
use Rattle.atomic_table.specs.Table.{State}
use Rattle.pass_names.specs.Counts.{one_if, total, count}
use Rattle.pass_names.specs.declared.PassId.{PassId}
use Rattle.pass_names.specs.Names.{IsLast, occurrences, after_split, child_of}
use Rattle.pass_names.specs.Passes.{Begins, entries, HasEach, within, is_place}
use Rattle.pass_names.proofs.Names.{splitter_not_last, child_not_last}
use Rattle.pass_names.proofs.Counts.{total_at}
use Rattle.pass_names.proofs.Last.{total_last}
use Rattle.pass_names.proofs.Passes.{begins_refl, begins_nil, begins_whole}
use Rattle.counted_row.specs.declared.view.Entry.{Entry}
use Rattle.counted_row.specs.declared.view.Locked.{Locked}
use Rattle.counted_row.specs.declared.view.View.{View}
use Rattle.counted_row.specs.Meaning.{CallMeaning}
use Rattle.counted_row.specs.Views.{is_claim, StateAfter, IsNow, Knows, PassOfRow, Locks, HasClaim, split_view, new_view}
use Rattle.counted_row.specs.Rules.{row_pass_id, row_places, claims_at, RowAgrees, RowInvariant}
use Rattle.counted_row.proofs.Histories.{after_part}

pub no_lock : {S : Type 0} (h : Locked S) → None ≡ Some h → ⊥
no_lock h e = cc

in_range : (n : ℕ) → 0 < n → one_if (within n n) ≡ 1
in_range n h = grind (arith, nat_tests)

module _ {S C R : Type 0} (m : CallMeaning S C R) (made : List S) (s : State (Option S) (View S C R)) (inv : RowInvariant m made s)
    (id : ℕ) (v : View S C R) (at : get_elem? s.views id ≡ some v) (live : v.pass.id.live ≡ true) (heard : v.heard ≡ []) where
  agrees : RowAgrees m made inv.logs inv.holders id v
  agrees = inv.each_view id v at

  made_it : v.opening ≡ made
  made_it = agrees.opening live

  begins_seen : (i : ℕ) → Begins (entries i v.heard) (entries i v.pass.seen)
  begins_seen i = subst (λ h. Begins (entries i h) (entries i v.pass.seen)) (sym heard) (begins_nil (entries i v.pass.seen))

  heard_empty : (i : ℕ) → length (entries i v.heard) ≡ 0
  heard_empty i = ap (λ h. length (entries i h)) heard

  -- where the pass is the last, all places and claims are its own
  module _ (last : IsLast v.pass.id) where
    one_alone : (f : View S C R → ℕ) → ((j : ℕ) (u : View S C R) → get_elem? s.views j ≡ some u → u.pass.id.live ≡ false → f u ≡ 0)
        → total f s.views ≡ f v
    one_alone f gone = total_last row_pass_id s.views inv.tree id v at live last f gone

    all_places : (i k : ℕ) → row_places i k v ≡ one_if (within k (length (entries i inv.logs)))
    all_places i k = sym (one_alone (row_places i k) (λ j u at_u off. ap (count (is_place i k)) ((inv.each_view j u at_u).gone off).0)) ∙ inv.tally i k

    all_claims : (i : ℕ) (name : List ℕ) (x : S) → StateAfter m made i (entries i inv.logs) x → claims_at i name v ≡ occurrences name (m.claims x)
    all_claims i name x after =
        sym (one_alone (claims_at i name) (λ j u at_u off. ap (count (is_claim i name)) ((inv.each_view j u at_u).gone off).1)) ∙ inv.claims i name x after

    as_long : (i : ℕ) → length (entries i inv.logs) ≤ length (entries i v.pass.seen)
    as_long i =
        ⊎_elim
        (λ some_one. ⊎_elim
        (λ t. t)
        (λ t. omega (arith, heard_empty i))
        (agrees.mine i (length (entries i inv.logs))
        (omega (arith, all_places i (length (entries i inv.logs)), in_range (length (entries i inv.logs)) some_one))))
        (λ none. omega arith)
        (cases_lt 0 (length (entries i inv.logs)))

    seen_all : (i : ℕ) → entries i v.pass.seen ≡ entries i inv.logs
    seen_all i = begins_whole (agrees.seen.each i) (as_long i)

    pub last_has_each : HasEach v.pass.seen v.pass.mine
    last_has_each = record { once = λ i k. all_places i k ∙ ap (λ l. one_if (within k (length l))) (sym (seen_all i)) }

  is_now : (h : Locked S) → v.held ≡ Some h → IsNow m v h
  is_now h e =
      let t = agrees.held h e in
      record {
        state = subst (λ o. StateAfter m o h.index (entries h.index v.pass.seen) h.state) (sym made_it)
            (subst (λ l. StateAfter m made h.index l h.state) (sym t.seen) t.state);
        stamp = t.stamp ∙ ap length (sym t.seen);
      }

  legal : (i : ℕ) → i < length made → (x : S) × StateAfter m made i (entries i v.pass.seen) x
  legal i h = let c = inv.each_cell i h in after_part m made i (entries i v.pass.seen) (entries i inv.logs) c.state (agrees.seen.each i) c.after

  own_once : (i k : ℕ) → count (is_place i k) v.pass.mine ≤ one_if (within k (length (entries i v.pass.seen)))
  own_once i k =
      ⊎_elim
      (λ some_one.
      let all : ℕ = length (entries i inv.logs) in
      let most : row_places i k v ≤ one_if (within k all) = omega (arith, total_at (row_places i k) s.views id v at, inv.tally i k) in
      let here : k ≤ length (entries i v.pass.seen) = ⊎_elim (λ t. t) (λ t. omega (arith, heard_empty i)) (agrees.mine i k some_one) in
      own_bound k all (length (entries i v.pass.seen)) (row_places i k v) most here)
      (λ none. omega arith)
      (cases_lt 0 (row_places i k v))
    where
      own_bound : (k all n many : ℕ) → many ≤ one_if (within k all) → k ≤ n → many ≤ one_if (within k n)
      own_bound k all n many most here = grind (arith, nat_tests)

  pub knows_of : Knows m v
  knows_of =
      let P : List S → Type 0 = λ o. (i : ℕ) → i < length o → (x : S) × StateAfter m o i (entries i v.pass.seen) x in
      record {
        legal = subst P (sym made_it) legal;
        open_claims = λ i name x has after.
            agrees.claims i name (entries i v.pass.seen) x has (begins_refl (entries i v.pass.seen)) (begins_seen i) (agrees.seen.each i)
            (subst (λ o. StateAfter m o i (entries i v.pass.seen) x) made_it after);
        held = is_now;
        wide = agrees.wide live ∙ ap length (sym made_it);
        own = own_once;
        all_entries = last_has_each;
        all_claims = λ last i name x after.
            all_claims last i name x
            (subst (λ l. StateAfter m made i l x) (seen_all last i) (subst (λ o. StateAfter m o i (entries i v.pass.seen) x) made_it after));
      }

-- under the lock, the pass's claims on the value are open
pub open_now : {S C R : Type 0} (m : CallMeaning S C R) (old new : PassOfRow S C R) (i : ℕ) (name : List ℕ) (h : Locked S) → Locks m old new i h
    → HasClaim i name old.knows.claims → 0 < occurrences name (m.claims h.state)
open_now m old new i name h locks has =
    locks.knows.open_claims h.index name h.state (subst (λ cs. HasClaim h.index name cs) (sym locks.claims)
    (subst (λ k. HasClaim k name old.knows.claims) (sym locks.index) has)) locks.now.state

module _ {S C R : Type 0} (m : CallMeaning S C R) (v : View S C R) (knows : Knows m v) where
  -- who has seen as much and has no claim and no lock that v hasn't knows as much, and isn't the last
  knows_less : (id : PassId) (mine : List (ℕ × ℕ)) (heard : List (List (Entry C R))) (claims : List (ℕ × List ℕ)) (held : Option (Locked S))
      → (IsLast id → ⊥)
      → ((i : ℕ) (name : List ℕ) → HasClaim i name claims → HasClaim i name v.claims) → ((h : Locked S) → held ≡ Some h → v.held ≡ Some h)
      → ((i k : ℕ) → count (is_place i k) mine ≤ count (is_place i k) v.pass.mine)
      → Knows m record { pass = record { id = id; seen = v.pass.seen; mine = mine }; opening = v.opening; heard = heard; claims = claims; held = held }
  knows_less id mine heard claims held not_last has locked fewer = record {
    legal = knows.legal;
    open_claims = λ i name x one after. knows.open_claims i name x (has i name one) after;
    held = λ h e. let t = knows.held h (locked h e) in record { state = t.state; stamp = t.stamp };
    wide = knows.wide;
    own = λ i k. le_trans (fewer i k) (knows.own i k);
    all_entries = λ last. absurd (not_last last);
    all_claims = λ last. absurd (not_last last);
  }

  pub knows_split : Knows m (split_view v)
  knows_split =
      knows_less (after_split v.pass.id) v.pass.mine v.heard v.claims v.held (splitter_not_last v.pass.id) (λ i name one. one) (λ h e. e)
      (λ i k. le_refl _)

  pub knows_new : Knows m (new_view v)
  knows_new =
      knows_less (child_of v.pass.id) [] [] [] None (child_not_last v.pass.id) (λ i name one. absurd (omega arith))
      (λ h e. absurd (no_lock h e)) (λ i k. omega arith)
