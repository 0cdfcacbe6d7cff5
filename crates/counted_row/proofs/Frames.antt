-- What a step has to show of the value and the seat that it changes; all else stays.
use Rattle.std.proofs.Common.{◌≡◌, ℕ, ◌+◌, ◌<◌, ◌≢◌, List, [], ◌∷◌, ◌++◌, length, map, set, refl, ap, sym, ◌∙◌, subst, ◌⊎◌, inl, inr, ⊎_elim, arith}
use Rattle.std.specs.Prelude.{slice_index, slice_set, Option}
use Rattle.std.proofs.lemmas.Bool.{cases_eq}
use Rattle.std.proofs.lemmas.List.{length-set, get_or-set_same, get_or-set_other, map-append, map-set, set-get_or}
use mathlib.Core.Option.{some, some-injective}
use lib.ListN.{get_elem?}
use Rattle.atomic_table.specs.Table.{State}
use Rattle.atomic_table.proofs.Lists.{at_set, at_snoc, set_here, set_else}
use Rattle.pass_names.specs.Counts.{one_if, total}
use Rattle.pass_names.specs.Names.{IsPassTree, occurrences}
use Rattle.pass_names.specs.Passes.{Begins, entries, GoesOn, within}
use Rattle.pass_names.proofs.Counts.{total-append, total_set, total_at, map_kept}
use Rattle.pass_names.proofs.Passes.{begins_refl, begins_trans, begins_push, begins_more, goes_set, entries_here, entries_else}
use Rattle.counted_row.specs.declared.view.Entry.{Entry}
use Rattle.counted_row.specs.declared.view.Locked.{Locked}
use Rattle.counted_row.specs.declared.view.View.{View}
use Rattle.counted_row.specs.Meaning.{CallMeaning}
use Rattle.counted_row.specs.Views.{HasClaim, StateAfter}
use Rattle.counted_row.specs.Places.{row_word_at}
use Rattle.counted_row.specs.Rules.{row_pass_id, row_places, claims_at, Cell, HoldsValue, RowAgrees, RowInvariant}

module _ {S C R : Type 0} (m : CallMeaning S C R) (made : List S) where
  -- the history of value i stays, or gets one entry
  abbrev pub Grows : List (Entry C R) → List (Entry C R) → Type 0
  Grows log new = (new ≡ log) ⊎ ((e : Entry C R) × (new ≡ log ++ e ∷ []))

  pub grows_begins : (log new : List (Entry C R)) → Grows log new → Begins log new
  grows_begins log new (inl e) = subst (λ l. Begins log l) (sym e) (begins_refl log)
  grows_begins log new (inr t) = subst (λ l. Begins log l) (sym t.1) (begins_more log (t.0 ∷ []))

  grows_cut : (log new part : List (Entry C R)) → Grows log new → Begins part new → Begins part log ⊎ (part ≡ new)
  grows_cut log new part (inl e) b = inl (subst (λ l. Begins part l) e b)
  grows_cut log new part (inr t) b = ⊎_elim (λ u. inl u) (λ u. inr (u ∙ sym t.1)) (begins_push part log t.0 (subst (λ l. Begins part l) t.1 b))

  -- what a seat knows stays true where other seats act
  module _ (logs : List (List (Entry C R))) (holders : List ℕ) (i id : ℕ) (new : List (Entry C R)) (holder : ℕ) (inside : i < length logs)
      (inside' : i < length holders)
      (grows : Grows (entries i logs) new) (idle : (slice_index holders i ≡ 0) ⊎ (slice_index holders i ≡ id + 1)) where
    abbrev logs' : List (List (Entry C R))
    logs' = set logs i new

    goes_on : (seen : List (List (Entry C R))) → GoesOn seen logs → GoesOn seen logs'
    goes_on seen g = goes_set seen logs i new inside g (begins_trans (g.each i) (grows_begins (entries i logs) new grows))

    apart : (j : ℕ) (seen : List (List (Entry C R))) (h : Locked S) → j ≢ id → HoldsValue m made logs holders j seen h → h.index ≢ i
    apart j seen h n holds e =
        let t : slice_index holders i ≡ j + 1 = ap (λ k. slice_index holders k) (sym e) ∙ holds.holder in
        ⊎_elim (λ u. omega arith) (λ u. n (omega arith)) idle

    holds_on : (j : ℕ) (seen : List (List (Entry C R))) (h : Locked S) → j ≢ id → HoldsValue m made logs holders j seen h
        → HoldsValue m made logs' (set holders i holder) j seen h
    holds_on j seen h n holds =
        let out = apart j seen h n holds in
        let same : entries h.index logs' ≡ entries h.index logs = entries_else logs i h.index new out in
        record {
          within = holds.within;
          holder = get_or-set_other holders i h.index holder 0 out ∙ holds.holder;
          stamp = holds.stamp ∙ ap length (sym same);
          seen = holds.seen ∙ sym same;
          state = subst (λ l. StateAfter m made h.index l h.state) (sym same) holds.state;
        }

    -- a claim is open after what was seen and ever after, where it is open after the new history
    open_on : (v : View S C R)
        → ((k : ℕ) (name : List ℕ) (log : List (Entry C R)) (x : S) → HasClaim k name v.claims → Begins (entries k v.pass.seen) log → Begins
        (entries k v.heard) log
        → Begins log (entries k logs) → StateAfter m made k log x → 0 < occurrences name (m.claims x))
        → ((name : List ℕ) (x : S) → HasClaim i name v.claims → StateAfter m made i new x → 0 < occurrences name (m.claims x))
        → (k : ℕ) (name : List ℕ) (log : List (Entry C R)) (x : S) → HasClaim k name v.claims → Begins (entries k v.pass.seen) log
        → Begins (entries k v.heard) log
        → Begins log (entries k logs') → StateAfter m made k log x → 0 < occurrences name (m.claims x)
    open_on v old last k name log x has a b c after =
        ⊎_elim
        (λ e.
        let c' : Begins log new = subst (λ l. Begins log l) (ap (λ q. entries q logs') e ∙ entries_here logs i new inside) c in
        ⊎_elim
        (λ u. old k name log x has a b (subst (λ q. Begins log (entries q logs)) (sym e) u) after)
        (λ u. last name x (subst (λ q. HasClaim q name v.claims) e has)
        (subst (λ l. StateAfter m made i l x) u (subst (λ q. StateAfter m made q log x) e after)))
        (grows_cut (entries i logs) new log grows c'))
        (λ n. old k name log x has a b (subst (λ l. Begins log l) (entries_else logs i k new n) c) after)
        (cases_eq k i)

    agrees_on : (j : ℕ) (v : View S C R) → j ≢ id → RowAgrees m made logs holders j v
        → ((name : List ℕ) (x : S) → HasClaim i name v.claims → StateAfter m made i new x → 0 < occurrences name (m.claims x))
        → RowAgrees m made logs' (set holders i holder) j v
    agrees_on j v n agrees last = record {
      opening = agrees.opening;
      wide = agrees.wide;
      seen = goes_on v.pass.seen agrees.seen;
      heard = goes_on v.heard agrees.heard;
      held = λ h e. holds_on j v.pass.seen h n (agrees.held h e);
      mine = agrees.mine;
      claims = open_on v agrees.claims last;
      gone = agrees.gone;
    }

  module _ (s : State (Option S) (View S C R)) (inv : RowInvariant m made s) where
    abbrev Views : Type 0
    Views = List (View S C R)

    -- One value and one seat are other than before.
    module _ (i id : ℕ) (v v' : View S C R) (new : List (Entry C R)) (word holder : ℕ) (slot : mathlib.Core.Option.Option (Option S))
        (at : get_elem? s.views id ≡ some v) (inside : i < length made)
        (grows : Grows (entries i inv.logs) new) (idle : (slice_index inv.holders i ≡ 0) ⊎ (slice_index inv.holders i ≡ id + 1))
        (cell : Cell m made i new (some slot) word holder)
        (agrees : RowAgrees m made (set inv.logs i new) (set inv.holders i holder) id v')
        (same_id : row_pass_id v' ≡ row_pass_id v)
        (places : (k n : ℕ) → row_places k n v' + one_if (within n (length (entries k inv.logs))) ≡ row_places k n v + one_if
        (within n (length (entries k (set inv.logs i new)))))
        (claims_else : (k : ℕ) (name : List ℕ) → k ≢ i → claims_at k name v' ≡ claims_at k name v)
        (claims_here : (name : List ℕ) (x : S) → StateAfter m made i new x → total (claims_at i name) (set s.views id v') ≡ occurrences name (m.claims x)) where
      in_logs : i < length inv.logs
      in_logs = omega (arith, inv.logs_len)

      in_holders : i < length inv.holders
      in_holders = omega (arith, inv.holders_len)

      others : (j : ℕ) (u : View S C R) → j ≢ id → get_elem? s.views j ≡ some u → RowAgrees m made (set inv.logs i new) (set inv.holders i holder) j u
      others j u n at_u =
          agrees_on inv.logs inv.holders i id new holder in_logs in_holders grows idle j u n (inv.each_view j u at_u)
          (λ name x has after. omega (arith, claims_here name x after, total_at (claims_at i name) (set s.views id v') j u (set_else s.views id j v' n ∙ at_u)))

      cells : (k : ℕ) → k < length made
          → Cell m made k (entries k (set inv.logs i new)) (get_elem? (set s.homes i slot) k)
          (slice_index (set s.words (row_word_at i) word) (row_word_at k)) (slice_index (set inv.holders i holder) k)
      cells k h =
          ⊎_elim
          (λ e. subst (λ q. Cell m made q (entries q (set inv.logs i new)) (get_elem? (set s.homes i slot) q)
          (slice_index (set s.words (row_word_at i) word) (row_word_at q)) (slice_index (set inv.holders i holder) q)) (sym e)
          (rw (
            entries_here inv.logs i new in_logs,
            set_here s.homes i slot (omega (arith, inv.homes_len)),
            get_or-set_same s.words (row_word_at i) word 0 (omega (arith, inv.words_len)),
            get_or-set_same inv.holders i holder 0 in_holders,
          ) cell))
          (λ n.
          rw (
            entries_else inv.logs i k new n,
            set_else s.homes i k slot n,
            get_or-set_other s.words (row_word_at i) (row_word_at k) word 0 (λ e. n (omega arith)),
            get_or-set_other inv.holders i k holder 0 n,
          ) (inv.each_cell k h))
          (cases_eq k i)

      claims : (k : ℕ) (name : List ℕ) (x : S) → StateAfter m made k (entries k (set inv.logs i new)) x
          → total (claims_at k name) (set s.views id v') ≡ occurrences name (m.claims x)
      claims k name x after =
          ⊎_elim
          (λ e. subst (λ q. total (claims_at q name) (set s.views id v') ≡ occurrences name (m.claims x)) (sym e)
          (claims_here name x (subst (λ l. StateAfter m made i l x) (entries_here inv.logs i new in_logs)
          (subst (λ q. StateAfter m made q (entries q (set inv.logs i new)) x) e after))))
          (λ n. omega (
            arith,
            total_set (claims_at k name) s.views id v v' at,
            claims_else k name n,
            inv.claims k name x (subst (λ l. StateAfter m made k l x) (entries_else inv.logs i k new n) after),
          ))
          (cases_eq k i)

      pub moved : RowInvariant m made record {
        words = slice_set s.words (row_word_at i) word;
        homes = slice_set s.homes i slot;
        views = slice_set s.views id v';
      }
      moved = record {
        logs = set inv.logs i new;
        holders = set inv.holders i holder;
        words_len = length-set s.words (row_word_at i) word ∙ inv.words_len;
        homes_len = length-set s.homes i slot ∙ inv.homes_len;
        logs_len = length-set inv.logs i new ∙ inv.logs_len;
        holders_len = length-set inv.holders i holder ∙ inv.holders_len;
        each_cell = cells;
        each_view = λ j u e. ⊎_elim (λ t. subst (λ w. RowAgrees m made (set inv.logs i new) (set inv.holders i holder) j w) t.1
            (subst (λ q. RowAgrees m made (set inv.logs i new) (set inv.holders i holder) q v') (sym t.0) agrees)) (λ t. others j u t.0 t.1)
            (at_set s.views id j v' u e);
        tree = subst (λ ls. IsPassTree ls) (sym (map_kept row_pass_id s.views id v v' at same_id)) inv.tree;
        tally = λ k n. omega (arith, total_set (row_places k n) s.views id v v' at, places k n, inv.tally k n);
        claims = claims;
      }

    -- No word, no slot and no history is other than before.
    of_views : (views : List (View S C R))
        → ((j : ℕ) (u : View S C R) → get_elem? views j ≡ some u → RowAgrees m made inv.logs inv.holders j u)
        → IsPassTree (map row_pass_id views)
        → ((k n : ℕ) → total (row_places k n) views ≡ total (row_places k n) s.views)
        → ((k : ℕ) (name : List ℕ) → total (claims_at k name) views ≡ total (claims_at k name) s.views)
        → RowInvariant m made record { words = s.words; homes = s.homes; views = views }
    of_views views each_view tree places claims = record {
      logs = inv.logs;
      holders = inv.holders;
      words_len = inv.words_len;
      homes_len = inv.homes_len;
      logs_len = inv.logs_len;
      holders_len = inv.holders_len;
      each_cell = inv.each_cell;
      each_view = each_view;
      tree = tree;
      tally = λ k n. places k n ∙ inv.tally k n;
      claims = λ k name x after. claims k name ∙ inv.claims k name x after;
    }

    -- One seat alone is other than before.
    module _ (id : ℕ) (v v' : View S C R) (at : get_elem? s.views id ≡ some v)
        (agrees : RowAgrees m made inv.logs inv.holders id v') where
      each_seat : (j : ℕ) (u : View S C R) → get_elem? (set s.views id v') j ≡ some u → RowAgrees m made inv.logs inv.holders j u
      each_seat j u e =
          ⊎_elim (λ t. subst (λ w. RowAgrees m made inv.logs inv.holders j w) t.1
          (subst (λ q. RowAgrees m made inv.logs inv.holders q v') (sym t.0) agrees)) (λ t. inv.each_view j u t.1)
          (at_set s.views id j v' u e)

      module _ (same_id : row_pass_id v' ≡ row_pass_id v) (places : (k n : ℕ) → row_places k n v' ≡ row_places k n v)
          (claims : (k : ℕ) (name : List ℕ) → claims_at k name v' ≡ claims_at k name v) where
        pub turned : RowInvariant m made record { words = s.words; homes = s.homes; views = slice_set s.views id v' }
        turned =
            of_views (set s.views id v') each_seat
            (subst (λ ls. IsPassTree ls) (sym (map_kept row_pass_id s.views id v v' at same_id)) inv.tree)
            (λ k n. omega (arith, total_set (row_places k n) s.views id v v' at, places k n))
            (λ k name. omega (arith, total_set (claims_at k name) s.views id v v' at, claims k name))

      -- And one came.
      module _ (w : View S C R) (agrees_new : (j : ℕ) → RowAgrees m made inv.logs inv.holders j w)
          (tree : IsPassTree (set (map row_pass_id s.views) id (row_pass_id v') ++ row_pass_id w ∷ []))
          (places : (k n : ℕ) → row_places k n v' + row_places k n w ≡ row_places k n v)
          (claims : (k : ℕ) (name : List ℕ) → claims_at k name v' + claims_at k name w ≡ claims_at k name v) where
        total_one_more : (f : View S C R → ℕ) → f v' + f w ≡ f v → total f (set s.views id v' ++ w ∷ []) ≡ total f s.views
        total_one_more f parts = omega (arith, total_set f s.views id v v' at, total-append f (set s.views id v') (w ∷ []), parts)

        pub grown : RowInvariant m made record { words = s.words; homes = s.homes; views = slice_set s.views id v' ++ w ∷ [] }
        grown =
            of_views (set s.views id v' ++ w ∷ [])
            (λ j u e. ⊎_elim (each_seat j u) (λ t. subst (λ x. RowAgrees m made inv.logs inv.holders j x) t (agrees_new j))
            (at_snoc (set s.views id v') w u j e))
            (subst (λ ls. IsPassTree ls) (sym
            (map-append row_pass_id (set s.views id v') (w ∷ []) ∙ ap (λ ls. ls ++ row_pass_id w ∷ []) (map-set row_pass_id s.views id v'))) tree)
            (λ k n. total_one_more (row_places k n) (places k n))
            (λ k name. total_one_more (claims_at k name) (claims k name))

      -- It has taken in another.
      module _ (other : ℕ) (w w' : View S C R) (at_other : get_elem? (set s.views id v') other ≡ some w)
          (agrees_left : (j : ℕ) → RowAgrees m made inv.logs inv.holders j w')
          (tree : IsPassTree (set (set (map row_pass_id s.views) id (row_pass_id v')) other (row_pass_id w')))
          (places : (k n : ℕ) → row_places k n v' + row_places k n w' ≡ row_places k n v + row_places k n w)
          (claims : (k : ℕ) (name : List ℕ) → claims_at k name v' + claims_at k name w' ≡ claims_at k name v + claims_at k name w) where
        total_both : (f : View S C R → ℕ) → f v' + f w' ≡ f v + f w → total f (set (set s.views id v') other w') ≡ total f s.views
        total_both f parts = omega (arith, total_set f s.views id v v' at, total_set f (set s.views id v') other w w' at_other, parts)

        pub merged : RowInvariant m made record { words = s.words; homes = s.homes; views = slice_set (slice_set s.views id v') other w' }
        merged =
            of_views (set (set s.views id v') other w')
            (λ j u e. ⊎_elim (λ t. subst (λ x. RowAgrees m made inv.logs inv.holders j x) t.1 (agrees_left j)) (λ t. each_seat j u t.1)
            (at_set (set s.views id v') other j w' u e))
            (subst (λ ls. IsPassTree ls) (sym
            (map-set row_pass_id (set s.views id v') other w' ∙ ap (λ ls. set ls other (row_pass_id w')) (map-set row_pass_id s.views id v'))) tree)
            (λ k n. total_both (row_places k n) (places k n))
            (λ k name. total_both (claims_at k name) (claims k name))

    -- One value's lock and one seat are other than before, and no history is.
    module _ (i id : ℕ) (v v' : View S C R) (word holder : ℕ) (slot : mathlib.Core.Option.Option (Option S))
        (at : get_elem? s.views id ≡ some v) (inside : i < length made)
        (idle : (slice_index inv.holders i ≡ 0) ⊎ (slice_index inv.holders i ≡ id + 1))
        (cell : Cell m made i (entries i inv.logs) (some slot) word holder)
        (agrees : RowAgrees m made inv.logs (set inv.holders i holder) id v')
        (same_id : row_pass_id v' ≡ row_pass_id v)
        (places : (k n : ℕ) → row_places k n v' ≡ row_places k n v)
        (claims : (k : ℕ) (name : List ℕ) → claims_at k name v' ≡ claims_at k name v) where
      unchanged : set inv.logs i (entries i inv.logs) ≡ inv.logs
      unchanged = set-get_or inv.logs i []

      pub shifted : RowInvariant m made record {
        words = slice_set s.words (row_word_at i) word;
        homes = slice_set s.homes i slot;
        views = slice_set s.views id v';
      }
      shifted =
          moved i id v v' (entries i inv.logs) word holder slot at inside (inl refl) idle cell
          (subst (λ ls. RowAgrees m made ls (set inv.holders i holder) id v') (sym unchanged) agrees)
          same_id
          (λ k n. omega (arith, places k n, ap (λ (ls : List (List (Entry C R))). one_if (within n (length (entries k ls)))) unchanged))
          (λ k name apart. claims k name)
          (λ name x after. omega (arith, total_set (claims_at i name) s.views id v v' at, claims i name, inv.claims i name x after))
