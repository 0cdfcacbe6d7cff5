-- Passes are split off and taken in, and told of each other, and the rule stays.
use Rattle.std.proofs.Common.{◌≡◌, ℕ, true, List, [], ◌∷◌, ◌++◌, length, map, set, refl, ap, sym, ◌∙◌, subst, inl, inr, ⊎_elim, arith}
use Rattle.std.specs.Prelude.{None}
use Rattle.std.proofs.lemmas.Bool.{cases_lt, true≢false}
use Rattle.std.proofs.lemmas.List.{map-set}
use mathlib.Core.Option.{some}
use lib.ListN.{get_elem?}
use Rattle.atomic_table.specs.Table.{Splits, Joins}
use Rattle.atomic_table.proofs.Lists.{at_map, set_again, set_else}
use Rattle.pass_names.specs.declared.PassId.{PassId}
use Rattle.pass_names.specs.Counts.{one_if}
use Rattle.pass_names.specs.Names.{IsPassTree, gone_pass_id, AnswersFor}
use Rattle.pass_names.specs.Passes.{Begins, entries, GoesOn, is_place}
use Rattle.pass_names.proofs.Counts.{total-append}
use Rattle.pass_names.proofs.Names.{splits_tree, gone_tree, joins_tree}
use Rattle.pass_names.proofs.Passes.{begins_nil, goes_nil}
use Rattle.counted_row.specs.declared.view.Entry.{Entry}
use Rattle.counted_row.specs.declared.view.View.{View}
use Rattle.counted_row.specs.Meaning.{CallMeaning}
use Rattle.counted_row.specs.Views.{is_claim, split_view, new_view}
use Rattle.counted_row.specs.Rules.{row_pass_id, row_places, claims_at, RowAgrees, RowInvariant}
use Rattle.counted_row.specs.Plays.{note_of, gone_view, joined_view, told_view}
use Rattle.counted_row.proofs.Frames.{grown, merged}
use Rattle.counted_row.proofs.Knowing.{no_lock}

module _ {S C R : Type 0} (m : CallMeaning S C R) (made : List S) where
  -- a view with no place and no claim of its own, of histories that were seen
  pub agrees_reader : (logs : List (List (Entry C R))) (holders : List ℕ) (j : ℕ) (id : PassId) (opening : List S) (seen : List (List (Entry C R)))
      → (id.live ≡ true → opening ≡ made) → (id.live ≡ true → length seen ≡ length made) → GoesOn seen logs
      → RowAgrees m made logs holders j record { pass = record { id = id; seen = seen; mine = [] }; opening = opening; heard = []; claims = []; held = None }
  agrees_reader logs holders j id opening seen told wide goes = record {
    opening = told;
    wide = wide;
    seen = goes;
    heard = goes_nil logs;
    held = λ h e. absurd (no_lock h e);
    mine = λ i k some_one. absurd (omega arith);
    claims = λ i name log x has a b c after. absurd (omega arith);
    gone = λ off. (refl, refl);
  }

  agrees_split : (logs : List (List (Entry C R))) (holders : List ℕ) (id : ℕ) (v : View S C R) → RowAgrees m made logs holders id v
      → RowAgrees m made logs holders id (split_view v)
  agrees_split logs holders id v a =
      record { opening = a.opening; wide = a.wide; seen = a.seen; heard = a.heard; held = a.held; mine = a.mine; claims = a.claims; gone = a.gone }

  pub splits : (id : ℕ) (v : View S C R) → v.pass.id.live ≡ true → Splits (RowInvariant m made) id v (split_view v) (new_view v)
  splits id v live s inv at =
      let agrees = inv.each_view id v at in
      grown m made s inv id v (split_view v) at (agrees_split inv.logs inv.holders id v agrees) (new_view v)
      (λ j. agrees_reader inv.logs inv.holders j (row_pass_id (new_view v)) v.opening v.pass.seen (λ t. agrees.opening live)
      (λ t. agrees.wide live) agrees.seen)
      (splits_tree (map row_pass_id s.views) inv.tree id (row_pass_id v) (at_map row_pass_id s.views id v at) live)
      (λ k n. omega arith)
      (λ k name. omega arith)

  pub notes : (id : ℕ) (v : View S C R) → Splits (RowInvariant m made) id v v (note_of v)
  notes id v s inv at =
      grown m made s inv id v v at (inv.each_view id v at) (note_of v)
      (λ j. agrees_reader inv.logs inv.holders j gone_pass_id [] v.pass.seen (λ t. absurd (true≢false (sym t)))
      (λ t. absurd (true≢false (sym t))) (inv.each_view id v at).seen)
      (subst (λ ls. IsPassTree (ls ++ gone_pass_id ∷ []))
      (sym (set_again (map row_pass_id s.views) id (row_pass_id v) (at_map row_pass_id s.views id v at)))
      (gone_tree (map row_pass_id s.views) inv.tree))
      (λ k n. omega arith)
      (λ k name. omega arith)

  agrees_gone : (logs : List (List (Entry C R))) (holders : List ℕ) (j : ℕ) → RowAgrees m made logs holders j gone_view
  agrees_gone logs holders j = agrees_reader logs holders j gone_pass_id [] [] (λ t. absurd (true≢false (sym t)))
      (λ t. absurd (true≢false (sym t))) (goes_nil logs)

  none_heard : (v : View S C R) → v.heard ≡ [] → (i : ℕ) (log : List (Entry C R)) → Begins (entries i v.heard) log
  none_heard v heard i log = subst (λ h. Begins (entries i h) log) (sym heard) (begins_nil log)

  none_long : (v : View S C R) → v.heard ≡ [] → (i : ℕ) → length (entries i v.heard) ≡ 0
  none_long v heard i = ap (λ h. length (entries i h)) heard

  agrees_joined : (logs : List (List (Entry C R))) (holders : List ℕ) (id other : ℕ) (v w : View S C R) → v.pass.id.live ≡ true
      → v.heard ≡ [] → w.heard ≡ [] → v.held ≡ None
      → RowAgrees m made logs holders id v → RowAgrees m made logs holders other w → RowAgrees m made logs holders id (joined_view v w)
  agrees_joined logs holders id other v w live v_heard w_heard idle agrees agrees_w = record {
    opening = agrees.opening;
    wide = agrees.wide;
    seen = agrees.seen;
    heard = agrees_w.seen;
    held = λ h e. absurd (no_lock h (sym idle ∙ e));
    mine = λ i k some_one.
        ⊎_elim
        (λ t. ⊎_elim (λ u. inl u) (λ u. inl (omega (arith, none_long v v_heard i))) (agrees.mine i k t))
        (λ none. ⊎_elim (λ u. inr u) (λ u. inr (omega (arith, none_long w w_heard i)))
        (agrees_w.mine i k (omega (arith, total-append (λ (p : ℕ × ℕ). one_if (is_place i k p)) v.pass.mine w.pass.mine))))
        (cases_lt 0 (row_places i k v));
    claims = λ i name log x has a b c after.
        ⊎_elim
        (λ t. agrees.claims i name log x t a (none_heard v v_heard i log) c after)
        (λ none. agrees_w.claims i name log x
        (omega (arith, total-append (λ (p : ℕ × List ℕ). one_if (is_claim i name p)) v.claims w.claims)) b
        (none_heard w w_heard i log) c after)
        (cases_lt 0 (claims_at i name v));
    gone = λ off. absurd (true≢false (sym live ∙ off));
  }

  pub joins : (id other : ℕ) (v w : View S C R) → v.pass.id.live ≡ true → w.pass.id.live ≡ true → v.heard ≡ [] → w.heard ≡ []
      → v.held ≡ None → AnswersFor v.pass.id w.pass.id
      → Joins (RowInvariant m made) id v other w (joined_view v w) gone_view
  joins id other v w live live_w v_heard w_heard idle answers s inv at apart at_other =
      let at_w : get_elem? s.views other ≡ some w = sym (set_else s.views id other (joined_view v w) apart) ∙ at_other in
      let ids_at : get_elem? (set (map row_pass_id s.views) id (row_pass_id (joined_view v w))) other ≡ some (row_pass_id w) =
      ap (λ ls. get_elem? ls other) (sym (map-set row_pass_id s.views id (joined_view v w))) ∙ at_map row_pass_id
      (set s.views id (joined_view v w)) other w at_other in
      merged m made s inv id v (joined_view v w) at
      (agrees_joined inv.logs inv.holders id other v w live v_heard w_heard idle (inv.each_view id v at) (inv.each_view other w at_w))
      other w gone_view at_other
      (λ j. agrees_gone inv.logs inv.holders j)
      (joins_tree (map row_pass_id s.views) inv.tree id other (row_pass_id v) (row_pass_id w)
      (at_map row_pass_id s.views id v at) live apart ids_at live_w answers)
      (λ k n. omega (arith, total-append (λ (p : ℕ × ℕ). one_if (is_place k n p)) v.pass.mine w.pass.mine))
      (λ k name. omega (arith, total-append (λ (p : ℕ × List ℕ). one_if (is_claim k name p)) v.claims w.claims))

  agrees_told : (logs : List (List (Entry C R))) (holders : List ℕ) (id : ℕ) (v w : View S C R) → v.heard ≡ []
      → RowAgrees m made logs holders id v → GoesOn w.pass.seen logs → RowAgrees m made logs holders id (told_view v w)
  agrees_told logs holders id v w heard agrees goes = record {
    opening = agrees.opening;
    wide = agrees.wide;
    seen = agrees.seen;
    heard = goes;
    held = agrees.held;
    mine = λ i k some_one. ⊎_elim (λ u. inl u) (λ u. inl (omega (arith, none_long v heard i))) (agrees.mine i k some_one);
    claims = λ i name log x has a b c after. agrees.claims i name log x has a (none_heard v heard i log) c after;
    gone = agrees.gone;
  }

  -- a note is taken in
  pub tells : (id other : ℕ) (v u : View S C R) → v.heard ≡ []
      → Joins (RowInvariant m made) id v other (note_of u) (told_view v (note_of u)) gone_view
  tells id other v u heard s inv at apart at_other =
      let w = note_of u in
      let at_w : get_elem? s.views other ≡ some w = sym (set_else s.views id other (told_view v w) apart) ∙ at_other in
      let id_at : get_elem? (map row_pass_id s.views) other ≡ some gone_pass_id = at_map row_pass_id s.views other w at_w in
      let ids : set (set (map row_pass_id s.views) id (row_pass_id v)) other gone_pass_id ≡ map row_pass_id s.views =
      ap (λ ls. set ls other gone_pass_id) (set_again (map row_pass_id s.views) id (row_pass_id v) (at_map row_pass_id s.views id v at))
      ∙ set_again (map row_pass_id s.views) other gone_pass_id id_at in
      merged m made s inv id v (told_view v w) at
      (agrees_told inv.logs inv.holders id v w heard (inv.each_view id v at) (inv.each_view other w at_w).seen)
      other w gone_view at_other
      (λ j. agrees_gone inv.logs inv.holders j)
      (subst (λ ls. IsPassTree ls) (sym ids) inv.tree)
      (λ k n. refl)
      (λ k name. refl)
