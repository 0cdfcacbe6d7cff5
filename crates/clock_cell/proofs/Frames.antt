-- What a step has to show of the pass that it changes; all else stays.
use Rattle.std.proofs.Common.{◌≡◌, ℕ, zero, suc, ◌+◌, List, [], ◌∷◌, ◌++◌, length, map, set, refl, ap, sym, ◌∙◌, subst, ⊎_elim, arith}
use Rattle.std.specs.Prelude.{slice_set}
use Rattle.std.proofs.lemmas.List.{map-append, map-set}
use Rattle.std.proofs.lemmas.List.Elements.{All-weaker}
use mathlib.Core.Option.{some}
use lib.ListN.{get_elem?}
use Rattle.atomic_table.proofs.Lists.{at_set, at_snoc}
use Rattle.ktime.specs.Clocks.{at_stamp, AreAccepted}
use Rattle.ktime.specs.declared.write.Write.{Write}
use Rattle.pass_names.specs.Counts.{one_if}
use Rattle.pass_names.specs.Names.{IsPassTree}
use Rattle.pass_names.specs.Passes.{Begins, entries, GoesOn, within}
use Rattle.pass_names.proofs.Counts.{total-append, total_set, map_kept}
use Rattle.pass_names.proofs.Passes.{begins_refl, begins_trans, goes_trans}
use Rattle.clock_cell.specs.declared.view.ClockView.{ClockView}
use Rattle.clock_cell.specs.Views.{reading_after}
use Rattle.clock_cell.specs.Words.{cell_words}
use Rattle.clock_cell.specs.Rules.{clock_pass_id, clock_places, ClockAgrees, ClockInvariant}

-- a list of writes goes on where the one history of a clock does
pub goes_one : (xs ys : List Write) → Begins xs ys → GoesOn (xs ∷ []) (ys ∷ [])
goes_one xs ys b = record { each = each }
  where
    each : (i : ℕ) → Begins (entries i (xs ∷ [])) (entries i (ys ∷ []))
    each zero = b
    each (suc i) = begins_refl []

-- what a pass knows stays true when more is written
pub agrees_on : (log more : List Write) (v : ClockView) → Begins log more → ClockAgrees log v → ClockAgrees more v
agrees_on log more v b agrees = record {
  seen = goes_trans agrees.seen (goes_one log more b);
  heard = All-weaker (λ ws. Begins ws log) (λ ws. Begins ws more) (λ ws t. begins_trans t b) v.heard agrees.heard;
  gone = agrees.gone;
}

module _ (words : List ℕ) (views : List ClockView) (inv : ClockInvariant words views) where
  -- One pass is other than before, and something may have been written.
  module _ (id : ℕ) (v v' : ClockView) (words' : List ℕ) (log : List Write) (at : get_elem? views id ≡ some v)
      (grows : Begins inv.log log) (shows : words' ≡ cell_words (reading_after log)) (legal : AreAccepted (at_stamp 0) log)
      (agrees : ClockAgrees log v') (same_id : clock_pass_id v' ≡ clock_pass_id v)
      (places : (i k : ℕ) → clock_places i k v' + one_if (within k (length (entries i (inv.log ∷ [])))) ≡ clock_places i k v + one_if
      (within k (length (entries i (log ∷ []))))) where
    pub turned : (h : ClockInvariant words' (slice_set views id v')) × (h.log ≡ log)
    turned = (
      record {
        log = log;
        shows = shows;
        legal = legal;
        each_view = λ j u e. ⊎_elim (λ t. subst (λ w. ClockAgrees log w) t.1 agrees)
            (λ t. agrees_on inv.log log u grows (inv.each_view j u t.1)) (at_set views id j v' u e);
        tree = subst (λ ls. IsPassTree ls) (sym (map_kept clock_pass_id views id v v' at same_id)) inv.tree;
        tally = λ i k. omega (arith, total_set (clock_places i k) views id v v' at, places i k, inv.tally i k);
      },
      refl,
    )

  -- One pass is other than before, and one came.
  module _ (id : ℕ) (v v' w : ClockView) (at : get_elem? views id ≡ some v) (agrees : ClockAgrees inv.log v') (agrees_new : ClockAgrees inv.log w)
      (tree : IsPassTree (set (map clock_pass_id views) id (clock_pass_id v') ++ clock_pass_id w ∷ []))
      (places : (i k : ℕ) → clock_places i k v' + clock_places i k w ≡ clock_places i k v) where
    pub grown : ClockInvariant words (slice_set views id v' ++ w ∷ [])
    grown = record {
      log = inv.log;
      shows = inv.shows;
      legal = inv.legal;
      each_view = λ j u e. ⊎_elim
          (λ t. ⊎_elim (λ h. subst (λ x. ClockAgrees inv.log x) h.1 agrees) (λ h. inv.each_view j u h.1) (at_set views id j v' u t))
          (λ t. subst (λ x. ClockAgrees inv.log x) t agrees_new)
          (at_snoc (set views id v') w u j e);
      tree = subst (λ ls. IsPassTree ls) (sym
          (map-append clock_pass_id (set views id v') (w ∷ []) ∙ ap (λ ls. ls ++ clock_pass_id w ∷ []) (map-set clock_pass_id views id v'))) tree;
      tally = λ i k. omega (
        arith,
        total_set (clock_places i k) views id v v' at,
        total-append (clock_places i k) (set views id v') (w ∷ []),
        places i k,
        inv.tally i k,
      );
    }

  -- One pass has taken in another.
  module _ (id other : ℕ) (v v' w w' : ClockView) (at : get_elem? views id ≡ some v) (at_other : get_elem? (set views id v') other ≡ some w)
      (agrees : ClockAgrees inv.log v') (agrees_left : ClockAgrees inv.log w')
      (tree : IsPassTree (set (set (map clock_pass_id views) id (clock_pass_id v')) other (clock_pass_id w')))
      (places : (i k : ℕ) → clock_places i k v' + clock_places i k w' ≡ clock_places i k v + clock_places i k w) where
    pub merged : ClockInvariant words (slice_set (slice_set views id v') other w')
    merged = record {
      log = inv.log;
      shows = inv.shows;
      legal = inv.legal;
      each_view = λ j u e. ⊎_elim
          (λ t. subst (λ x. ClockAgrees inv.log x) t.1 agrees_left)
          (λ t. ⊎_elim (λ h. subst (λ x. ClockAgrees inv.log x) h.1 agrees) (λ h. inv.each_view j u h.1) (at_set views id j v' u t.1))
          (at_set (set views id v') other j w' u e);
      tree = subst (λ ls. IsPassTree ls) (sym
          (map-set clock_pass_id (set views id v') other w' ∙ ap (λ ls. set ls other (clock_pass_id w')) (map-set clock_pass_id views id v'))) tree;
      tally = λ i k. omega (
        arith,
        total_set (clock_places i k) views id v v' at,
        total_set (clock_places i k) (set views id v') other w w' at_other,
        places i k,
        inv.tally i k,
      );
    }
