-- What a step has to show of the pass that it changes; all else stays.
use Rattle.std.proofs.Common.{◌≡◌, ◌≢◌, ℕ, zero, suc, ◌+◌, Bool, true, List, [], ◌∷◌, ◌++◌, length, map, set, refl, ap, sym, ◌∙◌, subst, ⊎_elim, arith}
use Rattle.std.specs.Prelude.{slice_set}
use Rattle.std.proofs.lemmas.List.Elements.{All-weaker}
use mathlib.Core.Option.{some}
use lib.ListN.{get_elem?}
use Rattle.atomic_table.proofs.Lists.{at_set, at_snoc}
use Rattle.signal_queue.specs.Turns.{AreTurns, popped, pushed, waiting_after}
use Rattle.signal_queue.specs.declared.signal.Signal.{Signal}
use Rattle.signal_queue.specs.declared.signal.Turn.{Turn}
use Rattle.pass_names.specs.Counts.{one_if, total}
use Rattle.pass_names.specs.Names.{IsPassTree}
use Rattle.pass_names.specs.Passes.{Begins, entries, GoesOn, within}
use Rattle.pass_names.proofs.Counts.{set_there, total-append, total_set, total_two, map_kept}
use Rattle.pass_names.proofs.Passes.{begins_refl, begins_trans, goes_trans}
use Rattle.signal_queue.specs.declared.view.QueueView.{QueueView}
use Rattle.signal_queue.proofs.Somewhere.{still_grown, still_merged, still_set}
use Rattle.signal_queue.specs.Rules.{poppers, pushers, queue_pass_id, queue_places, HasSeenAll, QueueAgrees, QueueInvariant}

-- a list of turns goes on where the one history of a queue does
pub goes_one : (xs ys : List Turn) → Begins xs ys → GoesOn (xs ∷ []) (ys ∷ [])
goes_one xs ys b = record { each = each }
  where
    each : (i : ℕ) → Begins (entries i (xs ∷ [])) (entries i (ys ∷ []))
    each zero = b
    each (suc i) = begins_refl []

-- what a pass knows stays true when more is written, where whoever may push or pop missed none of it
pub agrees_on : (log more : List Turn) (v : QueueView) → Begins log more → (v.pushes ≡ true → pushed more ≡ pushed log) → (v.pops ≡ true → popped more ≡ popped log)
    → QueueAgrees log v → QueueAgrees more v
agrees_on log more v b no_push no_pop agrees = record {
  seen = goes_trans agrees.seen (goes_one log more b);
  heard = All-weaker (λ ws. Begins ws log) (λ ws. Begins ws more) (λ ws t. begins_trans t b) v.heard agrees.heard;
  gone = agrees.gone;
  pushes = λ on. let told = agrees.pushes on in (no_push on ∙ told.0, told.1);
  pops = λ on. no_pop on ∙ agrees.pops on;
  pushes_made = λ on. agrees.pushes_made on ∙ ap length (sym (no_push on));
  pops_made = λ on. agrees.pops_made on ∙ ap length (sym (no_pop on));
}

-- where one has an end, no other has
pub alone : (f : QueueView → Bool) (views : List QueueView) → total (λ v. one_if (f v)) views ≡ 1 → (i j : ℕ) (v u : QueueView) → j ≢ i
    → get_elem? views i ≡ some v → get_elem? views j ≡ some u → f v ≡ true → f u ≡ true → ⊥
alone f views one i j v u apart at at_u on on_u =
    let two = total_two (λ (w : QueueView). one_if (f w)) views j i u v apart at_u at in
    omega (arith, one, two, ap one_if on, ap one_if on_u)

-- whoever isn't gone knows that there is so much room
abbrev KnowsRoom : ℕ → QueueView → Type 0
KnowsRoom room v = v.pass.id.live ≡ true → v.room ≡ room

-- all views of a list know it
abbrev AllKnowRoom : ℕ → List QueueView → Type 0
AllKnowRoom room views = (j : ℕ) (v : QueueView) → get_elem? views j ≡ some v → KnowsRoom room v

-- and still do where one is other than before
rooms_set : (room : ℕ) (views : List QueueView) (id : ℕ) (v : QueueView) → KnowsRoom room v
    → ((j : ℕ) (u : QueueView) → j ≢ id → get_elem? views j ≡ some u → KnowsRoom room u) → AllKnowRoom room (set views id v)
rooms_set room views id v here others j u e on =
    ⊎_elim (λ t. subst (KnowsRoom room) t.1 here on) (λ t. others j u t.0 t.1 on) (at_set views id j v u e)

module _ (items : List Signal) (views : List QueueView) (inv : QueueInvariant items views) where
  rooms_kept : (id : ℕ) (v : QueueView) → KnowsRoom inv.room v → AllKnowRoom inv.room (set views id v)
  rooms_kept id v here = rooms_set inv.room views id v here (λ j u apart at_u. inv.rooms j u at_u)

  -- One pass is other than before, and something may have been written.
  module _ (id : ℕ) (v v' : QueueView) (items' : List Signal) (log : List Turn) (at : get_elem? views id ≡ some v)
      (grows : Begins inv.log log) (shows : items' ≡ waiting_after [] log) (legal : AreTurns inv.room [] log)
      (agrees : QueueAgrees log v') (same_id : queue_pass_id v' ≡ queue_pass_id v) (same_room : v'.room ≡ v.room)
      (places : (i k : ℕ) → queue_places i k v' + one_if (within k (length (entries i (inv.log ∷ [])))) ≡ queue_places i k v + one_if
      (within k (length (entries i (log ∷ [])))))
      (same_push : v'.pushes ≡ v.pushes) (same_pop : v'.pops ≡ v.pops)
      (no_push : (j : ℕ) (u : QueueView) → j ≢ id → get_elem? views j ≡ some u → u.pushes ≡ true → pushed log ≡ pushed inv.log)
      (no_pop : (j : ℕ) (u : QueueView) → j ≢ id → get_elem? views j ≡ some u → u.pops ≡ true → popped log ≡ popped inv.log)
      (all : HasSeenAll log v') where
    pub turned : (h : QueueInvariant items' (slice_set views id v')) × (h.log ≡ log)
    turned = (
      record {
        log = log;
        room = inv.room;
        shows = shows;
        legal = legal;
        rooms = rooms_kept id v' (λ on. same_room ∙ inv.rooms id v at (ap (λ n. n.live) (sym same_id) ∙ on));
        each_view = λ j u e. ⊎_elim (λ t. subst (λ w. QueueAgrees log w) t.1 agrees)
            (λ t. agrees_on inv.log log u grows (no_push j u t.0 t.1) (no_pop j u t.0 t.1) (inv.each_view j u t.1)) (at_set views id j v' u e);
        tree = subst (λ ls. IsPassTree ls) (sym (map_kept queue_pass_id views id v v' at same_id)) inv.tree;
        tally = λ i k. omega (arith, total_set (queue_places i k) views id v v' at, places i k, inv.tally i k);
        one_pusher = omega (arith, total_set pushers views id v v' at, ap one_if same_push, inv.one_pusher);
        one_popper = omega (arith, total_set poppers views id v v' at, ap one_if same_pop, inv.one_popper);
        all_seen = (id, v', set_there views id v v' at, all);
      },
      refl,
    )

  -- One pass is other than before, and one came; with the first pass the room may be told.
  module _ (id : ℕ) (v v' w : QueueView) (at : get_elem? views id ≡ some v) (agrees : QueueAgrees inv.log v') (agrees_new : QueueAgrees inv.log w)
      (room : ℕ) (legal : AreTurns room [] inv.log) (knows : KnowsRoom room v') (knows_new : KnowsRoom room w)
      (others : (j : ℕ) (u : QueueView) → j ≢ id → get_elem? views j ≡ some u → KnowsRoom room u)
      (tree : IsPassTree (map queue_pass_id (set views id v' ++ w ∷ [])))
      (places : (i k : ℕ) → queue_places i k v' + queue_places i k w ≡ queue_places i k v)
      (one_push : pushers v' + pushers w ≡ pushers v) (one_pop : poppers v' + poppers w ≡ poppers v)
      (keeps : HasSeenAll inv.log v → HasSeenAll inv.log v') where
    pub grown : QueueInvariant items (slice_set views id v' ++ w ∷ [])
    grown = record {
      log = inv.log;
      room = room;
      shows = inv.shows;
      legal = legal;
      rooms = λ j u e. ⊎_elim (λ t. rooms_set room views id v' knows others j u t) (λ t. subst (KnowsRoom room) t knows_new) (at_snoc (set views id v') w u j e);
      each_view = λ j u e. ⊎_elim
          (λ t. ⊎_elim (λ h. subst (λ x. QueueAgrees inv.log x) h.1 agrees) (λ h. inv.each_view j u h.1) (at_set views id j v' u t))
          (λ t. subst (λ x. QueueAgrees inv.log x) t agrees_new)
          (at_snoc (set views id v') w u j e);
      tree = tree;
      tally = λ i k. omega (
        arith,
        total_set (queue_places i k) views id v v' at,
        total-append (queue_places i k) (set views id v') (w ∷ []),
        places i k,
        inv.tally i k,
      );
      one_pusher = omega (arith, total_set pushers views id v v' at, total-append pushers (set views id v') (w ∷ []), one_push, inv.one_pusher);
      one_popper = omega (arith, total_set poppers views id v v' at, total-append poppers (set views id v') (w ∷ []), one_pop, inv.one_popper);
      all_seen = still_grown (HasSeenAll inv.log) (set views id v') w (still_set (HasSeenAll inv.log) views id v v' at keeps inv.all_seen);
    }

  -- One pass has taken in another.
  module _ (id other : ℕ) (v v' w w' : QueueView) (at : get_elem? views id ≡ some v) (at_other : get_elem? (set views id v') other ≡ some w)
      (agrees : QueueAgrees inv.log v') (agrees_left : QueueAgrees inv.log w') (knows : KnowsRoom inv.room v') (knows_left : KnowsRoom inv.room w')
      (tree : IsPassTree (map queue_pass_id (set (set views id v') other w')))
      (places : (i k : ℕ) → queue_places i k v' + queue_places i k w' ≡ queue_places i k v + queue_places i k w)
      (one_push : pushers v' + pushers w' ≡ pushers v + pushers w) (one_pop : poppers v' + poppers w' ≡ poppers v + poppers w)
      (apart : other ≡ id → ⊥) (keeps : HasSeenAll inv.log v → HasSeenAll inv.log v') (takes : HasSeenAll inv.log w → HasSeenAll inv.log v') where
    pub merged : QueueInvariant items (slice_set (slice_set views id v') other w')
    merged = record {
      log = inv.log;
      room = inv.room;
      shows = inv.shows;
      legal = inv.legal;
      rooms = rooms_set inv.room (set views id v') other w' knows_left (λ j u apart at_u. rooms_kept id v' knows j u at_u);
      each_view = λ j u e. ⊎_elim
          (λ t. subst (λ x. QueueAgrees inv.log x) t.1 agrees_left)
          (λ t. ⊎_elim (λ h. subst (λ x. QueueAgrees inv.log x) h.1 agrees) (λ h. inv.each_view j u h.1) (at_set views id j v' u t.1))
          (at_set (set views id v') other j w' u e);
      tree = tree;
      tally = λ i k. omega (
        arith,
        total_set (queue_places i k) views id v v' at,
        total_set (queue_places i k) (set views id v') other w w' at_other,
        places i k,
        inv.tally i k,
      );
      one_pusher = omega (
        arith,
        total_set pushers views id v v' at,
        total_set pushers (set views id v') other w w' at_other,
        one_push,
        inv.one_pusher,
      );
      one_popper = omega (
        arith,
        total_set poppers views id v v' at,
        total_set poppers (set views id v') other w w' at_other,
        one_pop,
        inv.one_popper,
      );
      all_seen = still_merged (HasSeenAll inv.log) views id other v v' w w' at apart at_other keeps takes inv.all_seen;
    }
