-- A push and a pop keep the rule, and what a refused one learns.
use Rattle.std.proofs.Common.{◌≡◌, ◌≢◌, ◌≤◌, ℕ, zero, suc, ◌+◌, true, false, append-nil, eqb, ne_eqb, ◌&&◌, List, [], ◌∷◌, ◌++◌, length, refl, ap, sym, ◌∙◌, subst, length-append, arith}
use Rattle.std.specs.Prelude.{slice_set}
use Rattle.std.proofs.lemmas.Bool.{true≢false}
use Rattle.std.proofs.lemmas.List.Elements.{All-nil}
use mathlib.Core.Option.{some}
use lib.ListN.{get_elem?}
use Rattle.crossbeam_queue.specs.Fifo.{Pushes, Pops, Learns}
use Rattle.pass_names.specs.Counts.{one_if, count}
use Rattle.pass_names.specs.Passes.{Begins, entries, within, is_place}
use Rattle.pass_names.proofs.Passes.{within_more, count_place, begins_more, goes_refl, goes_trans}
use Rattle.signal_queue.specs.declared.signal.Signal.{Signal}
use Rattle.signal_queue.specs.declared.signal.Turn.{Turn}
use Rattle.signal_queue.specs.declared.signal.Turn.TheVariants.{Pushed, Popped}
use Rattle.signal_queue.specs.declared.view.QueueView.{QueueView}
use Rattle.signal_queue.specs.Turns.{AreTurns, popped, pushed, waiting_after}
use Rattle.signal_queue.specs.Calls.{MakesTurn, RuleHeld}
use Rattle.signal_queue.specs.Rules.{QueueInvariant}
use Rattle.signal_queue.proofs.Turns.{legal_pop, legal_push, popped-append, pushed-append, waits_pop, waits_push}
use Rattle.pass_names.proofs.Counts.{set_there}
use Rattle.signal_queue.proofs.Frames.{alone, goes_one, turned}
use Rattle.signal_queue.proofs.Lasting.{each_of_last}

-- a count goes on by one
one_more : {n k m : ℕ} → m ≡ k + 1 → n ≡ k → n + 1 ≡ m
one_more e same = omega (arith, e, same)

module _ (id : ℕ) (v : QueueView) (live : v.pass.id.live ≡ true) where
  -- the turn's place is one more
  one_place : (t : Turn) (log : List Turn) (i k : ℕ)
      → count (is_place i k) (v.pass.mine ++ (0, length log + 1) ∷ []) + one_if (within k (length (entries i (log ∷ []))))
      ≡ count (is_place i k) v.pass.mine + one_if (within k (length (entries i ((log ++ t ∷ []) ∷ []))))
  one_place t log zero k = omega (
    arith,
    count_place 0 0 k (length log + 1) v.pass.mine,
    within_more k (length log),
    ap (λ n. one_if (within k n)) (length-append log (t ∷ [])),
  )
  one_place t log (suc i) k =
      let elsewhere : one_if (eqb 0 (suc i) && eqb (length log + 1) k) ≡ 0 = ap (λ b. one_if (b && eqb (length log + 1) k))
      (ne_eqb 0 (suc i) (λ e. omega arith)) in
      omega (arith, elsewhere, count_place 0 (suc i) k (length log + 1) v.pass.mine)

  -- a turn that leads from the history to these signals
  makes : (t : Turn) (items items' : List Signal) (views : List QueueView) (inv : QueueInvariant items views) → get_elem? views id ≡ some v
      → AreTurns inv.room [] (inv.log ++ t ∷ []) → items' ≡ waiting_after [] (inv.log ++ t ∷ [])
      → (v.pushes ≡ true → length items' ≤ v.room)
      → (v.pushes ≡ true → v.made + 1 ≡ length (pushed (inv.log ++ t ∷ [])))
      → (v.pops ≡ true → v.made + 1 ≡ length (popped (inv.log ++ t ∷ [])))
      → ((j : ℕ) (u : QueueView) → j ≢ id → get_elem? views j ≡ some u → u.pushes ≡ true → pushed (inv.log ++ t ∷ []) ≡ pushed inv.log)
      → ((j : ℕ) (u : QueueView) → j ≢ id → get_elem? views j ≡ some u → u.pops ≡ true → popped (inv.log ++ t ∷ []) ≡ popped inv.log)
      → (w : QueueView) × QueueInvariant items' (slice_set views id w) × MakesTurn t v w
  makes t items items' views inv at legal shows few put taken no_push no_pop =
      let log = inv.log ++ t ∷ [] in
      let more : Begins inv.log log = begins_more inv.log (t ∷ []) in
      let agrees = inv.each_view id v at in
      let w : QueueView = record v { pass = record v.pass { seen = log ∷ []; mine = v.pass.mine ++ (0, length inv.log + 1) ∷ [] }; heard = []; made = v.made + 1 } in
      let next = turned items views inv id v w items' log at more shows legal
      (record {
        seen = goes_refl (log ∷ []);
        heard = All-nil (λ ts. Begins ts log);
        gone = λ off. absurd (true≢false (sym live ∙ off));
        pushes = λ on. (refl, subst (λ l. length l ≤ v.room) shows (few on));
        pops = λ on. refl;
        pushes_made = put;
        pops_made = taken;
      }) refl refl
      (one_place t inv.log) refl refl no_push no_pop (record { live = live; all = refl }) in (
        w,
        next.0,
        record {
          adds = record {
            seen = goes_trans agrees.seen (goes_one inv.log log more);
            before = inv.log;
            begins = agrees.seen.each 0;
            last = refl;
            mine = refl;
            id = refl;
          };
          live = live;
          known = record { one = refl; legal = subst (λ n. AreTurns n [] log) (sym (inv.rooms id v at live)) legal; all_entries = each_of_last next.0 id w (set_there views id v w at) live refl };
          heard = agrees.heard;
          none = refl;
          room = refl;
          same_push = refl;
          same_pop = refl;
          within = λ on. subst (λ l. length l ≤ v.room) shows (few on);
          one_more = refl;
          pushes_made = put;
          pops_made = taken;
        },
      )

  pub pushes : (n : ℕ) (s : Signal) → v.pushes ≡ true → v.pops ≡ false → v.room ≡ n → Pushes QueueInvariant n id v s (MakesTurn (Pushed s) v)
  pushes n s may off same items views room inv at =
      makes (Pushed s) items (items ++ s ∷ []) views inv at
      (legal_push inv.room [] inv.log s inv.legal (omega (arith, room, same, inv.rooms id v at live, ap length inv.shows)))
      (ap (λ l. l ++ s ∷ []) inv.shows ∙ sym (waits_push [] inv.log s))
      (λ on. omega (arith, room, same, length-append items (s ∷ [])))
      (λ on. one_more (ap length (pushed-append inv.log (Pushed s ∷ [])) ∙ length-append (pushed inv.log) (s ∷ [])) ((inv.each_view id v at).pushes_made on))
      (λ on. absurd (true≢false (sym on ∙ off)))
      (λ j u apart at_u on. absurd (alone (λ x. x.pushes) views inv.one_pusher id j v u apart at at_u may on))
      (λ j u apart at_u on. popped-append inv.log (Pushed s ∷ []) ∙ append-nil (popped inv.log))

  pub pops : v.pops ≡ true → v.pushes ≡ false → Pops QueueInvariant id v (λ s w. MakesTurn (Popped s) v w)
  pops may off s items views inv at =
      makes (Popped s) (s ∷ items) items views inv at (legal_pop inv.room [] inv.log s items inv.legal (sym inv.shows))
      (sym (waits_pop [] inv.log s items (sym inv.shows)))
      (λ on. absurd (true≢false (sym on ∙ off)))
      (λ on. absurd (true≢false (sym on ∙ off)))
      (λ on. one_more (ap length (popped-append inv.log (Popped s ∷ [])) ∙ length-append (popped inv.log) (s ∷ [])) ((inv.each_view id v at).pops_made on))
      (λ j u apart at_u on. pushed-append inv.log (Popped s ∷ []) ∙ append-nil (pushed inv.log))
      (λ j u apart at_u on. absurd (alone (λ x. x.pops) views inv.one_popper id j v u apart at at_u may on))

  pub learns : Learns QueueInvariant id v (RuleHeld v)
  learns items views inv at = (views, id, inv, at)
