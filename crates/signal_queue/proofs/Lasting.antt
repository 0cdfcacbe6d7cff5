-- The last pass has seen the whole history, and each turn is its own.
use Rattle.std.proofs.Common.{◌≡◌, ℕ, true, List, [], ◌∷◌, length, map, ap, sym, ◌∙◌}
use mathlib.Core.Option.{some, some-injective}
use lib.ListN.{get_elem?}
use Rattle.atomic_table.proofs.Lists.{at_map}
use Rattle.pass_names.specs.Counts.{one_if, count}
use Rattle.pass_names.specs.Names.{IsLast}
use Rattle.pass_names.specs.Passes.{HasEach, entries, is_place, within}
use Rattle.pass_names.proofs.Last.{total_last}
use Rattle.pass_names.proofs.Names.{last_alone}
use Rattle.signal_queue.specs.declared.signal.Signal.{Signal}
use Rattle.signal_queue.specs.declared.view.QueueView.{QueueView}
use Rattle.signal_queue.specs.Rules.{QueueInvariant, queue_pass_id, queue_places, turns}

module _ {items : List Signal} {views : List QueueView} (inv : QueueInvariant items views) (id : ℕ) (v : QueueView) (at : get_elem? views id ≡ some v)
    (live : v.pass.id.live ≡ true) where
  -- where a pass is the last one, no other is there
  pub alone_last : IsLast v.pass.id → (j : ℕ) (u : QueueView) → get_elem? views j ≡ some u → u.pass.id.live ≡ true → j ≡ id
  alone_last last j u at_u on =
      last_alone (map queue_pass_id views) inv.tree id j (queue_pass_id v) (queue_pass_id u)
      (at_map queue_pass_id views id v at) live last (at_map queue_pass_id views j u at_u) on

  pub all_of_last : IsLast v.pass.id → turns v ≡ inv.log
  all_of_last last =
      let one = inv.all_seen in
      let here : one.0 ≡ id = alone_last last one.0 one.1 one.2 one.3.live in
      let same : one.1 ≡ v = some-injective one.1 v (sym one.2 ∙ ap (λ j. get_elem? views j) here ∙ at) in
      ap turns (sym same) ∙ one.3.all

  pub each_of_last : v.pass.seen ≡ turns v ∷ [] → IsLast v.pass.id → HasEach v.pass.seen v.pass.mine
  each_of_last one last = record {
    once = λ i k.
        sym (total_last queue_pass_id views inv.tree id v at live last (queue_places i k)
        (λ j u at_u off. ap (count (is_place i k)) ((inv.each_view j u at_u).gone off)))
        ∙ (inv.tally i k ∙ ap (λ seen. one_if (within k (length (entries i seen)))) (ap (λ l. l ∷ []) (sym (all_of_last last)) ∙ sym one));
  }
