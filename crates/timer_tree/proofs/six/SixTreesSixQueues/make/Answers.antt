use Rattle.std.proofs.Common.{◌≡◌, ℕ, ◌+◌, ◌<◌, List, ◌∷◌, length, replicate, [], refl, ap, ◌∙◌, arith, slice_index_or, zero, suc}
use Rattle.timer_tree.specs.Nodes.{none, blank}
use Rattle.timer_tree.specs.Trees.{queue_at, times}
use Rattle.timer_tree.specs.Forests.{queues_of, times_all, no_root}
use Rattle.timer_tree.specs.declared.shared.Root.{Root}
use Rattle.timer_tree.specs.declared.node.Node.{Node}
use Rattle.std.proofs.lemmas.List.{length-replicate}
use Rattle.timer_tree.proofs.Stores.{empty_stored}
use Rattle.timer_tree.proofs.Forests.{all_empty}
use Rattle.timer_tree.proofs.six.SixTreesSixQueues.make.Goals as goal

abbrev start : Root
start = record { root = none; first = none; last = none }

starts : (n j : ℕ) → j < n → slice_index_or (replicate n start) j no_root ≡ start
starts zero j within = let never : ⊥ = omega (arith, within) in absurd never
starts (suc n) zero within = refl
starts (suc n) (suc j) within = starts n j (omega (arith, within))

none_there : (xs : List Node) (k : ℕ) → queue_at xs none ≡ [] → times_all k (queues_of xs (start ∷ start ∷ start ∷ start ∷ start ∷ start ∷ [])) ≡ 0
none_there xs k empty = ap (λ q. times k q + (times k q + (times k q + (times k q + (times k q + (times k q + 0)))))) empty

pub invariant_of-result : goal.invariant_of-result
invariant_of-result c =
    let is = c.in_ok-block.ensures in
    let xs = c.in_ok-block.block in
    let empty = empty_stored xs c.args.room (omega arith) is in (
      all_empty xs c.args.room _ (omega arith) is (starts 6) (λ k. none_there xs k empty.1),
      refl,
    )

pub returns-clause-queues : goal.returns-clause-queues
returns-clause-queues c = ap (λ q. q ∷ q ∷ q ∷ q ∷ q ∷ q ∷ []) (empty_stored c.in_ok-block.block c.args.room (omega arith) c.in_ok-block.ensures).1

pub returns-clause-bound : goal.returns-clause-bound
returns-clause-bound c = ap length c.in_ok-block.ensures ∙ length-replicate c.args.room blank
