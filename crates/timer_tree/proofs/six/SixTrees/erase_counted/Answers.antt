use Rattle.std.proofs.Common.{◌≡◌, ℕ, ◌+◌, ◌*◌, ◌^◌, ◌<◌, ◌≤◌, List, [], true, length, slice_set, slice_index_or, sym, subst, ap, ◌∙◌, arith}
use Rattle.std.proofs.lemmas.List.{length-set}
use Rattle.timer_queue.specs.Pairs.{without, has_id}
use Rattle.timer_tree.specs.Forests.{queues_of}
use Rattle.timer_tree.proofs.Forests.{without_once, queue_in, queues_after, all_after}
use Rattle.timer_tree.proofs.six.SixTrees.erase_counted.Goals as goal

pub erase_from-requires-clause-stored : goal.erase_from-requires-clause-stored
erase_from-requires-clause-stored g c = c.self.invariant.0.each c.args.queue (omega (arith, c.self.invariant.1, c.requires.queue))

pub erase_from-requires-clause-present : goal.erase_from-requires-clause-present
erase_from-requires-clause-present g c =
    subst (λ q. has_id c.args.id q ≡ true) (queue_in c.self.inside.block c.self.inside.trees c.args.queue (omega (arith, c.self.invariant.1, c.requires.queue)))
    (subst (λ v. has_id c.args.id (slice_index_or v.0 c.args.queue []) ≡ true) (sym c.self.view_is) c.requires.present)

pub erase_from-requires-clause-last : goal.erase_from-requires-clause-last
erase_from-requires-clause-last g c = c.self.invariant.0.ends c.args.queue (omega (arith, c.self.invariant.1, c.requires.queue))

pub invariant_of-self : goal.invariant_of-self
invariant_of-self g c =
    let rs = c.self.inside.trees in
    let inside : c.args.queue < length rs = omega (arith, c.self.invariant.1, c.requires.queue) in (
      all_after _ _ rs c.args.queue c.erase_from.new.tree _ _ _ c.self.invariant.0 inside c.erase_from.ensures.gives c.erase_from.ensures.last
          (without_once _ rs c.args.queue c.args.id c.self.invariant.0 inside),
      length-set rs c.args.queue c.erase_from.new.tree ∙ c.self.invariant.1,
    )

pub returns-clause-queues : goal.returns-clause-queues
returns-clause-queues g c =
    let xs = c.self.inside.block in
    let rs = c.self.inside.trees in
    let inside : c.args.queue < length rs = omega (arith, c.self.invariant.1, c.requires.queue) in
    queues_after xs _ rs c.args.queue c.erase_from.new.tree _ _ _ c.self.invariant.0 inside c.erase_from.ensures.gives c.erase_from.ensures.last
    (without_once _ rs c.args.queue c.args.id c.self.invariant.0 inside)
    ∙ ap (λ q. slice_set (queues_of xs rs) c.args.queue (without c.args.id q)) (sym (queue_in xs rs c.args.queue inside))
    ∙ ap (λ v. slice_set v.0 c.args.queue (without c.args.id (slice_index_or v.0 c.args.queue []))) c.self.view_is

pub returns-clause-steps : goal.returns-clause-steps
returns-clause-steps g c =
    let inside : c.args.queue < length c.self.inside.trees = omega (arith, c.self.invariant.1, c.requires.queue) in
    let few = λ (ps : List (ℕ × ℕ)). (d : ℕ) → length ps + 1 < 2 ^ d → c.erase_from.new.steps ≤ c.args.steps.now + 32 * (d + 1) in
    subst (λ v. few (slice_index_or v.0 c.args.queue [])) c.self.view_is
    (subst few (sym (queue_in c.self.inside.block c.self.inside.trees c.args.queue inside)) c.erase_from.ensures.gives.count)
