use Rattle.std.proofs.Common.{◌≡◌, ℕ, ◌+◌, ◌*◌, ◌^◌, ◌<◌, ◌≤◌, List, [], false, length, slice_set, slice_index_or, sym, subst, ap, ◌∙◌, arith}
use Rattle.std.proofs.lemmas.List.{length-set}
use Rattle.timer_queue.specs.Pairs.{put, has_any, has_id}
use Rattle.timer_queue.proofs.Several.{has_any-none}
use Rattle.timer_tree.specs.Forests.{queues_of}
use Rattle.timer_tree.proofs.Forests.{put_once, queue_in, queues_after, all_after}
use Rattle.timer_tree.proofs.six.SixTrees.add_counted.Goals as goal

pub add_to-requires-clause-absent : goal.add_to-requires-clause-absent
add_to-requires-clause-absent g c =
    subst (λ q. has_id c.args.id q ≡ false) (queue_in c.self.inside.block c.self.inside.trees c.args.queue
    (omega (arith, c.self.invariant.1, c.requires.queue)))
    (has_any-none c.args.id c.args.queue (queues_of c.self.inside.block c.self.inside.trees)
    (subst (λ v. has_any c.args.id v.0 ≡ false) (sym c.self.view_is) c.requires.absent))

pub add_to-requires-clause-last : goal.add_to-requires-clause-last
add_to-requires-clause-last g c = c.self.invariant.0.ends c.args.queue (omega (arith, c.self.invariant.1, c.requires.queue))

pub invariant_of-self : goal.invariant_of-self
invariant_of-self g c =
    let rs = c.self.inside.trees in
    let inside : c.args.queue < length rs = omega (arith, c.self.invariant.1, c.requires.queue) in (
      all_after _ _ rs c.args.queue c.add_to.new.tree _ _ _ c.self.invariant.0 inside c.add_to.ensures.gives c.add_to.ensures.last
          (put_once _ rs c.args.queue c.args.id c.self.invariant.0 inside c.args.expires
          (subst (λ v. has_any c.args.id v.0 ≡ false) (sym c.self.view_is) c.requires.absent)),
      length-set rs c.args.queue c.add_to.new.tree ∙ c.self.invariant.1,
    )

pub returns-clause-queues : goal.returns-clause-queues
returns-clause-queues g c =
    let xs = c.self.inside.block in
    let rs = c.self.inside.trees in
    let inside : c.args.queue < length rs = omega (arith, c.self.invariant.1, c.requires.queue) in
    queues_after xs _ rs c.args.queue c.add_to.new.tree _ _ _ c.self.invariant.0 inside c.add_to.ensures.gives c.add_to.ensures.last
    (put_once _ rs c.args.queue c.args.id c.self.invariant.0 inside c.args.expires
    (subst (λ v. has_any c.args.id v.0 ≡ false) (sym c.self.view_is) c.requires.absent))
    ∙ ap (λ q. slice_set (queues_of xs rs) c.args.queue (put c.args.expires c.args.id q)) (sym (queue_in xs rs c.args.queue inside))
    ∙ ap (λ v. slice_set v.0 c.args.queue (put c.args.expires c.args.id (slice_index_or v.0 c.args.queue []))) c.self.view_is

pub returns-clause-steps : goal.returns-clause-steps
returns-clause-steps g c =
    let inside : c.args.queue < length c.self.inside.trees = omega (arith, c.self.invariant.1, c.requires.queue) in
    let few = λ (ps : List (ℕ × ℕ)). (d : ℕ) → length ps + 1 < 2 ^ d → c.add_to.new.steps ≤ c.args.steps.now + 32 * (d + 1) in
    subst (λ v. few (slice_index_or v.0 c.args.queue [])) c.self.view_is
    (subst few (sym (queue_in c.self.inside.block c.self.inside.trees c.args.queue inside)) c.add_to.ensures.gives.count)
