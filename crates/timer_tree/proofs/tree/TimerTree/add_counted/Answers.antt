use Rattle.std.proofs.Common.{◌≡◌, ℕ, ◌+◌, ◌*◌, ◌^◌, ◌≤◌, ◌<◌, false, length, sym, subst, ap, ◌∙◌}
use Rattle.timer_queue.specs.Pairs.{put, has_id}
use Rattle.timer_tree.specs.Trees.{last_id, times}
use Rattle.timer_tree.specs.Contexts.{AreUnranked}
use Rattle.timer_tree.proofs.Stores.{free_alone, queue_again}
use Rattle.timer_tree.proofs.tree.TimerTree.add_counted.Goals as goal

pub add_to-requires : goal.add_to-requires
add_to-requires g c = record {
  stored = c.self.invariant.0;
  last = c.self.invariant.2;
  absent = subst (λ v. has_id c.args.id v.0 ≡ false) (sym c.self.view_is) c.requires.absent;
  below = subst (λ v. c.args.id < v.1) (sym c.self.view_is) c.requires.below;
}

pub invariant_of-self : goal.invariant_of-self
invariant_of-self g c = (
  queue_again _ _ _ _ c.add_to.ensures.gives.stored,
  subst (λ ps. AreUnranked c.add_to.new.block (λ k. times k ps)) (sym c.add_to.ensures.pairs) (free_alone c.add_to.ensures.gives c.self.invariant.1),
  c.add_to.ensures.last ∙ ap last_id (sym c.add_to.ensures.pairs),
)

pub returns : goal.returns
returns g c = record {
  pairs = c.add_to.ensures.pairs ∙ ap (λ v. put c.args.expires c.args.id v.0) c.self.view_is;
  bound = c.add_to.ensures.gives.kept.size ∙ ap (λ v. v.1) c.self.view_is;
  kept = (invariant_of-self g c).0.queue;
  steps = subst (λ v. (d : ℕ) → length v.0 + 1 < 2 ^ d → c.add_to.new.steps ≤ c.args.steps.now + 32 * (d + 1)) c.self.view_is c.add_to.ensures.gives.count;
}
