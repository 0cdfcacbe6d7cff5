use Rattle.std.proofs.Common.{◌≡◌, ℕ, ◌+◌, ◌*◌, ◌^◌, ◌≤◌, ◌<◌, true, length, sym, subst, ap, ◌∙◌}
use Rattle.timer_queue.specs.Pairs.{without, has_id}
use Rattle.timer_tree.specs.Trees.{last_id, times}
use Rattle.timer_tree.specs.Contexts.{AreUnranked}
use Rattle.timer_tree.proofs.Stores.{free_alone, queue_again}
use Rattle.timer_tree.proofs.tree.TimerTree.erase_counted.Goals as goal

pub erase_from-requires : goal.erase_from-requires
erase_from-requires g c = record {
  stored = c.self.invariant.0;
  last = c.self.invariant.2;
  present = subst (λ v. has_id c.args.id v.0 ≡ true) (sym c.self.view_is) c.requires.present;
}

pub invariant_of-self : goal.invariant_of-self
invariant_of-self g c = (
  queue_again _ _ _ _ c.erase_from.ensures.gives.stored,
  subst (λ ps. AreUnranked c.erase_from.new.block (λ k. times k ps)) (sym c.erase_from.ensures.pairs)
      (free_alone c.erase_from.ensures.gives c.self.invariant.1),
  c.erase_from.ensures.last ∙ ap last_id (sym c.erase_from.ensures.pairs),
)

pub returns : goal.returns
returns g c = record {
  pairs = c.erase_from.ensures.pairs ∙ ap (λ v. without c.args.id v.0) c.self.view_is;
  bound = c.erase_from.ensures.gives.kept.size ∙ ap (λ v. v.1) c.self.view_is;
  kept = (invariant_of-self g c).0.queue;
  steps = subst (λ v. (d : ℕ) → length v.0 + 1 < 2 ^ d → c.erase_from.new.steps ≤ c.args.steps.now + 32 * (d + 1))
      c.self.view_is c.erase_from.ensures.gives.count;
}
