use Rattle.std.proofs.Common.{List, ℕ}
use Rattle.timer_queue.specs.Pairs.{put}
use Rattle.timer_tree.specs.declared.node.Node.{Node}
use Rattle.timer_tree.specs.declared.add.Link.{Link}
use Rattle.timer_tree.specs.Trees.{queue_at}
use Rattle.timer_tree.specs.Contexts.{Becomes}
use Rattle.timer_tree.proofs.Adding.{added, added_last, inserted_can}
use Rattle.timer_tree.proofs.Stores.{queue_at-is}
use Rattle.timer_tree.proofs.shared.add_to.Given.{Over}
use Rattle.timer_tree.proofs.shared.add_to.Goals as goal

pub find-parent-requires : goal.find-parent-requires
find-parent-requires g c = (queue_at c.args.block.now c.args.tree.now.root, c.requires.stored.is_tree, c.requires.last)

pub settle-requires : goal.settle-requires
settle-requires g c =
    let ps = queue_at c.args.block.now c.args.tree.now.root in
    let found = c.find-parent.ensures.place ps c.requires.stored.is_tree c.requires.last in
    let new : List Node × ℕ × Link = (c.insert-link.new.block, c.insert-link.new.root, c.insert-link.result) in
    let can = inserted_can _ _ _ _ _ _ ps _ _ new c.requires.stored c.requires.absent c.requires.below found c.insert-link.ensures.block in (put c.args.expires c.args.id ps, can.0, can.1)

done : (g : Over) (c : goal.After-settle g) → let ps = queue_at c.args.block.now c.args.tree.now.root in
    Becomes ps (put c.args.expires c.args.id ps) c.args.block.now c.settle.new.block c.settle.new.root c.put_first.new.first c.args.steps.now
    c.settle.new.steps
done g c =
    let ps = queue_at c.args.block.now c.args.tree.now.root in
    added _ _ _ _ _ _ ps _ _ (c.insert-link.new.block, c.insert-link.new.root, c.insert-link.result) c.requires.stored
    c.requires.absent c.requires.below (c.find-parent.ensures.place ps c.requires.stored.is_tree c.requires.last) c.insert-link.ensures.block _ _ _ _ _
    c.insert-link.ensures.steps c.settle.ensures c.put_first.ensures

pub returns : goal.returns
returns g c = record {
  last = let ps = queue_at c.args.block.now c.args.tree.now.root in
      added_last _ _ _ _ _ _ ps _ _ (c.insert-link.new.block, c.insert-link.new.root, c.insert-link.result) c.requires.stored
      c.requires.absent c.requires.below (c.find-parent.ensures.place ps c.requires.stored.is_tree c.requires.last) c.insert-link.ensures.block _ _
      c.requires.last c.put_last.ensures;
  pairs = queue_at-is _ _ _ (done g c).stored.is_tree;
  gives = done g c;
}
