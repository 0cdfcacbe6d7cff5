use Rattle.std.proofs.Common.{arith, length}
use Rattle.timer_queue.specs.Pairs.{without}
use Rattle.timer_tree.specs.Trees.{queue_at}
use Rattle.timer_tree.specs.Contexts.{Becomes}
use Rattle.timer_tree.proofs.Erasing.{erased, erased_last, takes, taken_can}
use Rattle.timer_tree.proofs.Stores.{has_inside, queue_at-is}
use Rattle.timer_tree.proofs.shared.erase_from.Given.{Over}
use Rattle.timer_tree.proofs.shared.erase_from.Goals as goal

pub read-node-requires : goal.read-node-requires
read-node-requires g c = record { inside = has_inside _ _ _ _ _ c.requires.stored c.requires.present }

pub take_out-broken-requires-clause-inside : goal.take_out-broken-requires-clause-inside
take_out-broken-requires-clause-inside g c = has_inside _ _ _ _ _ c.requires.stored c.requires.present

pub take_out-broken-requires-clause-taking : goal.take_out-broken-requires-clause-taking
take_out-broken-requires-clause-taking g c = (queue_at c.args.block.now c.args.tree.now.root, takes _ _ _ _ _ c.requires.stored c.requires.present)

pub forget-requires : goal.forget-requires
forget-requires g c =
    let taken = c.take_out-broken.ensures (queue_at c.args.block.now c.args.tree.now.root) (takes _ _ _ _ _ c.requires.stored c.requires.present) in
    record { inside = omega (arith, taken.kept.size, has_inside _ _ _ _ _ c.requires.stored c.requires.present) }

pub repair-requires : goal.repair-requires
repair-requires g c =
    let ps = queue_at c.args.block.now c.args.tree.now.root in
    let taken = c.take_out-broken.ensures ps (takes _ _ _ _ _ c.requires.stored c.requires.present) in (
      c.forget.new.block,
      without c.args.id ps,
      length taken.unbalanced.context,
      c.forget.new.steps,
      taken_can _ _ ps _ _ _ _ _ _ _ taken c.forget.ensures.block,
    )

done : (g : Over) (c : goal.After-repair g) → let ps = queue_at c.args.block.now c.args.tree.now.root in
    Becomes ps (without c.args.id ps) c.args.block.now c.repair.new.block c.repair.new.root c.drop_first.new.first c.args.steps.now c.repair.new.steps
done g c =
    let ps = queue_at c.args.block.now c.args.tree.now.root in
    let taking = takes _ _ _ _ ps c.requires.stored c.requires.present in
    erased _ _ _ _ _ ps _ _ _ _ _ _ _ _ _ _ _ _ c.requires.stored taking c.read-node.ensures.node c.drop_first.ensures c.read-node.ensures.steps
    (c.take_out-broken.ensures ps taking) c.forget.ensures.block c.forget.ensures.steps c.repair.ensures

pub returns : goal.returns
returns g c = record {
  last = erased_last _ _ _ _ _ _ _ (takes _ _ _ _ _ c.requires.stored c.requires.present) c.requires.last c.read-node.ensures.node c.drop_last.ensures;
  pairs = queue_at-is _ _ _ (done g c).stored.is_tree;
  gives = done g c;
}
