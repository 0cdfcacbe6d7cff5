use Rattle.std.proofs.Common.{◌≡◌, ◌∙◌, ap, arith, length, replicate, []}
use Rattle.timer_queue.proofs.Several.{pairs_of-empty, capacities_of-empty}
use Rattle.timer_queue.proofs.six_lists.SixListsSixQueues.make.Goals as goal

pub returns-clause-queues : goal.returns-clause-queues
returns-clause-queues c =
    let six : length c.loop.lists.items ≡ 6 = omega (arith, c.loop.invariant.count, c.loop.invariant.few, c.loop-test.false) in
    pairs_of-empty c.args.room _ c.loop.invariant.each ∙ ap (λ n. replicate n []) six

pub returns-clause-capacity : goal.returns-clause-capacity
returns-clause-capacity c = capacities_of-empty c.args.room _ c.loop.invariant.each
