use Rattle.std.proofs.Common.{◌<◌, [], length, slice_index_or, sym, subst, arith}
use Rattle.timer_queue.specs.Pairs.{IsQueue}
use Rattle.timer_tree.proofs.Forests.{queue_in}
use Rattle.timer_tree.proofs.six.SixTrees.first_counted.Goals as goal

pub returns-clause-kept : goal.returns-clause-kept
returns-clause-kept g c =
    let xs = c.self.inside.block in
    let rs = c.self.inside.trees in
    let inside : c.args.queue < length rs = omega (arith, c.self.invariant.1, c.requires.queue) in
    subst (λ v. IsQueue v.1 (slice_index_or v.0 c.args.queue [])) c.self.view_is
    (subst (IsQueue (length xs)) (sym (queue_in xs rs c.args.queue inside)) (c.self.invariant.0.each c.args.queue inside).queue)
