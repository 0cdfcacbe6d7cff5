use Rattle.std.proofs.Common.{arith}
use Rattle.std.proofs.lemmas.Bool.Decides.{nat_tests}
use Rattle.timer_queue.specs.Pairs.{without}
use Rattle.timer_queue.proofs.Pairs.{has_id-expiry_of, expiry_of-without}
use Rattle.benches.proofs.trees.moves.restart.Goals as goal

pub add-requires-clause-absent : goal.add-requires-clause-absent
add-requires-clause-absent g c =
    let id = c.args.id in
    let ps = g.Q.Queue.pairs c.args.queue.now in
    rw (c.erase.ensures.pairs, has_id-expiry_of id (without id ps)) (grind (arith, nat_tests, expiry_of-without id id ps))
