use Rattle.signal_queue.proofs.Splitting.{lends}
use Rattle.signal_queue.proofs.ring.lend.Goals as goal

pub absorb-requires-clause-rule : goal.absorb-requires-clause-rule
absorb-requires-clause-rule c =
    let end = c.requires.end.1.1.1 in
    let rests = c.requires.rests in
    lends _ _ _ _ rests.live end.off end.none end.room rests.no_push rests.no_pop
