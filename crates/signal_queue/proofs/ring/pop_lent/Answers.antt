use Rattle.signal_queue.proofs.Turning.{learns, pops}
use Rattle.signal_queue.proofs.ring.pop_lent.Goals as goal

pub pop_as-requires-clause-rule : goal.pop_as-requires-clause-rule
pop_as-requires-clause-rule g c = (pops _ _ c.requires.live c.requires.end.0 c.requires.end.1, learns _ _ c.requires.live)
