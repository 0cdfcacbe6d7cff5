use Rattle.signal_queue.proofs.Turning.{learns, pushes}
use Rattle.signal_queue.proofs.ring.push_lent.Goals as goal

pub push_as-requires-clause-rule : goal.push_as-requires-clause-rule
push_as-requires-clause-rule g c = (pushes _ _ c.requires.live _ _ c.requires.end.0 c.requires.end.1 c.requires.room, learns _ _ c.requires.live)
