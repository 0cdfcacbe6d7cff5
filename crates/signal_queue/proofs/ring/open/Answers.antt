use Rattle.signal_queue.proofs.Splitting.{opens_ends}
use Rattle.signal_queue.proofs.ring.open.Goals as goal

pub another-requires-clause-rule : goal.another-requires-clause-rule
another-requires-clause-rule g c = opens_ends _ _ _ c.requires.first
