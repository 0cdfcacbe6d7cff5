use Rattle.signal_queue.proofs.Splitting.{gives}
use Rattle.signal_queue.proofs.ring.give_back.Goals as goal

pub another-requires-clause-rule : goal.another-requires-clause-rule
another-requires-clause-rule c = gives _ _
