use Rattle.signal_queue.proofs.Opening.{opens}
use Rattle.signal_queue.proofs.signals.Signals.make.Goals as goal

pub ruled-requires-clause-rule : goal.ruled-requires-clause-rule
ruled-requires-clause-rule c = opens
