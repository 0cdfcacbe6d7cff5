use Rattle.fit_laws.proofs.SignalLaws.{signal_named_once, signal_sent}
use Rattle.fit_laws.proofs.a_signal_that_is_named_was_sent.Goals as goal

pub returns-clause-sent : goal.returns-clause-sent
returns-clause-sent c = signal_sent

pub returns-clause-once : goal.returns-clause-once
returns-clause-once c = signal_named_once
