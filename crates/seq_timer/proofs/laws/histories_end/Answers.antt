use Rattle.seq_timer.proofs.Limits.{legal_few, legal_short, legal_within}
use Rattle.seq_timer.proofs.laws.histories_end.Goals as goal

pub returns-clause-limit : goal.returns-clause-limit
returns-clause-limit c = legal_few

pub returns-clause-reach : goal.returns-clause-reach
returns-clause-reach c = legal_within

pub returns-clause-stamp : goal.returns-clause-stamp
returns-clause-stamp c = legal_short
