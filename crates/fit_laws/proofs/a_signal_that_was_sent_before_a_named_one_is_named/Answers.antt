use Rattle.fit_laws.proofs.SignalLaws.{signals_in_turn}
use Rattle.fit_laws.proofs.a_signal_that_was_sent_before_a_named_one_is_named.Goals as goal

pub returns : goal.returns
returns c = signals_in_turn
