use Rattle.fit_laws.proofs.SignalLaws.{found_empty}
use Rattle.fit_laws.proofs.a_queue_that_was_found_empty_had_no_signal_that_was_sent_before.Goals as goal

pub returns : goal.returns
returns c = found_empty
