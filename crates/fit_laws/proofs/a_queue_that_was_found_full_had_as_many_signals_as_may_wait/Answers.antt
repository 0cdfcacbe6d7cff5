use Rattle.fit_laws.proofs.SignalLaws.{found_full}
use Rattle.fit_laws.proofs.a_queue_that_was_found_full_had_as_many_signals_as_may_wait.Goals as goal

pub returns : goal.returns
returns c = found_full
