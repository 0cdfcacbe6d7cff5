use Rattle.run_history.specs.Witnesses.{witness_with}
use Rattle.fit_laws.proofs.ObjectOrder.{objects_called, objects_in_order}
use Rattle.fit_laws.proofs.entries_of_an_object_keep_the_order_of_calls.Goals as goal

pub returns-clause-calls : goal.returns-clause-calls
returns-clause-calls c = λ s r fits. objects_called (witness_with s r fits.0 fits.1 fits.2) fits.3

pub returns-clause-order : goal.returns-clause-order
returns-clause-order c = λ s r fits. objects_in_order (witness_with s r fits.0 fits.1 fits.2) fits.3
