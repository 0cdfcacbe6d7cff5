use Rattle.trace_check.proofs.Histories.{first_misfit_first}
use Rattle.trace_check.proofs.laws.the_first_misfit_ends_all_histories.Goals as goal

pub returns : goal.returns
returns c = λ es n cause is. first_misfit_first es n cause is
