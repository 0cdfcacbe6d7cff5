use Rattle.trace_check.proofs.Histories.{fits_without_misfit, fitting_fits}
use Rattle.trace_check.proofs.laws.a_trace_fits_exactly_where_no_event_is_a_misfit.Goals as goal

pub returns : goal.returns
returns c = λ es. (fits_without_misfit es, fitting_fits es)
