use Rattle.trace_read.proofs.Meanings.{fit_answered}
use Rattle.trace_read.proofs.laws.what_fits_is_answered_so.Goals as goal

pub returns : goal.returns
returns c = fit_answered
