use Rattle.fit_laws.proofs.EachTimer.{fits_for_each_timer}
use Rattle.fit_laws.proofs.a_record_that_fits_is_right_of_each_timer.Goals as goal

pub returns : goal.returns
returns c = fits_for_each_timer
