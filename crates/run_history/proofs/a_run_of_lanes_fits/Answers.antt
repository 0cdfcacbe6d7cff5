use Rattle.run_history.proofs.Run.{run_fits}
use Rattle.run_history.proofs.a_run_of_lanes_fits.Goals as goal

pub returns : goal.returns
returns c = run_fits
