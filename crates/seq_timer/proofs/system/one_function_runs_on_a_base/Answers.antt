use Rattle.seq_timer.proofs.Agreement.{one_runs}
use Rattle.seq_timer.proofs.system.one_function_runs_on_a_base.Goals as goal

pub returns : goal.returns
returns c bases terms list log history base t u first second same = one_runs bases terms list log history base t u first second same
