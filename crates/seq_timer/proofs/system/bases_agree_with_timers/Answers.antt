use Rattle.seq_timer.proofs.Agreement.{all_agree}
use Rattle.seq_timer.proofs.system.bases_agree_with_timers.Goals as goal

pub returns : goal.returns
returns c bases terms list log history base = (all_agree bases terms list log history).contents base
