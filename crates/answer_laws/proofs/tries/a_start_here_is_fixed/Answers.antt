use Rattle.answer_laws.proofs.TryCalls.{elsewhere_once, here_once}
use Rattle.answer_laws.proofs.tries.a_start_here_is_fixed.Goals as goal

pub returns : goal.returns
returns c = record { tried = here_once; elsewhere = elsewhere_once }
