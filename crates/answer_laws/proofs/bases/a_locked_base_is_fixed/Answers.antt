use Rattle.answer_laws.proofs.BaseCalls.{gets_once}
use Rattle.answer_laws.proofs.bases.a_locked_base_is_fixed.Goals as goal

pub returns : goal.returns
returns c = gets_once
