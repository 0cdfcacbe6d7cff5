use Rattle.answer_laws.proofs.BaseCalls.{front_once}
use Rattle.answer_laws.proofs.bases.a_front_is_fixed.Goals as goal

pub returns : goal.returns
returns c = front_once
