use Rattle.answer_laws.proofs.TryCalls.{next_once}
use Rattle.answer_laws.proofs.tries.a_look_at_a_queue_is_fixed.Goals as goal

pub returns : goal.returns
returns c = next_once
