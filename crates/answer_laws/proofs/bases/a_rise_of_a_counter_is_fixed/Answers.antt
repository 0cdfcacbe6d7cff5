use Rattle.answer_laws.proofs.BaseCalls.{raises_once, steps_once}
use Rattle.answer_laws.proofs.bases.a_rise_of_a_counter_is_fixed.Goals as goal

pub returns : goal.returns
returns c = record { raises = raises_once; steps = steps_once }
