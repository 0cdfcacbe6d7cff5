use Rattle.answer_laws.proofs.SignalCalls.{pop_once}
use Rattle.answer_laws.proofs.signals.a_pop_is_fixed.Goals as goal

pub returns : goal.returns
returns c = pop_once
