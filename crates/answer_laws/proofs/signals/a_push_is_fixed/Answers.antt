use Rattle.answer_laws.proofs.SignalCalls.{push_once}
use Rattle.answer_laws.proofs.signals.a_push_is_fixed.Goals as goal

pub returns : goal.returns
returns c = push_once
