use Rattle.answer_laws.proofs.HandlerCalls.{trigger_once}
use Rattle.answer_laws.proofs.handlers.a_trigger_is_fixed.Goals as goal

pub returns : goal.returns
returns c = trigger_once
