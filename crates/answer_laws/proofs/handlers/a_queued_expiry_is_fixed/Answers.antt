use Rattle.answer_laws.proofs.HandlerCalls.{queued_once}
use Rattle.answer_laws.proofs.handlers.a_queued_expiry_is_fixed.Goals as goal

pub returns : goal.returns
returns c = λ o x p q q' log l l' v w w' s t t' id g r a b at. queued_once o x p log v s id g r q q' l l' w w' t t' a b at
