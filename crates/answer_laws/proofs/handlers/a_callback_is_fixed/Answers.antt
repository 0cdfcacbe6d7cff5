use Rattle.answer_laws.proofs.HandlerCalls.{callback_once}
use Rattle.answer_laws.proofs.handlers.a_callback_is_fixed.Goals as goal

pub returns : goal.returns
returns c = λ o v w w' n r log l l' k a a' p q e. callback_once o v w w' n r log l l' k a a' p q e
