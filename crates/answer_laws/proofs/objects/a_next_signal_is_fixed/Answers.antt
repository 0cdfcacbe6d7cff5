use Rattle.answer_laws.proofs.NextCalls.{next_once}
use Rattle.answer_laws.proofs.objects.a_next_signal_is_fixed.Goals as goal

pub returns : goal.returns
returns c = λ x o old new new' s t t' reading a a' p q e at. next_once x o old s reading new new' t t' a a' p q e at
