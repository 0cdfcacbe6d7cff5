use Rattle.answer_laws.proofs.AnewCalls.{interrupt_once}
use Rattle.answer_laws.proofs.objects.an_interrupt_is_fixed.Goals as goal

pub returns : goal.returns
returns c = λ x o old new new' id reading a a' p q at. interrupt_once x o old id reading new new' a a' p q at
