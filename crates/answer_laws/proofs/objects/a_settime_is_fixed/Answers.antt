use Rattle.answer_laws.proofs.AnewCalls.{settime_once}
use Rattle.answer_laws.proofs.objects.a_settime_is_fixed.Goals as goal

pub returns : goal.returns
returns c = λ x o old new new' id flags value interval reading a a' p q at. settime_once x o old id flags value interval reading new new' a a' p q at
