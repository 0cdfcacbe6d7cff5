use Rattle.answer_laws.proofs.RearmCalls.{gettime_once}
use Rattle.answer_laws.proofs.objects.a_gettime_is_fixed.Goals as goal

pub returns : goal.returns
returns c = λ x o old new new' id reading kind a a' p q at. gettime_once x o old id reading new new' kind a a' p q at
