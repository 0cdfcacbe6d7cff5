use Rattle.answer_laws.proofs.RearmCalls.{accept_once}
use Rattle.answer_laws.proofs.objects.an_accept_is_fixed.Goals as goal

pub returns : goal.returns
returns c = λ x o old new new' id reading a a' p q at. accept_once x o old id reading new new' a a' p q at
