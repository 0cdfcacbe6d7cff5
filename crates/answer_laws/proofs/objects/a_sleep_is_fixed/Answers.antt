use Rattle.answer_laws.proofs.AnewCalls.{sleep_once}
use Rattle.answer_laws.proofs.objects.a_sleep_is_fixed.Goals as goal

pub returns : goal.returns
returns c = λ x o old new new' id flags time reading a a' p q at. sleep_once x o old id flags time reading new new' a a' p q at
