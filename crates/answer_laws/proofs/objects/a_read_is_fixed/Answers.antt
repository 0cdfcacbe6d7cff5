use Rattle.answer_laws.proofs.RearmCalls.{blocking_once, read_once}
use Rattle.answer_laws.proofs.objects.a_read_is_fixed.Goals as goal

pub returns : goal.returns
returns c = record {
  at_once = λ x o old new new' id len reading a a' p q at. read_once x o old id reading len new new' a a' p q at;
  waits = λ x o old new new' id len reading a a' p q at. blocking_once x o old id reading len new new' a a' p q at;
}
