use Rattle.std.proofs.Common.{sym, ◌∙◌}
use Rattle.answer_laws.proofs.Outcomes.{looked_once, own_same}
use Rattle.answer_laws.proofs.timers.what_passes_of_timers_tell_is_fixed.Goals as goal

pub returns : goal.returns
returns c = record {
  looks = λ v w w' a b. looked_once v v w w' (own_same v) a b;
  meets = λ v u p q p' q' a b. (looked_once v v p p' (own_same v) a.first b.first, looked_once u u q q' (own_same u) a.second b.second);
  retires = λ v u w w' a b. record { mine = a.mine ∙ sym b.mine; id = a.id ∙ sym b.id; claims = a.claims ∙ sym b.claims };
}
