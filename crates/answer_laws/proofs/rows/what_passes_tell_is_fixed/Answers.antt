use Rattle.std.proofs.Common.{sym, ◌∙◌}
use Rattle.answer_laws.proofs.RowCalls.{looks_once}
use Rattle.answer_laws.proofs.rows.what_passes_tell_is_fixed.Goals as goal

pub returns : goal.returns
returns g c = record {
  looks = λ p q r a b. looks_once p q r a b;
  meets = λ a b p q p' q' x y. (looks_once a p p' x.first y.first, looks_once b q q' x.second y.second);
  retires = λ a b p q x y. record { id = x.id ∙ sym y.id; mine = x.mine ∙ sym y.mine };
}
