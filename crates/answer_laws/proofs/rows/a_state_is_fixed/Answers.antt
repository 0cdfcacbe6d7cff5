use Rattle.std.proofs.Common.{refl}
use Rattle.answer_laws.proofs.RowCalls.{state_once}
use Rattle.answer_laws.proofs.rows.a_state_is_fixed.Goals as goal

pub returns : goal.returns
returns g c = λ made i log x y a b. state_once _ made made i log log x y refl refl a b
