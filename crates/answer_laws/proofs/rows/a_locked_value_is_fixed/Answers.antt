use Rattle.answer_laws.proofs.RowCalls.{locks_once}
use Rattle.answer_laws.proofs.rows.a_locked_value_is_fixed.Goals as goal

pub returns : goal.returns
returns g c = λ p q r i h k a b e. locks_once _ p q r i h k a b e
