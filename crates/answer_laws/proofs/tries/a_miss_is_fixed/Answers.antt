use Rattle.answer_laws.proofs.TryCalls.{miss_once}
use Rattle.answer_laws.proofs.tries.a_miss_is_fixed.Goals as goal

pub returns : goal.returns
returns c = λ o fresh p q q' t m m' x y knows e f. miss_once o t p q q' fresh knows m m' x y e f
