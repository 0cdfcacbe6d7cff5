use Rattle.answer_laws.proofs.NowCalls.{now_once}
use Rattle.answer_laws.proofs.timers.a_cancel_now_is_fixed.Goals as goal

pub returns : goal.returns
returns c = λ o fresh p q q' t a a' x y knows e f. now_once o t p q q' fresh knows a a' x y e f
