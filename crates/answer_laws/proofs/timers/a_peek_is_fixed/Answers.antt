use Rattle.answer_laws.proofs.Outcomes.{own_same}
use Rattle.answer_laws.proofs.TimerCalls.{peek_once}
use Rattle.answer_laws.proofs.timers.a_peek_is_fixed.Goals as goal

pub returns : goal.returns
returns c = λ o v w w' t p p' x y e. peek_once o v v w w' (own_same v) t p p' x y e
