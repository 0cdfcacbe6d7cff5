use Rattle.answer_laws.proofs.PlainStarts.{plain_start_once}
use Rattle.answer_laws.proofs.timers.a_start_while_bases_stay_is_fixed.Goals as goal

pub returns : goal.returns
returns c = λ o v w w' t asked a a' p q knows knows' stay stay' e. plain_start_once o v w w' t asked knows knows' stay stay' a a' p q e
