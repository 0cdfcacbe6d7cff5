use Rattle.answer_laws.proofs.TryCalls.{send_once, spent_once, stays_once}
use Rattle.answer_laws.proofs.tries.a_send_is_fixed.Goals as goal

pub returns : goal.returns
returns c = record { sent = send_once; spent = spent_once; stays = stays_once }
