use Rattle.answer_laws.proofs.OfflineCalls.{online_once}
use Rattle.answer_laws.proofs.timers.taking_a_base_on_line_is_fixed.Goals as goal

pub returns : goal.returns
returns c = online_once
