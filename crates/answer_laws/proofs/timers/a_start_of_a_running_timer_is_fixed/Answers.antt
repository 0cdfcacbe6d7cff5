use Rattle.answer_laws.proofs.PlainStarts.{running_start_once}
use Rattle.answer_laws.proofs.timers.a_start_of_a_running_timer_is_fixed.Goals as goal

pub returns : goal.returns
returns c = running_start_once
