use Rattle.answer_laws.proofs.ClockCalls.{write_once}
use Rattle.answer_laws.proofs.clocks.a_write_is_fixed.Goals as goal

pub returns : goal.returns
returns c = write_once
