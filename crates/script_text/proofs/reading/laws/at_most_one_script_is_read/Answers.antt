use Rattle.script_text.proofs.Laws.{one_script}
use Rattle.script_text.proofs.reading.laws.at_most_one_script_is_read.Goals as goal

pub returns : goal.returns
returns c = one_script
