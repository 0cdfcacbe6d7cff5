use Rattle.pass_names.proofs.Names.{answers_split}
use Rattle.pass_names.proofs.laws.a_pass_answers_for_its_split.Goals as goal

pub returns : goal.returns
returns c = answers_split
