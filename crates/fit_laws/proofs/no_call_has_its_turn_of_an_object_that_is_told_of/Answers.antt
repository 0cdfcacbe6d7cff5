use Rattle.fit_laws.proofs.ObjectTurns.{turn_ended}
use Rattle.fit_laws.proofs.no_call_has_its_turn_of_an_object_that_is_told_of.Goals as goal

pub returns : goal.returns
returns c = turn_ended
