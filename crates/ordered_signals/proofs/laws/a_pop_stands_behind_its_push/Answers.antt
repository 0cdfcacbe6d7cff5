use Rattle.ordered_signals.proofs.Places.{pushed_first}
use Rattle.ordered_signals.proofs.laws.a_pop_stands_behind_its_push.Goals as goal

pub returns : goal.returns
returns c = λ o old new number there keeps p. pushed_first o old new number there keeps p
