use Rattle.sleeper.proofs.AsKind.{sleeper_is_a_kind}
use Rattle.sleeper.proofs.laws.sleepers_are_a_kind.Goals as goal

pub returns : goal.returns
returns c = sleeper_is_a_kind
