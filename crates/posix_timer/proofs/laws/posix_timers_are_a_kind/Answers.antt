use Rattle.posix_timer.proofs.AsKind.{posix_is_a_kind}
use Rattle.posix_timer.proofs.laws.posix_timers_are_a_kind.Goals as goal

pub returns : goal.returns
returns c = posix_is_a_kind
