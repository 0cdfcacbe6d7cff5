use Rattle.posix_timer.proofs.QueuedAsKind.{queued_is_a_kind}
use Rattle.posix_timer.proofs.laws.queued_timers_are_a_kind.Goals as goal

pub returns : goal.returns
returns c = queued_is_a_kind
