use Rattle.timer_fd.proofs.AsKind.{fd_is_a_kind}
use Rattle.timer_fd.proofs.laws.descriptors_are_a_kind.Goals as goal

pub returns : goal.returns
returns c = fd_is_a_kind
