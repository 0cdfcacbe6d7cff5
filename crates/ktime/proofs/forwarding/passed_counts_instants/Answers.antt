use Rattle.ktime.proofs.Instants.{passed-next}
use Rattle.ktime.proofs.forwarding.passed_counts_instants.Goals as goal

pub returns : goal.returns
returns c = passed-next
