use Rattle.std.proofs.Common.{arith}
use Rattle.timer_setting.proofs.Calls.{AreCalls-length}
use Rattle.timer_fd.specs.States.{fd_opening}
use Rattle.timer_fd.specs.Steps.{fd_table}
use Rattle.timer_fd.proofs.Histories.{fd_counts}
use Rattle.timer_fd.proofs.laws.few_entries.Goals as goal

pub returns : goal.returns
returns c = λ clock base limit history legal.
    let few = AreCalls-length fd_table (λ t. t.stamp) (λ t. t.limit) fd_counts (fd_opening clock base limit) history (omega arith) legal in
    omega (arith, few)
