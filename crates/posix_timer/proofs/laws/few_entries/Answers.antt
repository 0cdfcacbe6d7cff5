use Rattle.std.proofs.Common.{arith}
use Rattle.timer_setting.proofs.Calls.{AreCalls-length}
use Rattle.posix_timer.specs.States.{posix_opening}
use Rattle.posix_timer.specs.Steps.{posix_table}
use Rattle.posix_timer.proofs.Histories.{posix_counts}
use Rattle.posix_timer.proofs.laws.few_entries.Goals as goal

pub returns : goal.returns
returns c = λ clock base limit history legal.
    let few = AreCalls-length posix_table (λ t. t.stamp) (λ t. t.limit) posix_counts (posix_opening clock base limit) history (omega arith) legal in
    omega (arith, few)
