use Rattle.std.proofs.Common.{arith}
use Rattle.timer_setting.proofs.Calls.{AreCalls-length}
use Rattle.sleeper.specs.States.{sleeper_opening}
use Rattle.sleeper.specs.Steps.{sleeper_table}
use Rattle.sleeper.proofs.Histories.{sleeper_counts}
use Rattle.sleeper.proofs.laws.few_entries.Goals as goal

pub returns : goal.returns
returns c = λ clock base limit history legal.
    let few = AreCalls-length sleeper_table (λ s. s.stamp) (λ s. s.limit) sleeper_counts (sleeper_opening clock base limit) history (omega arith) legal in
    omega (arith, few)
