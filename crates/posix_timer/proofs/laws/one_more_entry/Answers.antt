use Rattle.std.proofs.Common.{[], ◌∷◌}
use Rattle.timer_setting.proofs.Calls.{AreCalls-append, after_calls-append}
use Rattle.posix_timer.specs.States.{posix_opening}
use Rattle.posix_timer.specs.Steps.{posix_table}
use Rattle.posix_timer.proofs.laws.one_more_entry.Goals as goal

pub returns-clause-legal : goal.returns-clause-legal
returns-clause-legal c = λ clock base limit history entry legal allows reply.
    AreCalls-append posix_table (posix_opening clock base limit) history (entry ∷ []) legal (allows, reply, tt)

pub returns-clause-state : goal.returns-clause-state
returns-clause-state c = λ clock base limit history entry. after_calls-append posix_table (posix_opening clock base limit) history (entry ∷ [])
