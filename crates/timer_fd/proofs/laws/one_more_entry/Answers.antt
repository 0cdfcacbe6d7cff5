use Rattle.std.proofs.Common.{[], ◌∷◌}
use Rattle.timer_setting.proofs.Calls.{AreCalls-append, after_calls-append}
use Rattle.timer_fd.specs.States.{fd_opening}
use Rattle.timer_fd.specs.Steps.{fd_table}
use Rattle.timer_fd.proofs.laws.one_more_entry.Goals as goal

pub returns-clause-legal : goal.returns-clause-legal
returns-clause-legal c = λ clock base limit history entry legal allows reply.
    AreCalls-append fd_table (fd_opening clock base limit) history (entry ∷ []) legal (allows, reply, tt)

pub returns-clause-state : goal.returns-clause-state
returns-clause-state c = λ clock base limit history entry. after_calls-append fd_table (fd_opening clock base limit) history (entry ∷ [])
