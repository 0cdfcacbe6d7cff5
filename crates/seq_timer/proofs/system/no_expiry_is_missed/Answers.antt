use Rattle.seq_timer.specs.Systems.{system_of}
use Rattle.seq_timer.specs.Tables.{in_context}
use Rattle.seq_timer.proofs.Agreement.{soft_within, soft_within_context}
use Rattle.seq_timer.proofs.Due.{stopped-unreached}
use Rattle.seq_timer.proofs.system.no_expiry_is_missed.Goals as goal

pub returns-clause-soft : goal.returns-clause-soft
returns-clause-soft c terms list log t = soft_within terms list log t

pub returns-clause-stopped : goal.returns-clause-stopped
returns-clause-stopped c terms list log x base reading clock stopped t kept =
    stopped-unreached (in_context x (system_of list terms log).timers) base reading clock (soft_within_context terms list log x) stopped t kept
