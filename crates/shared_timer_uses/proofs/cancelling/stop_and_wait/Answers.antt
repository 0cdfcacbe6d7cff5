use Rattle.shared_timer_uses.proofs.Knowing.{cancel_disarms, cancel_idle, cancel_unmade}
use Rattle.shared_timer_uses.proofs.cancelling.stop_and_wait.Goals as goal

pub returns-in-Cancelled-clause-idle : goal.returns-in-Cancelled-clause-idle
returns-in-Cancelled-clause-idle g c = cancel_disarms _ _ _ _ _ _ c.in-Cancelled.ensures.cancels

pub returns-in_default-clause-idle : goal.returns-in_default-clause-idle
returns-in_default-clause-idle g c = cancel_idle _ _ _ _ c.cancel.result c.cancel.ensures.cancels c.cancel.ensures.ended

pub returns-in_default-clause-entries : goal.returns-in_default-clause-entries
returns-in_default-clause-entries g c = cancel_unmade _ _ _ _ c.cancel.result c.cancel.ensures.cancels c.in_default.not-Cancelled
