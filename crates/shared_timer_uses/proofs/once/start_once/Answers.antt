use Rattle.shared_timer_uses.proofs.Knowing.{start_armed, start_expires, start_spent}
use Rattle.shared_timer_uses.proofs.once.start_once.Goals as goal

pub returns-in-Started-clause-armed : goal.returns-in-Started-clause-armed
returns-in-Started-clause-armed g c = start_armed _ _ _ _ _ _ _ _ _ _ _ _ c.in-Started.ensures.starts

pub returns-in-Started-clause-expires : goal.returns-in-Started-clause-expires
returns-in-Started-clause-expires g c = start_expires _ _ _ _ _ _ _ _ _ _ _ _ c.in-Started.ensures.starts

pub returns-in-Spent-clause-full : goal.returns-in-Spent-clause-full
returns-in-Spent-clause-full g c = start_spent _ _ _ _ _ _ _ _ c.in-Spent.ensures.starts
