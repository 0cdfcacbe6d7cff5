use Rattle.timer_objects.proofs.Starting.{starts_of}
use Rattle.timer_objects.proofs.arming.arm.Goals as goal

pub returns-in-Started-clause-arms : goal.returns-in-Started-clause-arms
returns-in-Started-clause-arms g c = rw (c.in-Some.is) (starts_of _ _ _ _ _ _ _ _ _ _ c.in-Started.ensures.starts)

pub returns-in-Spent-clause-arms : goal.returns-in-Spent-clause-arms
returns-in-Spent-clause-arms g c = rw (c.in-Some.is) (starts_of _ _ _ _ _ _ _ _ _ _ c.in-Spent.ensures.starts)
