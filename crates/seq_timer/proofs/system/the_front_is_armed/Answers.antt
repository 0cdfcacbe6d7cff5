use Rattle.seq_timer.proofs.Fronts.{front-armed, front-clear, front-unarmed}
use Rattle.seq_timer.proofs.system.the_front_is_armed.Goals as goal

pub returns-clause-armed : goal.returns-clause-armed
returns-clause-armed c timers base content p agrees is = front-armed timers base content agrees p is

pub returns-clause-unarmed : goal.returns-clause-unarmed
returns-clause-unarmed c timers base content agrees none t = front-unarmed timers base content agrees none t

pub returns-clause-clear : goal.returns-clause-clear
returns-clause-clear c = front-clear
