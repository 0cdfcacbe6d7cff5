use Rattle.hr_timers.proofs.moving.+bring.Given as goal

abbrev pub decreases-bring : goal.decreases-bring
decreases-bring g l = l.asked.now.base
