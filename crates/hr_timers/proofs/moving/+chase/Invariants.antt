use Rattle.hr_timers.proofs.moving.+chase.Given as goal

abbrev pub decreases-chase : goal.decreases-chase
decreases-chase l = l.base
