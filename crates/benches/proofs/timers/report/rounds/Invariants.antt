use Rattle.benches.specs.WorkingTimers.{AreTwoPasses}
use Rattle.benches.proofs.timers.report.rounds.Given as goal

abbrev pub invariant-loop : goal.invariant-loop
invariant-loop g l = AreTwoPasses l.timers l.first l.second
