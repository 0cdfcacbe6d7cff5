use Rattle.lane_run.proofs.Crewing.{EndsSoFar}
use Rattle.lane_run.proofs.crew.end_all.Given as goal

abbrev pub invariant-loop-number : goal.invariant-loop-number
invariant-loop-number l = EndsSoFar l.handoffs.items l.givers.items l.number
