use Rattle.std.proofs.Common.{◌≡◌, replicate, []}
use Rattle.lane_run.proofs.running.no_answers.Given as goal

abbrev pub invariant-loop-lane : goal.invariant-loop-lane
invariant-loop-lane l = l.answers.items ≡ replicate l._lane []
