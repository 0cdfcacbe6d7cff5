use Rattle.std.specs.Prelude.{vec_len}
use Rattle.lane_run.specs.Crews.{AllHaveEnded}
use Rattle.lane_run.proofs.crew.close_all.Given as goal

abbrev pub invariant-loop-handoff : goal.invariant-loop-handoff
invariant-loop-handoff l = AllHaveEnded l.handoffs.items l.givers.items

abbrev pub decreases-loop-handoff : goal.decreases-loop-handoff
decreases-loop-handoff l = vec_len l.handoffs
