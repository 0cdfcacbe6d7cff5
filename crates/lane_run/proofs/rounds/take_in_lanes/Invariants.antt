use Rattle.std.specs.Prelude.{vec_len}
use Rattle.lane_run.proofs.Taking.{TakesSoFar}
use Rattle.lane_run.proofs.rounds.take_in_lanes.Given as goal

abbrev pub invariant-loop-lane : goal.invariant-loop-lane
invariant-loop-lane g l = TakesSoFar l.world l.fn.main l.fn.left l.fn.lanes.items l.lanes.items l.main l.left l.wants_memory

abbrev pub decreases-loop-lane : goal.decreases-loop-lane
decreases-loop-lane g l = vec_len l.lanes
