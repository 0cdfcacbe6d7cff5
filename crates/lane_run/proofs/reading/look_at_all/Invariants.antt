use Rattle.lane_run.proofs.Looking.{LookedAt}
use Rattle.lane_run.proofs.reading.look_at_all.Given as goal

abbrev pub invariant-loop-id : goal.invariant-loop-id
invariant-loop-id g l = LookedAt l.world l.fn.main l.main l.id
