use Rattle.std.specs.Prelude.{vec_len}
use Rattle.lane_run.proofs.rounds.+share_lanes.Given as goal

abbrev pub decreases-share_lanes : goal.decreases-share_lanes
decreases-share_lanes g l = vec_len l.givers.now
