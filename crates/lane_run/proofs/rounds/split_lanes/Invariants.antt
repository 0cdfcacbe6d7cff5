use Rattle.std.proofs.Common.{◌<◌, ◌+◌, length}
use Rattle.std.specs.Prelude.{vec_capacity, vec_len}
use Rattle.lane_run.proofs.Splitting.{SplitsSoFar}
use Rattle.lane_run.proofs.rounds.split_lanes.Given as goal

abbrev pub invariant-loop-number : goal.invariant-loop-number
invariant-loop-number l = record {
  so_far : SplitsSoFar l.world l.round l.fn.main l.left l.number l.main l.lanes.items;
  room : vec_len l.lanes + length l.left.answers < vec_capacity l.lanes + l.number;
}
