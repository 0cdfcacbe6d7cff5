use Rattle.std.proofs.Common.{take}
use Rattle.lane_run.proofs.Calls.{HasCome, calls_of_lane}
use Rattle.lane_run.proofs.lane.run_lane.Given as goal

abbrev pub invariant-loop-line : goal.invariant-loop-line
invariant-loop-line g l = HasCome l.world l.fn.lane l.lane (calls_of_lane l.fn.lane.label.lane (take l.line-index l.line-items))
