use Rattle.std.proofs.Common.{◌≡◌, length}
use Rattle.lane_run.specs.Crews.{IsCrewOf}
use Rattle.lane_run.proofs.crew.make_crew.Given as goal

abbrev pub invariant-loop-number : goal.invariant-loop-number
invariant-loop-number l = record {
  crew : IsCrewOf l.ground l.crew.handoffs.items l.crew.givers.items l.crew.workers.items;
  number : length l.crew.handoffs.items ≡ l._number;
}
