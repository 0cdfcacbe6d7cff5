use Rattle.handoff.specs.Seated.{AwaitsWork}
use Rattle.lane_run.proofs.crew.serve.Given as goal

abbrev pub invariant-loop : goal.invariant-loop
invariant-loop g l = record {
  can : (goal.iterator-loop g).can_next l.iterator';
  ends : (goal.iterator-loop g).is_finite l.iterator';
  ready : AwaitsWork l.handoff l.worker;
}
