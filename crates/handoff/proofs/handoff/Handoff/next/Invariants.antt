use Rattle.handoff.specs.Seated.{AwaitsWork}
use Rattle.handoff.proofs.handoff.Handoff.next.Given as goal

abbrev pub invariant-loop : goal.invariant-loop
invariant-loop g l = record {
  can : (goal.iterator-loop g).can_next l.iterator';
  ends : (goal.iterator-loop g).is_finite l.iterator';
  ready : AwaitsWork l.self l.worker;
}
