use Rattle.handoff.specs.Seated.{AwaitsWork}
use Rattle.table_uses.proofs.handing.adding.work.Given as goal

abbrev pub invariant-loop : goal.invariant-loop
invariant-loop g l = record {
  worker : AwaitsWork l.handoff l.worker;
  goes : (goal.iterator-loop g).can_next l.iterator' × (goal.iterator-loop g).is_finite l.iterator';
}
