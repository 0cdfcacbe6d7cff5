use Rattle.benches.specs.Stands.{IsBenchStand}
use Rattle.benches.proofs.objects.report.run.Given as goal

abbrev pub invariant-loop : goal.invariant-loop
invariant-loop g l = IsBenchStand l.stand
