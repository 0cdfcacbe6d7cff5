use Rattle.benches.specs.Stands.{KeepsStand}
use Rattle.benches.proofs.objects.turns.turns.Given as goal

abbrev pub invariant-loop : goal.invariant-loop
invariant-loop g l = KeepsStand l.fn.stand l.stand
