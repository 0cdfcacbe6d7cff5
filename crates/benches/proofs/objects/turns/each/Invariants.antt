use Rattle.benches.specs.Stands.{KeepsStand}
use Rattle.benches.proofs.objects.turns.each.Given as goal

abbrev pub invariant-loop-id : goal.invariant-loop-id
invariant-loop-id g l = KeepsStand l.fn.stand l.stand
