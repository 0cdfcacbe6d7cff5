use Rattle.std.proofs.Common.{◌≡◌}
use Rattle.timer_objects.specs.BlockingReads.{descriptors_below}
use Rattle.timer_objects.proofs.readers.Bells.of_descriptors.Given as goal

abbrev pub invariant-loop-id : goal.invariant-loop-id
invariant-loop-id l = l.readers.items ≡ descriptors_below l.decls l.id
