use Rattle.std.proofs.Common.{◌≡◌}
use Rattle.timer_objects.proofs.objects.Objects.clock_was_set.Given as goal

abbrev pub invariant-loop-id : goal.invariant-loop-id
invariant-loop-id g l = record {
  rung : l.rung ≡ l.id;
}
