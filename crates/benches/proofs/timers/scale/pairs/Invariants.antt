use Rattle.std.proofs.Common.{◌≡◌}
use Rattle.benches.specs.WorkingTimers.{IsUnclaimed}
use Rattle.benches.proofs.timers.scale.pairs.Given as goal

abbrev pub invariant-loop : goal.invariant-loop
invariant-loop g l = record { ready : IsUnclaimed l.timers l.pass; id : l.pass.known.id ≡ l.fn.pass.known.id }
