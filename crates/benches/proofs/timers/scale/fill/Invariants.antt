use Rattle.std.proofs.Common.{◌≡◌}
use Rattle.benches.specs.WorkingTimers.{IsUnclaimed}
use Rattle.benches.proofs.timers.scale.fill.Given as goal

abbrev pub invariant-loop-timer : goal.invariant-loop-timer
invariant-loop-timer g l = record { ready : IsUnclaimed l.timers l.pass; id : l.pass.known.id ≡ l.fn.pass.known.id }
