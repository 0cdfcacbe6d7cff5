use Rattle.std.proofs.Common.{◌*◌, ◌≤◌}
use Rattle.benches.specs.WorkingTimers.{IsUnclaimed, MadeEntries}
use Rattle.benches.proofs.timers.turns.turns.Given as goal

abbrev pub invariant-loop : goal.invariant-loop
invariant-loop g l = record {
  ready : IsUnclaimed l.timers l.pass;
  worked : MadeEntries l.made l.fn.pass l.pass;
  most : l.made ≤ 5 * l.counter;
}
