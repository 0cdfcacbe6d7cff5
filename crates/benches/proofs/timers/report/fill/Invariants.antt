use Rattle.std.proofs.Common.{◌+◌, ◌*◌, ◌≤◌}
use Rattle.benches.specs.WorkingTimers.{IsUnclaimed, MadeEntries}
use Rattle.benches.proofs.timers.report.fill.Given as goal

abbrev pub invariant-loop-timer : goal.invariant-loop-timer
invariant-loop-timer g l = record {
  ready : IsUnclaimed l.timers l.pass;
  worked : MadeEntries l.made l.fn.pass l.pass;
  most : l.made + 6 ≤ 3 * l.timer;
}
