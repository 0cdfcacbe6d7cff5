use Rattle.std.proofs.Common.{◌≤◌}
use Rattle.clock_cell.specs.Views.{IsPassOfClock}
use Rattle.benches.specs.Turns.{Written}
use Rattle.benches.proofs.clocks.turns.write_often.Given as goal

abbrev pub invariant-loop : goal.invariant-loop
invariant-loop g l = record {
  pass : IsPassOfClock l.clock l.pass;
  written : Written l.made l.fn.pass.knows l.pass.knows;
  most : l.made ≤ l.counter;
}
