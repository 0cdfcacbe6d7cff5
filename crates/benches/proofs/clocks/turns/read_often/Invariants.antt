use Rattle.clock_cell.specs.Views.{IsPassOfClock}
use Rattle.benches.specs.Turns.{Read}
use Rattle.benches.proofs.clocks.turns.read_often.Given as goal

abbrev pub invariant-loop : goal.invariant-loop
invariant-loop g l = record {
  pass : IsPassOfClock l.clock l.pass;
  read : Read l.fn.pass.knows l.pass.knows;
}
