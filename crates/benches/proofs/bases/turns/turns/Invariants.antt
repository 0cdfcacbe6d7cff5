use Rattle.std.proofs.Common.{◌*◌, ◌≤◌}
use Rattle.benches.specs.WorkingBases.{IsReady, Worked}
use Rattle.benches.proofs.bases.turns.turns.Given as goal

abbrev pub invariant-loop : goal.invariant-loop
invariant-loop g l = record {
  ready : IsReady l.row l.pass;
  worked : Worked l.made l.counter l.fn.pass.knows l.pass.knows;
  most : l.made ≤ 2 * l.counter;
}
