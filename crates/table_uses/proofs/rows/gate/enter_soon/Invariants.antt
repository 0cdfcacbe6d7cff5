use Rattle.counted_row.specs.Views.{IsPassOfRow, Sees}
use Rattle.table_uses.proofs.rows.gate.enter_soon.Given as goal

abbrev pub invariant-loop : goal.invariant-loop
invariant-loop g l = record {
  row : IsPassOfRow l.row l.pass;
  sees : Sees l.fn.pass l.pass;
}
