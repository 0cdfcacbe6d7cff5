use Rattle.counted_row.specs.Views.{IsPassOfRow}
use Rattle.table_uses.specs.Counters.{Made}
use Rattle.benches.proofs.rows.turns.look.Given as goal

abbrev pub invariant-loop : goal.invariant-loop
invariant-loop g l = record {
  row : IsPassOfRow l.row l.pass;
  none : Made l.index 0 l.fn.pass l.pass;
}
