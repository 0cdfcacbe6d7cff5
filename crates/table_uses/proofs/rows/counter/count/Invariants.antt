use Rattle.std.proofs.Common.{◌≤◌}
use Rattle.counted_row.specs.Views.{IsPassOfRow}
use Rattle.table_uses.specs.Counters.{Made}
use Rattle.table_uses.proofs.rows.counter.count.Given as goal

abbrev pub invariant-loop : goal.invariant-loop
invariant-loop g l = record {
  row : IsPassOfRow l.row l.pass;
  made : Made l.index l.made l.fn.pass l.pass;
  most : l.made ≤ l.counter;
}
