use Rattle.std.proofs.Common.{◌≡◌, length}
use Rattle.std.specs.Prelude.{All}
use Rattle.table_uses.specs.Lanes.{IsIdleLane, IsMainPass}
use Rattle.table_uses.proofs.rows.lanes.lanes_of.Given as goal

abbrev pub invariant-loop : goal.invariant-loop
invariant-loop l = record {
  count : length l.all.items ≡ l.counter;
  lanes : All (λ lane. IsIdleLane l.row lane) l.all.items;
  main : IsMainPass l.row l.main l.all.items;
}
