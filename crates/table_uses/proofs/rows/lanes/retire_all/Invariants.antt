use Rattle.std.specs.Prelude.{All, vec_len}
use Rattle.table_uses.specs.Lanes.{IsIdleLane, IsMainPass}
use Rattle.table_uses.proofs.rows.lanes.retire_all.Given as goal

abbrev pub invariant-loop-lane : goal.invariant-loop-lane
invariant-loop-lane l = record {
  lanes : All (λ lane. IsIdleLane l.row lane) l.lanes.items;
  main : IsMainPass l.row l.main l.lanes.items;
}

abbrev pub decreases-loop-lane : goal.decreases-loop-lane
decreases-loop-lane l = vec_len l.lanes
