-- Lanes, each with a pass of its own.
use Rattle.std.specs.Prelude.{◌≡◌, ℕ, List, [], None, map}
use Rattle.pass_names.specs.Names.{Covers}
use Rattle.counted_row.specs.Views.{RowOf, PassOfRow, IsPassOfRow}
use Rattle.table_uses.specs.declared.rows.counter.Counter.{Counter}
use Rattle.table_uses.specs.declared.rows.lanes.Lane.{Lane}

abbrev pub name_of : Lane → List ℕ
name_of lane = lane.pass.knows.pass.id.name

-- the lane's pass is one of this row, holds nothing and answers for nobody
pub record IsIdleLane (row : RowOf Counter) (lane : Lane) : Type 0 where
  pub pass : IsPassOfRow row lane.pass
  pub idle : lane.pass.knows.held ≡ None
  pub alone : lane.pass.knows.pass.id.split ≡ []
  pub unclaimed : lane.pass.knows.claims ≡ []

-- the first pass, which holds nothing and covers the lanes' passes
pub record IsMainPass (row : RowOf Counter) (main : PassOfRow Counter ℕ ℕ) (lanes : List Lane) : Type 0 where
  pub pass : IsPassOfRow row main
  pub idle : main.knows.held ≡ None
  pub first : main.knows.pass.id.name ≡ []
  pub unclaimed : main.knows.claims ≡ []
  pub covers : Covers main.knows.pass.id (map name_of lanes)
