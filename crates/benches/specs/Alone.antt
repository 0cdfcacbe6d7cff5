-- A row whose passes are joined.
use Rattle.std.specs.Prelude.{◌≡◌, ℕ, [], None}
use Rattle.pass_names.specs.Names.{IsLast}
use Rattle.counted_row.specs.Views.{RowOf, PassOfRow, IsPassOfRow}
use Rattle.table_uses.specs.declared.rows.counter.Counter.{Counter}

-- the row's only pass, which holds nothing and has no claims
pub record IsAlone (row : RowOf Counter) (main : PassOfRow Counter ℕ ℕ) : Type 0 where
  pub pass : IsPassOfRow row main
  pub idle : main.knows.held ≡ None
  pub last : IsLast main.knows.pass.id
  pub unclaimed : main.knows.claims ≡ []
