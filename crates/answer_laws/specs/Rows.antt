-- What two passes of a row have in common after one call, where one may have seen more of others' entries.
use Rattle.std.specs.Prelude.{◌≡◌}
use Rattle.pass_names.specs.declared.Pass.{Pass}
use Rattle.counted_row.specs.Views.{PassOfRow}

-- two passes have one name and the same places of their own
pub record SamePlaces {E : Type 0} (p q : Pass E) : Type 0 where
  pub id : p.id ≡ q.id
  pub mine : p.mine ≡ q.mine

-- two passes of a row are alike but for what they have seen and heard
pub record SameOfRow {S C R : Type 0} (p q : PassOfRow S C R) : Type 0 where
  pub row : p.row ≡ q.row
  pub opening : p.knows.opening ≡ q.knows.opening
  pub pass : SamePlaces p.knows.pass q.knows.pass
  pub claims : p.knows.claims ≡ q.knows.claims
  pub held : p.knows.held ≡ q.knows.held
