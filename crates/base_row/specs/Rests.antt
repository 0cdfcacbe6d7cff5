-- A pass between a caller's calls.
use Rattle.std.specs.Prelude.{◌≡◌, None}
use Rattle.seq_timer.specs.Systems.{BaseContent}
use Rattle.base_row.specs.declared.view.BaseView.{BaseView}

-- it holds no base and carries no timer
pub record Rests (v : BaseView BaseContent) : Type 0 where
  pub held : v.held ≡ None
  pub carry : v.carry ≡ None
