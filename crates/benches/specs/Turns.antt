-- What is left in a pass that has read, and in one that has written.
use Rattle.std.specs.Prelude.{◌≡◌, ℕ, ◌+◌, length}
use Rattle.clock_cell.specs.declared.view.ClockView.{ClockView}

-- the pass has made no write
pub record Read (old new : ClockView) : Type 0 where
  pub id : new.pass.id ≡ old.pass.id
  pub mine : new.pass.mine ≡ old.pass.mine

-- the pass has made so many writes
pub record Written (writes : ℕ) (old new : ClockView) : Type 0 where
  pub id : new.pass.id ≡ old.pass.id
  pub mine : length new.pass.mine ≡ length old.pass.mine + writes
