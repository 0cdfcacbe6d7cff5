-- A pass that carries a timer from one base to another.
use Rattle.std.specs.Prelude.{ℕ, ◌≡◌, ◌<◌, Bool, true, Some, None, length}
use Rattle.seq_timer.specs.Steps.{Timer}
use Rattle.seq_timer.specs.Systems.{BaseContent}
use Rattle.base_row.specs.declared.view.BaseView.{BaseView}
use Rattle.base_row.specs.Calls as rows
use Rattle.hr_timers.specs.Known.{PassOf}

-- a pass that carries a timer, how the timer is, and whether it was armed before it was sent off
pub record CarrierOf : Type 0 where
  pub pass : PassOf
  pub timer : ℕ
  pub state : Timer
  pub was_armed : Bool

-- a pass holds no base and carries this timer, which is so: it is on the move to one of the bases
pub record StandsCarrying (v : BaseView BaseContent) (t : ℕ) (s : Timer) : Type 0 where
  pub within : t < length v.opening.timers
  pub held : v.held ≡ None
  pub carry : v.carry ≡ Some t
  pub state : s ≡ rows.timer_seen v.opening v t
  pub moving : s.moving ≡ true
  pub idle : s.running ≡ None
  pub base : s.base < v.opening.bases

-- the same of a pass of these bases
pub record IsCarrying (r : rows.BaseRowOf) (p : rows.BasePassOf) (t : ℕ) (s : Timer) : Type 0 where
  pub row : rows.IsBasePassOf r p
  pub within : t < length r.about.timers
  pub held : p.knows.held ≡ None
  pub carry : p.knows.carry ≡ Some t
  pub state : s ≡ rows.timer_seen r.about p.knows t
  pub moving : s.moving ≡ true
  pub idle : s.running ≡ None
  pub base : s.base < r.about.bases

-- a carrier is of these timers
pub record IsCarrierOf (timers : rows.BaseRowOf) (c : CarrierOf) : Type 0 where
  pub row : c.pass.row ≡ timers.id
  pub opening : c.pass.opening ≡ timers.about
