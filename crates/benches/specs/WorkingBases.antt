-- Passes of a row while its bases are timed.
use Rattle.std.specs.Prelude.{◌≡◌, ℕ, ◌+◌, ◌≤◌, [], length, None, Some}
use Rattle.ktime.specs.Readings.{ClockReading}
use Rattle.ktime.specs.declared.mode.Mode.TheVariants as modes
use Rattle.seq_timer.specs.Events.{Asked}
use Rattle.pass_names.specs.Names.{AreFirstTwo}
use Rattle.seq_timer.specs.Systems.{BaseContent}
use Rattle.base_row.specs.declared.view.BaseView.{BaseView}
use Rattle.base_row.specs.declared.view.HeldContent.{HeldContent}
use Rattle.base_row.specs.Calls.{BaseRowOf, BasePassOf, IsBasePassOf}
use Rattle.base_row.specs.Rests.{Rests}

-- the reading of all starts
abbrev pub beginning : ClockReading
beginning = record { stamp = 0; mono = 0; real = 0; boot = 0; changes = 0 }

-- a start on this base for this time, with no slack
abbrev pub asked : ℕ → ℕ → Asked
asked base ns = record { mode = modes.Abs; ns = ns; slack = 0; reading = beginning; base = base }

-- a pass of the row that holds and carries nothing, and has no claims
pub record IsReady (row : BaseRowOf) (pass : BasePassOf) : Type 0 where
  pub pass_of : IsBasePassOf row pass
  pub rests : Rests pass.knows
  pub unclaimed : pass.knows.claims ≡ []

-- the row's passes: the first one, and the one that was split off it
pub record AreBoth (row : BaseRowOf) (main other : BasePassOf) : Type 0 where
  pub first : IsReady row main
  pub second : IsReady row other
  pub ids : AreFirstTwo main.knows.id other.knows.id

-- a pass holds this base of the row, and carries no timer
pub record HoldsOneBase (row : BaseRowOf) (pass : BasePassOf) (base : HeldContent BaseContent) : Type 0 where
  pub pass_of : IsBasePassOf row pass
  pub held : pass.knows.held ≡ Some base
  pub free : pass.knows.carry ≡ None

-- a pass has made so many entries, under so many takes of a lock
pub record Worked (entries locks : ℕ) (v w : BaseView BaseContent) : Type 0 where
  pub mine : length w.mine ≡ length v.mine + entries
  pub takes : length w.takes ≡ length v.takes + locks
  pub claims : w.claims ≡ v.claims
  pub id : w.id ≡ v.id

-- at most one entry was made on a base that stays held
pub record WorkedOn (entries : ℕ) (old new : HeldContent BaseContent) (v w : BaseView BaseContent) : Type 0 where
  pub base : new.base ≡ old.base
  pub worked : Worked entries 0 v w
  pub most : entries ≤ 1
