-- Passes of timers while their calls are timed.
use Rattle.std.specs.Prelude.{◌≡◌, ℕ, ◌+◌, [], length}
use Rattle.pass_names.specs.Names.{AreFirstTwo}
use Rattle.base_row.specs.Calls.{BaseRowOf}
use Rattle.hr_timers.specs.Known.{IsPassOf, PassOf}

-- a pass of the timers that has no claims
pub record IsUnclaimed (timers : BaseRowOf) (pass : PassOf) : Type 0 where
  pub pass_of : IsPassOf timers pass
  pub unclaimed : pass.known.claims ≡ []

-- the timers' passes: the first one, and the one that was split off it
pub record AreTwoPasses (timers : BaseRowOf) (main other : PassOf) : Type 0 where
  pub first : IsUnclaimed timers main
  pub second : IsUnclaimed timers other
  pub ids : AreFirstTwo main.known.id other.known.id

-- a pass has made so many entries
pub record MadeEntries (entries : ℕ) (v w : PassOf) : Type 0 where
  pub mine : length w.known.mine ≡ length v.known.mine + entries
  pub id : w.known.id ≡ v.known.id
