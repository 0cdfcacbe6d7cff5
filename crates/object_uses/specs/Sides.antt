-- What one thread has of four objects on one base.
use Rattle.std.specs.Prelude.{ℕ, ◌≡◌, [], length}
use Rattle.pass_names.specs.declared.PassId.{PassId}
use Rattle.atomic_table.specs.Seated.{TableId}
use Rattle.base_row.specs.Calls as rows
use Rattle.clock_cell.specs.Views.{IsPassOfClock, PassOfClock}
use Rattle.hr_timers.specs.Known.{PassOf}
use Rattle.timer_objects.specs.declared.object.Kind.TheVariants as kinds
use Rattle.timer_objects.specs.Known.{ObjectsOf, ObjectsPass, decl_at}
use Rattle.object_uses.specs.Callers.{HasPasses}

-- the timers, the objects and the clock that threads share, and the name of a thread's passes
pub record SideOf : Type 0 where
  pub timers : rows.BaseRowOf
  pub objects : ObjectsOf
  pub clock : TableId
  pub name : PassId

-- a POSIX timer, a descriptor, a sleeper and a descriptor, on one base
pub record AreMixed (timers : rows.BaseRowOf) (objects : ObjectsOf) : Type 0 where
  pub bases : timers.about.bases ≡ 1
  pub four : length objects.decls ≡ 4
  pub posix : (decl_at objects 0).kind ≡ kinds.Posix
  pub first : (decl_at objects 1).kind ≡ kinds.Fd
  pub second : (decl_at objects 3).kind ≡ kinds.Fd

-- passes of these timers and objects and of this clock, all of one name, with no claim open
pub record IsSide (timers : rows.BaseRowOf) (objects : ObjectsOf) (clock : TableId) (pass : PassOf) (objects_pass : ObjectsPass)
    (clock_pass : PassOfClock) : Type 0 where
  pub mixed : AreMixed timers objects
  pub passes : HasPasses timers objects pass objects_pass
  pub unclaimed : pass.known.claims ≡ []
  pub of_clock : IsPassOfClock clock clock_pass
  pub objects_name : objects_pass.knows.pass.id ≡ pass.known.id
  pub clock_name : clock_pass.knows.pass.id ≡ pass.known.id

-- a side of the same, with its passes' name; where it answered for no other, it answers for none
pub record KeepsSide (old new : SideOf) : Type 0 where
  pub same : new ≡ record old { name = new.name }
  pub name : new.name.name ≡ old.name.name
  pub alone : old.name.split ≡ [] → new.name.split ≡ []
