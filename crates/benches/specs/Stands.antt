-- Timers with an object over each, and a thread's passes.
use Rattle.std.specs.Prelude.{◌≡◌, ◌≤◌, [], length}
use Rattle.pass_names.specs.Names.{IsLast}
use Rattle.hr_timers.specs.Known.{IsPassOf}
use Rattle.timer_objects.specs.Callbacks.{bases_of}
use Rattle.timer_objects.specs.Known.{IsObjectsPass, Suits}
use Rattle.benches.specs.declared.objects.stand.Stand.{Stand}

-- the objects suit the timers, on one base; there is a callback for each that starts none; and the passes are the only ones and have no claims
pub record IsBenchStand (s : Stand) : Type 0 where
  pub timers : IsPassOf s.timers s.pass
  pub last : IsLast s.pass.known.id
  pub unclaimed : s.pass.known.claims ≡ []
  pub objects : IsObjectsPass s.objects s.objects_pass
  pub objects_last : IsLast s.objects_pass.knows.pass.id
  pub suits : Suits s.objects s.timers.about
  pub bases : s.timers.about.bases ≡ 1
  pub many : length s.objects.decls ≡ s.count
  pub few : s.count ≤ 256
  pub callbacks : length s.callbacks.items ≡ s.count
  pub still : bases_of s.callbacks.items ≡ 0

-- it stands so afterwards, with as many objects
pub record KeepsStand (old new : Stand) : Type 0 where
  pub stand : IsBenchStand new
  pub count : new.count ≡ old.count
  pub objects : new.objects ≡ old.objects
