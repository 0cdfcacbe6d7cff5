-- Timers and objects with the passes of a thread that is their only one.
use Rattle.std.specs.Prelude.{ℕ, ◌≡◌, [], length}
use Rattle.pass_names.specs.Names.{IsLast}
use Rattle.base_row.specs.Calls as rows
use Rattle.hr_timers.specs.Known.{IsPassOf, PassOf}
use Rattle.signal_queue.specs.Views.{PassOfQueue}
use Rattle.timer_objects.specs.Signals.{IsSignalPass}
use Rattle.timer_objects.specs.declared.object.Kind.TheVariants as kinds
use Rattle.timer_objects.specs.Known.{IsObjectsPass, ObjectsOf, ObjectsPass, Suits, decl_at}

-- a queued timer, a descriptor and a sleeper, each over its timer on the one base, and the only pass of each and of their queue
pub record IsStand (timers : rows.BaseRowOf) (pass : PassOf) (objects : ObjectsOf) (objects_pass : ObjectsPass) (signal_pass : PassOfQueue) : Type 0 where
  pub timers_pass : IsPassOf timers pass
  pub last : IsLast pass.known.id
  pub unclaimed : pass.known.claims ≡ []
  pub of_objects : IsObjectsPass objects objects_pass
  pub last_of_objects : IsLast objects_pass.knows.pass.id
  pub of_signals : IsSignalPass objects signal_pass
  pub last_of_signals : IsLast signal_pass.knows.pass.id
  pub suits : Suits objects timers.about
  pub bases : timers.about.bases ≡ 1
  pub three : length objects.decls ≡ 3
  pub queued : (decl_at objects 0).kind ≡ kinds.Queued
  pub descriptor : (decl_at objects 1).kind ≡ kinds.Fd
  pub sleeper : (decl_at objects 2).kind ≡ kinds.Sleeper
