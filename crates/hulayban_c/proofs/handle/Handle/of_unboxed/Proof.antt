-- `of_unboxed` of a handle of timers, as of every type of handles.
use Rattle.hulayban_c.proofs.HandleKinds.{of_timers}
use Rattle.hulayban_c.proofs.HandleWalks.{of_unboxed_met}
use Rattle.hulayban_c.proofs.handle.Handle.of_unboxed.Code.{unfolded}
use Rattle.hulayban_c.proofs.handle.Handle.of_unboxed.Statement.{statement}
use Rattle.hulayban_c.specs.contracts.handle.Handle.of_unboxed.Key.{name}

pub of_unboxed_spec : {M : Type 1} → statement M
of_unboxed_spec 𝓤 𝓛 𝓜 𝓡 wired = of_unboxed_met of_timers 𝓤 𝓛 𝓜 𝓡 name (unfolded 𝓤 𝓛.H 𝓜 𝓡 wired)
