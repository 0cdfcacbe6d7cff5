-- `none` of a handle of timers, as of every type of handles.
use Rattle.hulayban_c.proofs.HandleKinds.{of_timers}
use Rattle.hulayban_c.proofs.HandleWalks.{none_met}
use Rattle.hulayban_c.proofs.handle.Handle.none.Code.{unfolded}
use Rattle.hulayban_c.proofs.handle.Handle.none.Statement.{statement}
use Rattle.hulayban_c.specs.contracts.handle.Handle.none.Key.{name}

pub none_spec : {M : Type 1} → statement M
none_spec 𝓤 𝓛 𝓜 𝓡 wired = none_met of_timers 𝓤 𝓛 𝓜 𝓡 name (unfolded 𝓤 𝓛.H 𝓜 𝓡 wired)
