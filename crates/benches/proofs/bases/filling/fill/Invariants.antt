use Rattle.std.proofs.Common.{◌≡◌}
use Rattle.benches.specs.WorkingBases.{IsReady}
use Rattle.benches.proofs.bases.filling.fill.Given as goal

abbrev pub invariant-loop-timer : goal.invariant-loop-timer
invariant-loop-timer g l = record { ready : IsReady l.row l.pass; id : l.pass.knows.id ≡ l.fn.pass.knows.id }
