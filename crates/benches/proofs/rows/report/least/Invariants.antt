use Rattle.benches.specs.Alone.{IsAlone}
use Rattle.benches.proofs.rows.report.least.Given as goal

abbrev pub invariant-loop : goal.invariant-loop
invariant-loop g l = IsAlone l.row l.main
