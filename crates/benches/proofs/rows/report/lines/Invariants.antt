use Rattle.benches.specs.Alone.{IsAlone}
use Rattle.benches.proofs.rows.report.lines.Given as goal

abbrev pub invariant-loop-place : goal.invariant-loop-place
invariant-loop-place g l = IsAlone l.row l.main
