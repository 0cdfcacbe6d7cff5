use Rattle.benches.specs.WorkingBases.{AreBoth}
use Rattle.benches.proofs.bases.report.rounds.Given as goal

abbrev pub invariant-loop : goal.invariant-loop
invariant-loop g l = AreBoth l.row l.first l.second
