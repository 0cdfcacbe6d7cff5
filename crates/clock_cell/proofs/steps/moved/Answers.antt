use Rattle.std.proofs.Common.{rules}
use Rattle.clock_cell.proofs.Splitting.{moves}
use Rattle.clock_cell.proofs.steps.moved.Goals as goal

pub split_pass-requires : goal.split_pass-requires
split_pass-requires c = (search rules, (search rules, (search rules, moves _ _)))
