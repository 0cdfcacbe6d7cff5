use Rattle.std.proofs.Common.{rules}
use Rattle.clock_cell.proofs.Looking.{looks}
use Rattle.clock_cell.proofs.steps.look.Goals as goal

pub load_as-requires : goal.load_as-requires
load_as-requires g c = (search rules, (search rules, (search rules, looks _ _ c.requires.live)))
