use Rattle.std.proofs.Common.{rules}
use Rattle.clock_cell.proofs.Splitting.{joins}
use Rattle.clock_cell.proofs.steps.absorb.Goals as goal

pub join_pass-requires : goal.join_pass-requires
join_pass-requires c = (
  search rules,
  (search rules, (search rules, rw (c.moved-other.ensures.view) (joins _ _ _ _ c.requires.live.0 c.requires.live.1 c.requires.answers))),
)
