use Rattle.std.proofs.Common.{rules}
use Rattle.lane_notes.proofs.Orders.{StandInOrder-from_sort}
use Rattle.lane_notes.proofs.placed.sort.Goals as goal

pub returns-clause-order : goal.returns-clause-order
returns-clause-order g c = StandInOrder-from_sort g.T.Placed.place _ c.sort_unstable_by_key.ensures.sorted (λ f a r h k. search rules)
