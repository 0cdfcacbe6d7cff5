use Rattle.std.proofs.Common.{ap}
use Rattle.clock_cell.proofs.Longer.{retires_at}
use Rattle.clock_cell.proofs.shared.SharedClock.join.Goals as goal

pub returns-clause-retires : goal.returns-clause-retires
returns-clause-retires c = λ one.
    retires_at c.args.main.now.knows c.args.other.knows _ _
    (ap (λ p. p.knows) c.main.view_is) c.into_seat.ensures.knows c.main.invariant c.into_seat.ensures.rests one _ c.absorb.ensures.joined
