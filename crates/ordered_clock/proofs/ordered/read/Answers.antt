use Rattle.std.proofs.Common.{ap, arith}
use Rattle.ordered_clock.specs.Moments.{clock_counter}
use Rattle.ordered_clock.proofs.Moments.{counted_at}
use Rattle.ordered_clock.proofs.ordered.read.Goals as goal

pub returns-clause-moment : goal.returns-clause-moment
returns-clause-moment g c = counted_at clock_counter _ c.counter-least.ensures.looks.seen c.raise_counter.ensures.looks.seen
    (omega (arith, c.counter-least.ensures.count, c.read_from-now.ensures.least)) (omega (arith, c.raise_counter.ensures.count, ap (λ r. r.stamp) c.now.view_is))
