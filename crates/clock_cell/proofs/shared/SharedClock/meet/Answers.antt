use Rattle.std.proofs.Common.{ap}
use Rattle.clock_cell.proofs.Longer.{meets_at}
use Rattle.clock_cell.proofs.shared.SharedClock.meet.Goals as goal

pub returns-clause-meets : goal.returns-clause-meets
returns-clause-meets c = λ one.
    let tell = c.tell.ensures in
    let back = c.tell-2.ensures in
    meets_at c.args.a.now.knows c.args.b.now.knows _ _ (ap (λ p. p.knows) c.a.view_is)
    (ap (λ p. p.knows) c.b.view_is) c.a.invariant c.b.invariant one _ _ _ _ tell.from tell.to back.from back.to
