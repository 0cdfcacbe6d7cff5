use Rattle.std.proofs.Common.{ap}
use Rattle.clock_cell.proofs.Longer.{goes_on_told, hears_told}
use Rattle.clock_cell.proofs.shared.SharedClock.hear.Goals as goal

pub returns-clause-told : goal.returns-clause-told
returns-clause-told g c =
    goes_on_told c.args.to.now.knows c.args.from.now.knows _ _ _ c.read.new.pass.knows (ap (λ p. p.knows) c.to.view_is) (ap (λ p. p.knows) c.from.view_is)
    c.to.invariant c.from.invariant c.tell.ensures.to c.read.ensures.looks c.read.ensures.heard c.read.ensures.known

pub returns-clause-heard : goal.returns-clause-heard
returns-clause-heard g c =
    hears_told c.args.to.now.knows c.args.from.now.knows _ _ _ c.read.new.pass.knows (ap (λ p. p.knows) c.to.view_is) (ap (λ p. p.knows) c.from.view_is)
    c.to.invariant c.from.invariant c.tell.ensures.to c.read.ensures.looks c.read.ensures.heard c.read.ensures.known
