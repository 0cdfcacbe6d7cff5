use Rattle.std.proofs.Common.{sym, subst}
use Rattle.timer_core.specs.Kept.{IsConsistent}
use Rattle.timer_core.proofs.Consistent.{after_event-seen, consistent-one}
use Rattle.timer_core.proofs.timers.Core.step.Goals as goal

pub invariant_of-self : goal.invariant_of-self
invariant_of-self g c =
    subst IsConsistent (sym (after_event-seen _ c.args.self.now _ c.args.id c.args.event c.self.view_is c.enter.ensures.kept))
    (consistent-one c.args.self.now c.args.id c.args.event (subst IsConsistent c.self.view_is c.self.invariant)
    c.requires.timer c.requires.needs c.requires.permits c.requires.still)
