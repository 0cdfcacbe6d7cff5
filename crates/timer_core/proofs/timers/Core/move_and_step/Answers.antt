use Rattle.std.proofs.Common.{[], ◌∷◌, sym, subst}
use Rattle.seq_timer.specs.declared.event.EventBy.TheVariants as events
use Rattle.timer_core.specs.Kept.{Agrees, IsConsistent, Makes}
use Rattle.timer_core.proofs.Consistent.{after_event-seen, agrees-after, consistent-two, makes-two}
use Rattle.timer_core.proofs.timers.Core.move_and_step.Goals as goal

pub enter-requires-2-clause-agree : goal.enter-requires-2-clause-agree
enter-requires-2-clause-agree g c =
    let out = events.Out c.args.base in
    subst Agrees (sym (after_event-seen _ c.args.self.now _ c.args.id out c.self.view_is c.enter.ensures.kept))
    (agrees-after c.args.self.now c.args.id out (subst IsConsistent c.self.view_is c.self.invariant).agrees
    c.requires.timer c.requires.allowed.0 c.requires.base)

pub invariant_of-self : goal.invariant_of-self
invariant_of-self g c =
    let out = after_event-seen _ c.args.self.now _ c.args.id (events.Out c.args.base) c.self.view_is c.enter.ensures.kept in
    subst IsConsistent (sym (after_event-seen _ _ _ c.args.id c.args.event out c.enter-2.ensures.kept))
    (consistent-two c.args.self.now c.args.id c.args.base c.args.event (subst IsConsistent c.self.view_is c.self.invariant)
    c.requires.timer c.requires.base c.requires.allowed c.requires.still)

pub returns-clause-makes : goal.returns-clause-makes
returns-clause-makes g c =
    let out = after_event-seen _ c.args.self.now _ c.args.id (events.Out c.args.base) c.self.view_is c.enter.ensures.kept in
    subst (Makes c.args.self.now c.args.id (events.Out c.args.base ∷ c.args.event ∷ []))
    (sym (after_event-seen _ _ _ c.args.id c.args.event out c.enter-2.ensures.kept))
    (makes-two c.args.self.now c.args.id (events.Out c.args.base) c.args.event c.requires.timer c.requires.allowed)
