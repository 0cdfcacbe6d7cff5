use Rattle.std.proofs.Common.{◌≡◌, ◌∙◌, ap, refl, sym, inl, subst}
use Rattle.std.specs.Prelude.{Some}
use Rattle.hr_timers.specs.Known.{PassOf}
use Rattle.ordered_signals.specs.Places.{HasSignalRing, PopStands}
use Rattle.timer_objects.specs.Rearming.{caller_of}
use Rattle.timer_objects.proofs.QueuedSignals.{next_of, queue_room, takes_oldest}
use Rattle.timer_objects.proofs.objects.Objects.next_signal.Goals as goal

pub returns-then-not-is_queued-clause-next : goal.returns-then-not-is_queued-clause-next
returns-then-not-is_queued-clause-next g c =
    let signal = c.in-Some.field-0 in
    let o = c.args.timers.now.about in (
      signal.timer,
      signal.number,
      takes_oldest c.args.signal_pass.now.knows c.pop.new.signal_pass.knows signal c.in-Some.ensures.pops c.pop.ensures.known,
      caller_of c.pop.new.pass c.args.objects_pass.now c.args.log.now c.args.object_log.now,
      record {
        looks = c.pop.ensures.looks;
        same = refl;
        stands = subst (λ room. HasSignalRing o.rings room
            → PopStands o c.args.pass.now.known c.pop.new.pass.known c.pop.new.signal_pass.knows (Some signal))
            (queue_room _ _ (c.signals-queue.ensures ∙ c.requires.signals)) c.in-Some.ensures.stands;
        alone = λ none. ap (λ (p : PassOf). caller_of p c.args.objects_pass.now c.args.log.now c.args.object_log.now)
            (c.pop.ensures.alone (subst (λ room. HasSignalRing o.rings room → ⊥) (sym (queue_room _ _ (c.signals-queue.ensures ∙ c.requires.signals))) none));
      },
      inl (c.is_queued.ensures.no c.if-not-is_queued.true, refl, refl),
    )

pub returns-clause-next : goal.returns-clause-next
returns-clause-next g c =
    let signal = c.in-Some.field-0 in
    let o = c.args.timers.now.about in
    let tried = caller_of c.pop.new.pass c.args.objects_pass.now c.args.log.now c.args.object_log.now in
    next_of c.args.self.now o _ tried _ c.args.signal_pass.now.knows c.pop.new.signal_pass.knows c.args.reading signal.timer signal.number
    (takes_oldest c.args.signal_pass.now.knows c.pop.new.signal_pass.knows signal c.in-Some.ensures.pops c.pop.ensures.known)
    (record {
      looks = c.pop.ensures.looks;
      same = refl;
      stands = subst (λ room. HasSignalRing o.rings room
          → PopStands o c.args.pass.now.known c.pop.new.pass.known c.pop.new.signal_pass.knows (Some signal))
          (queue_room _ _ (c.signals-queue.ensures ∙ c.requires.signals)) c.in-Some.ensures.stands;
      alone = λ none. ap (λ (p : PassOf). caller_of p c.args.objects_pass.now c.args.log.now c.args.object_log.now)
          (c.pop.ensures.alone (subst (λ room. HasSignalRing o.rings room → ⊥) (sym (queue_room _ _ (c.signals-queue.ensures ∙ c.requires.signals))) none));
    })
    (c.is_queued.ensures.yes c.if-not-is_queued.false) c.take_signal.result c.take_signal.ensures.takes
