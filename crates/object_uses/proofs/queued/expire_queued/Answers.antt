use Rattle.std.proofs.Common.{rules, ◌≡◌, ◌∙◌, sym, ap, subst}
use Rattle.seq_timer.specs.declared.context.Context.TheVariants as contexts
use Rattle.counted_row.specs.Views.{Knows}
use Rattle.signal_queue.specs.Views.{PassOfQueue}
use Rattle.timer_objects.specs.Meaning.{object_meaning}
use Rattle.timer_objects.specs.Known.{IsObjectsPass, KeepsObjectsPass, ObjectsPass}
use Rattle.timer_objects.proofs.QueuedLending.{leaves_passes, objects_after, signals_after}
use Rattle.timer_objects.specs.Signals.{KeepsSignalPass}
use Rattle.object_uses.specs.Queued.{KeepsSignals}
use Rattle.object_uses.proofs.queued.expire_queued.Goals as goal

pub returns-clause-keeps : goal.returns-clause-keeps
returns-clause-keeps g c =
    let ran = c.expire-answer in
    let ready = c.reserve.new.self in
    let was : ready.objects_pass.now ≡ c.args.objects_pass.now = c.reserve.ensures.pass.0 ∙ c.make-firing.ensures.pass.0 in
    let left = leaves_passes c.args.timers.now.about c.args.reading contexts.Hard c.args.base _ c.args.pass.now.known ready c.args.log.now.receipts ran.new.pass.known ran.new.handler ran.new.log.receipts ran.result ran.ensures.expires in
    let knows = subst (λ (p : ObjectsPass). Knows object_meaning p.knows) (sym was) c.requires.objects.knows in
    let objects = objects_after c.args.objects.now ready ran.new.handler (c.reserve.ensures.loan.objects ∙ c.make-firing.ensures.objects) left knows in
    let goes_on = subst (λ (p : ObjectsPass). KeepsObjectsPass p ran.new.handler.objects_pass.now) was left.keeps in
    record {
      of_timers = search rules;
      keeps = search rules;
      of_objects = subst (λ (p : ObjectsPass). IsObjectsPass c.args.objects.now p) (search rules) objects;
      goes_on = subst (λ (p : ObjectsPass). KeepsObjectsPass c.args.objects_pass.now p) (search rules) goes_on;
    }

pub returns-clause-signals : goal.returns-clause-signals
returns-clause-signals g c =
    let ran = c.expire-answer in
    let ready = c.reserve.new.self in
    let was : ready.signal_pass.now ≡ c.args.signal_pass.now = c.reserve.ensures.pass.1 ∙ c.make-firing.ensures.pass.1 in
    let left = leaves_passes c.args.timers.now.about c.args.reading contexts.Hard c.args.base _ c.args.pass.now.known ready c.args.log.now.receipts ran.new.pass.known ran.new.handler ran.new.log.receipts ran.result ran.ensures.expires in
    let signals = signals_after c.args.objects.now ready ran.new.handler (c.reserve.ensures.loan.objects ∙ c.make-firing.ensures.objects) left in
    let kept : KeepsSignals c.args.objects.now c.args.signal_pass.now ran.new.handler.signal_pass.now =
    record { pass = signals; keeps = subst (λ (p : PassOfQueue). KeepsSignalPass p.knows ran.new.handler.signal_pass.now.knows) was left.signals } in
    subst (λ (p : PassOfQueue). KeepsSignals c.args.objects.now c.args.signal_pass.now p) (search rules) kept
