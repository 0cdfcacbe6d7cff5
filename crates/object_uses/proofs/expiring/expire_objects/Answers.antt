use Rattle.std.proofs.Common.{rules, ◌≡◌, ◌∙◌, sym, subst}
use Rattle.seq_timer.specs.declared.context.Context.TheVariants as contexts
use Rattle.counted_row.specs.Views.{Knows}
use Rattle.timer_objects.specs.Meaning.{object_meaning}
use Rattle.timer_objects.specs.Known.{IsObjectsPass, KeepsObjectsPass, ObjectsPass}
use Rattle.timer_objects.proofs.Lending.{leaves_pass, pass_after}
use Rattle.object_uses.proofs.expiring.expire_objects.Goals as goal

pub returns-clause-keeps : goal.returns-clause-keeps
returns-clause-keeps g c =
    let ran = c.expire-answer in
    let ready = c.reserve.new.self in
    let was : ready.objects_pass.now ≡ c.args.objects_pass.now = c.reserve.ensures.pass ∙ c.make-firing.ensures.pass in
    let left = leaves_pass c.args.timers.now.about c.args.reading contexts.Hard c.args.base _ c.args.pass.now.known ready c.args.log.now.receipts ran.new.pass.known ran.new.handler ran.new.log.receipts ran.result ran.ensures.expires in
    let knows = subst (λ (p : ObjectsPass). Knows object_meaning p.knows) (sym was) c.requires.objects.knows in
    let objects = pass_after c.args.objects.now ready ran.new.handler (c.reserve.ensures.loan.objects ∙ c.make-firing.ensures.objects) left knows in
    let goes_on = subst (λ (p : ObjectsPass). KeepsObjectsPass p ran.new.handler.objects_pass.now) was left.keeps in
    record {
      of_timers = search rules;
      keeps = search rules;
      of_objects = subst (λ (p : ObjectsPass). IsObjectsPass c.args.objects.now p) (search rules) objects;
      goes_on = subst (λ (p : ObjectsPass). KeepsObjectsPass c.args.objects_pass.now p) (search rules) goes_on;
    }
