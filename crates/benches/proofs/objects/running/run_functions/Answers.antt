use Rattle.std.proofs.Common.{rules, ◌≡◌, ◌∙◌, sym, subst}
use Rattle.seq_timer.specs.declared.context.Context.TheVariants as contexts
use Rattle.counted_row.specs.Views.{Knows}
use Rattle.timer_objects.specs.Meaning.{object_meaning}
use Rattle.timer_objects.specs.Known.{IsObjectsPass, KeepsObjectsPass, ObjectsPass}
use Rattle.timer_objects.proofs.Lending.{leaves_pass, pass_after}
use Rattle.benches.proofs.objects.running.run_functions.Goals as goal

-- what a run leaves of the objects' pass that it was lent
pub returns-clause-objects : goal.returns-clause-objects
returns-clause-objects g c =
    let ran = c.expire-answer in
    let ready = c.reserve.new.self in
    let was : ready.objects_pass.now ≡ c.args.objects_pass.now = c.reserve.ensures.pass ∙ c.make-firing.ensures.pass in
    let left = leaves_pass c.args.timers.now.about c.args.reading contexts.Hard 0 _ c.args.pass.now.known ready c.args.log.now.receipts ran.new.pass.known ran.new.handler ran.new.log.receipts ran.result ran.ensures.expires in
    let knows = subst (λ (p : ObjectsPass). Knows object_meaning p.knows) (sym was) c.requires.objects.knows in
    subst (λ (p : ObjectsPass). IsObjectsPass c.args.objects.now p) (search rules)
    (pass_after c.args.objects.now ready ran.new.handler (c.reserve.ensures.loan.objects ∙ c.make-firing.ensures.objects) left knows)

pub returns-clause-keeps : goal.returns-clause-keeps
returns-clause-keeps g c =
    let ran = c.expire-answer in
    let ready = c.reserve.new.self in
    let was : ready.objects_pass.now ≡ c.args.objects_pass.now = c.reserve.ensures.pass ∙ c.make-firing.ensures.pass in
    let left = leaves_pass c.args.timers.now.about c.args.reading contexts.Hard 0 _ c.args.pass.now.known ready c.args.log.now.receipts ran.new.pass.known ran.new.handler ran.new.log.receipts ran.result ran.ensures.expires in
    let goes_on = subst (λ (p : ObjectsPass). KeepsObjectsPass p ran.new.handler.objects_pass.now) was left.keeps in
    subst (λ (p : ObjectsPass). KeepsObjectsPass c.args.objects_pass.now p) (search rules) goes_on
