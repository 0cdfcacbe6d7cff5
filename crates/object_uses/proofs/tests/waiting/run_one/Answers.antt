use Rattle.std.proofs.Common.{rules, refl, ◌≡◌, ◌∙◌, sym, subst}
use Rattle.seq_timer.specs.declared.context.Context.TheVariants as contexts
use Rattle.counted_row.specs.Views.{Knows}
use Rattle.timer_objects.specs.Meaning.{object_meaning}
use Rattle.timer_objects.specs.Known.{IsObjectsPass, KeepsObjectsPass, ObjectsPass}
use Rattle.object_uses.specs.declared.tests.waiting.Gated.{Gated}
use Rattle.hr_timers.proofs.ExpiryEnds.{run_leaves}
use Rattle.timer_objects.specs.Firings.{LeavesPass}
use Rattle.timer_objects.proofs.Lending.{leaves_fired, leaves_same, leaves_trans, pass_after}
use Rattle.object_uses.proofs.tests.waiting.run_one.Goals as goal

-- the handler still has the same loan, and leaves the pass so
record LeavesGated (h h' : Gated) : Type 0 where
  lent : h'.firing.ghost_name ≡ h.firing.ghost_name
  leaves : LeavesPass h.firing.now h'.firing.now

gated_same : (h : Gated) → LeavesGated h h
gated_same h = record { lent = refl; leaves = leaves_same h.firing.now }

gated_trans : (h i j : Gated) → LeavesGated h i → LeavesGated i j → LeavesGated h j
gated_trans h i j a b = record { lent = b.lent ∙ a.lent; leaves = leaves_trans h.firing.now i.firing.now j.firing.now a.leaves b.leaves }

pub returns : goal.returns
returns g c =
    let ran = c.expire-answer in
    let ready = c.reserve.new.self in
    let was : ready.objects_pass.now ≡ c.args.objects_pass.now = c.reserve.ensures.pass ∙ c.make-firing.ensures.pass in
    let left = run_leaves _ c.args.timers.now.about _ LeavesGated gated_same gated_trans
    (λ h h' v w n restart later. record { lent = later.0; leaves = leaves_fired _ h.firing.now h'.firing.now later.1.0 w n _ restart later.1.1 })
    contexts.Hard 0 _ c.args.pass.now.known _ c.args.log.now.receipts ran.new.pass.known ran.new.handler ran.new.log.receipts ran.result ran.ensures.expires in
    let knows = subst (λ (p : ObjectsPass). Knows object_meaning p.knows) (sym was) c.requires.passes.of_objects.knows in
    let objects = pass_after c.args.objects.now ready ran.new.handler.firing.now (c.reserve.ensures.loan.objects ∙ c.make-firing.ensures.objects) left.leaves knows in
    let goes_on = subst (λ (p : ObjectsPass). KeepsObjectsPass p ran.new.handler.firing.now.objects_pass.now) was left.leaves.keeps in
    record {
      keeps = record {
        of_timers = search rules;
        keeps = search rules;
        of_objects = subst (λ (p : ObjectsPass). IsObjectsPass c.args.objects.now p) (search rules) objects;
        goes_on = subst (λ (p : ObjectsPass). KeepsObjectsPass c.args.objects_pass.now p) (search rules) goes_on;
      };
    }
