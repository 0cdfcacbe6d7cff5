use Rattle.std.proofs.Common.{◌≡◌, ◌∙◌, refl, rules, subst}
use Rattle.timer_objects.specs.QueuedFirings.{QueuedFiring, queued_firing}
use Rattle.lane_run.specs.declared.expiring.Gated.{Gated}
use Rattle.hr_timers.proofs.ExpiryEnds.{expires_of, run_leaves}
use Rattle.timer_objects.proofs.QueuedLending.{leaves_passes}
use Rattle.lane_notes.specs.Expiries.{RunsWith}
use Rattle.lane_run.proofs.QueueKept.{knows_still}
use Rattle.lane_run.proofs.expiring.run_with.Goals as goal

pub returns-clause-runs : goal.returns-clause-runs
returns-clause-runs g c =
    let ran = c.expire_in in
    let lent : ran.new.handler.firing.ghost_name ≡ _ =
    run_leaves _ _ _ (λ (h h' : Gated _). h'.firing.ghost_name ≡ h.firing.ghost_name) (λ h. refl) (λ h i j a b. b ∙ a)
    (λ h h' v w n restart did. did.lent) _ _ _ _ _ _ _ _ _ _ ran.ensures.expires in
    let inner = expires_of _ queued_firing (λ (h : Gated _). h.firing.now) _ _ (λ h h' v w n restart did. did.fires) _ _ _ _ _ _ _ _ _ _ ran.ensures.expires in
    subst (λ (h' : QueuedFiring). RunsWith c.args.timers.now.about c.args.context c.args.base c.args.reading c.args.budget c.args.pass.now.known c.args.firing.now
    c.args.log.now.receipts ran.new.pass.known h' ran.new.log.receipts ran.result) (search rules)
    (record { expires = inner; leaves = leaves_passes _ _ _ _ _ _ _ _ _ _ _ _ inner; queue = knows_still _ _ _ _ _ _ _ _ _ _ _ _ inner })
