use Rattle.std.proofs.Common.{ℕ, ap, refl, sym, subst, ◌∙◌, [], ◌∷◌, ◌++◌}
use Rattle.pass_names.proofs.SharedHistory.{looks_trans}
use Rattle.base_row.specs.Logs.{LogOf}
use Rattle.base_row.specs.declared.log.Receipt.{Receipt}
use Rattle.timer_objects.specs.declared.object.Decl.{Decl}
use Rattle.timer_setting.specs.Phases.{IsOutcomeOf}
use Rattle.timer_objects.specs.Known.{EntersObjectCall, MayEnterCall, decl_at, receipt_of}
use Rattle.timer_objects.specs.Turns.{EndsTurn, HasTurn}
use Rattle.timer_objects.specs.Anew.{DisarmsAndArms, anew_reading, anew_wanted}
use Rattle.timer_objects.specs.Arming.{ArmsFor}
use Rattle.timer_objects.proofs.Asking.{anews_made, may_arm}
use Rattle.timer_objects.proofs.Retrying.{begins_after, held_up, waits_held}
use Rattle.timer_objects.proofs.objects.Objects.anew_held.Goals as goal

pub enter-reply-requires-clause-may : goal.enter-reply-requires-clause-may
enter-reply-requires-clause-may g c =
    let x = c.args.self.now in
    let holding = c.requires.holding in
    let arm = c.in-Some.outcome in
    let wants = c.wants-wants.ensures ∙ ap (λ (d : Decl). anew_wanted d.clock c.args.call.now) c.decl-decl.ensures in
    subst (λ call. MayEnterCall x c.args.objects_pass.now c.args.held c.args.id call) (sym c.with-entered.ensures) (record {
      row = holding.row;
      unclaimed = holding.unclaimed;
      held = holding.held;
      index = holding.index;
      holds = holding.holds;
      may = may_arm x c.args.id c.args.held holding.index holding.holds holding.room arm c.args.call.now c.requires.valid c.requires.taken
          (subst (IsOutcomeOf arm) wants c.in-Some.ensures.outcome);
    })

pub returns-clause-ends : goal.returns-clause-ends
returns-clause-ends g c = λ first begun took.
    let x = c.args.self.now in
    let o = c.args.timers.now.about in
    let h = c.args.held in
    let call = c.args.call.now in
    let arm = c.in-Some.outcome in
    let q = c.enter-reply.new.pass in
    let entry = c.enter-reply.ensures in
    let holding = c.requires.holding in
    let log = c.args.object_log.now.receipts in
    let v = c.args.pass.now.known in
    let w = c.disarm_and_arm-begun.new.pass.known in
    let now = c.args.log.now.receipts in
    let then = c.disarm_and_arm-begun.new.log.receipts in
    let named = c.with-entered.ensures in
    let wants = c.wants-wants.ensures ∙ ap (λ (d : Decl). anew_wanted d.clock call) c.decl-decl.ensures in
    let sets = subst (λ (d : Decl). DisarmsAndArms o v w c.args.id h.stamp (anew_wanted c.decl-decl.result.clock call) d.base c.reading-reading.result arm now then)
    c.decl-decl.ensures
    (subst (λ n. DisarmsAndArms o v w c.args.id n (anew_wanted c.decl-decl.result.clock call) c.decl-decl.result.base c.reading-reading.result arm now then)
    c.stamp-stamp.ensures
    (subst (λ wanted. DisarmsAndArms o v w c.args.id c.stamp-stamp.result wanted c.decl-decl.result.base c.reading-reading.result arm now then)
    c.wants-wants.ensures c.in-Some.ensures.sets)) in
    let turn : HasTurn c.args.id h.stamp first.known sets.begun w c.end.new.pass.known = record {
      begins = begins_after took.looks sets.begins;
      ends = subst (λ n. EndsTurn c.args.id n w c.end.new.pass.known) c.stamp-stamp.ensures
          (subst (λ (u : ℕ × ℕ). EndsTurn u.0 u.1 w c.end.new.pass.known) c.in-Some.ensures.turn c.end.ensures.ends);
    } in
    anews_made x c.args.id h holding.index holding.holds o first.known sets.begun w c.end.new.pass.known begun c.args.objects_pass.now q arm _ _ log _ _
    holding.room holding.row took.locks entry.pass turn call holding.suits holding.within c.requires.valid c.requires.taken sets.disarmed
    sets.cancel_log sets.disarms
    (subst (λ (d : Decl). ArmsFor o sets.disarmed w c.args.id (anew_wanted d.clock call) (decl_at x c.args.id).base (anew_reading call) arm sets.cancel_log then)
    c.decl-decl.ensures
    (subst (λ r. ArmsFor o sets.disarmed w c.args.id (anew_wanted c.decl-decl.result.clock call) (decl_at x c.args.id).base r arm sets.cancel_log then)
    c.reading-reading.ensures sets.arms))
    (subst (λ k. EntersObjectCall c.args.objects_pass.now q h k c.enter-reply.result) named entry.enters)
    (entry.receipt ∙ ap (λ k. log ++ receipt_of h k ∷ []) named)

pub returns-in_default-clause-ends : goal.returns-in_default-clause-ends
returns-in_default-clause-ends g c = λ first begun took.
    let freed = c.release.ensures in
    let told = c.in_default.ensures in
    waits_held c.args.self.now begun c.args.objects_pass.now c.release.new.pass c.args.id c.args.held took.locks c.requires.holding.row freed.pass
    took.is.idle freed.knows (looks_trans first.known c.args.pass.now.known c.disarm_and_arm-begun.new.pass.known took.looks told.sets.0)
    (ap (λ (l : LogOf Receipt). l.receipts) told.sets.1) refl

pub returns-in_default-clause-why : goal.returns-in_default-clause-why
returns-in_default-clause-why g c = λ first begun took.
    let freed = c.release.ensures in
    let holding = c.requires.holding in
    held_up c.args.self.now c.args.timers.now.about begun c.args.objects_pass.now c.release.new.pass c.args.id c.args.held took.locks holding.row freed.pass
    took.is.idle freed.knows (sym freed.stamp ∙ freed.count) holding.room c.disarm_and_arm-begun.new.pass.known c.in_default.ensures.why
