use Rattle.std.proofs.Common.{ℕ, ap, sym, subst, length, ◌∙◌, ◌+◌, [], ◌∷◌, ◌++◌}
use Rattle.timer_setting.specs.Phases.{IsOutcomeOf}
use Rattle.timer_objects.specs.declared.object.Decl.{Decl}
use Rattle.timer_objects.specs.Arming.{ArmsFor}
use Rattle.timer_objects.specs.Calls.{wanted_by}
use Rattle.timer_objects.specs.Known.{EntersObjectCall, MayEnterCall, receipt_of, seen_of}
use Rattle.timer_objects.specs.Turns.{BeginsTurn, EndsTurn, HasTurn}
use Rattle.timer_objects.proofs.Asking.{may_rearm, rearms}
use Rattle.timer_objects.proofs.Retrying.{begins_after}
use Rattle.timer_objects.proofs.objects.Objects.rearm_held.Goals as goal

pub enter-reply-requires-clause-may : goal.enter-reply-requires-clause-may
enter-reply-requires-clause-may g c =
    let holding = c.requires.holding in
    let arm = c.arm-outcome.result in
    let wants = c.wanted-wants.ensures ∙ ap (λ object. wanted_by c.args.call object c.args.reading) c.state.ensures in
    subst (λ call. MayEnterCall c.args.self.now c.args.objects_pass.now c.args.held c.args.id call) (sym c.call_of-made.ensures) (record {
      row = holding.row;
      unclaimed = holding.unclaimed;
      held = holding.held;
      index = holding.index;
      holds = holding.holds;
      may = may_rearm c.args.self.now c.args.id c.args.held holding.index holding.holds holding.room arm c.args.call c.args.reading c.requires.kind
          (subst (IsOutcomeOf arm) wants c.arm-outcome.ensures.outcome);
    })

pub returns-clause-ends : goal.returns-clause-ends
returns-clause-ends g c = λ first begun took.
    let x = c.args.self.now in
    let h = c.args.held in
    let arm = c.arm-outcome.result in
    let wants = c.wanted-wants.ensures ∙ ap (λ object. wanted_by c.args.call object c.args.reading) c.state.ensures in
    let q = c.enter-reply.new.pass in
    let entry = c.enter-reply.ensures in
    let holding = c.requires.holding in
    let log = c.args.object_log.now.receipts in
    let v = c.begin-turn.new.pass.known in
    let w = c.arm-outcome.new.pass.known in
    let turn : HasTurn c.args.id h.stamp first.known v w c.end.new.pass.known = record {
      begins = begins_after took.looks
          (subst (λ n. BeginsTurn c.args.id n c.args.pass.now.known v) c.stamp-stamp.ensures c.begin-turn.ensures.begins);
      ends = subst (λ n. EndsTurn c.args.id n w c.end.new.pass.known) c.stamp-stamp.ensures
          (subst (λ (u : ℕ × ℕ). EndsTurn u.0 u.1 w c.end.new.pass.known) c.begin-turn.ensures.turn c.end.ensures.ends);
    } in
    let armed = subst (λ (d : Decl). ArmsFor c.args.timers.now.about v w c.args.id (wanted_by c.args.call h.state c.args.reading) d.base c.args.reading arm
    c.args.log.now.receipts c.arm-outcome.new.log.receipts) c.decl-base.ensures (subst (λ wanted. ArmsFor c.args.timers.now.about v w c.args.id wanted
    c.decl-base.result.base c.args.reading arm c.args.log.now.receipts c.arm-outcome.new.log.receipts) wants c.arm-outcome.ensures.arms) in
    let made = rearms x c.args.id h holding.index holding.holds _ first.known v w c.end.new.pass.known begun c.args.objects_pass.now q arm _ _ log _ _
    holding.room holding.row took.locks entry.pass turn c.args.call c.args.reading c.requires.kind armed
    (subst (λ call. EntersObjectCall c.args.objects_pass.now q h call c.enter-reply.result) c.call_of-made.ensures entry.enters)
    (entry.receipt ∙ ap (λ call. log ++ receipt_of h call ∷ []) c.call_of-made.ensures) in
    (made.0, made.1, ap (λ n. n + 1) c.stamp-stamp.ensures ∙ (sym entry.enters.count ∙ ap (λ i. length (seen_of q i)) holding.index))
