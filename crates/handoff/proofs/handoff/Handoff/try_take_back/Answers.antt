use Rattle.std.proofs.Common.{◌≡◌, ◌∙◌, None, Some, subst, sym}
use Rattle.std.specs.Prelude.{IfSome}
use Rattle.handoff.specs.declared.rule.Part.TheVariants.{Idle}
use Rattle.handoff.specs.Seated.{MayGive}
use Rattle.handoff.proofs.handoff.Handoff.try_take_back.Goals as goal

pub exchange-requires : goal.exchange-requires
exchange-requires g c =
    let told = c.if-take.ensures.taken c.requires.giver.0 c.requires.giver.1 in record { slot = (Idle, (Some told.0, told.1.1)) }

pub returns-then-take-clause-idle : goal.returns-then-take-clause-idle
returns-then-take-clause-idle g c =
    let told = c.if-take.ensures.taken c.requires.giver.0 c.requires.giver.1 in
    let out = c.exchange.ensures.slot Idle (Some told.0) told.1.1 in
    subst (λ r. IfSome r (λ w. MayGive c.args.self.now c.exchange.new.seat)) (sym out.1) out.0

pub returns-then-take-clause-done : goal.returns-then-take-clause-done
returns-then-take-clause-done g c = λ v giver.
    let told = c.if-take.ensures.taken v giver in
    let out = c.exchange.ensures.slot Idle (Some told.0) told.1.1 in
    subst (λ r. IfSome r (λ w. g.T.Task.done c.args.self.now.key v w)) (sym out.1) told.1.0

pub returns-then-take-clause-waits : goal.returns-then-take-clause-waits
returns-then-take-clause-waits g c = λ none v giver.
    let told = c.if-take.ensures.taken v giver in
    let e : Some told.0 ≡ None = sym (c.exchange.ensures.slot Idle (Some told.0) told.1.1).1 ∙ none in
    absurd (cc)
