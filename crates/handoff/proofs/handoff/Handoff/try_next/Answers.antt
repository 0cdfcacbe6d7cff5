use Rattle.std.proofs.Common.{◌≡◌, ◌∙◌, None, Some, subst, sym}
use Rattle.std.specs.Prelude.{IfSome}
use Rattle.handoff.specs.declared.rule.Part.TheVariants.{Works}
use Rattle.handoff.specs.Seated.{IsWorking}
use Rattle.handoff.proofs.handoff.Handoff.try_next.Goals as goal

pub returns-then-look-clause-works : goal.returns-then-look-clause-works
returns-then-look-clause-works g c =
    let told = c.if-look.ensures.taken in
    let out = c.exchange.ensures.slot (Works told.0) (Some told.0) told.1.1 in
    subst (λ r. IfSome r (λ v. g.T.Task.can c.args.self.now.key v × IsWorking c.args.self.now v c.exchange.new.seat)) (sym out.1) (told.1.0, out.0)

pub returns-then-look-clause-waits : goal.returns-then-look-clause-waits
returns-then-look-clause-waits g c = λ none.
    let told = c.if-look.ensures.taken in
    let e : Some told.0 ≡ None = sym (c.exchange.ensures.slot (Works told.0) (Some told.0) told.1.1).1 ∙ none in
    absurd (cc)
