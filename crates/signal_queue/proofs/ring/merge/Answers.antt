use Rattle.std.proofs.Common.{sym, ◌∙◌, subst}
use Rattle.pass_names.specs.Passes.{Retires}
use Rattle.signal_queue.specs.Calls.{RuleHeld}
use Rattle.signal_queue.specs.Views.{IsRestingQueueView}
use Rattle.signal_queue.proofs.Splitting.{joins}
use Rattle.signal_queue.proofs.Turned.{joined_rests, joined_retires}
use Rattle.signal_queue.proofs.ring.merge.Goals as goal

pub absorb-requires-clause-rule : goal.absorb-requires-clause-rule
absorb-requires-clause-rule c =
    let v = c.requires.rests.0 in
    let w = c.requires.rests.1 in
    joins _ _ _ _ v.live w.live c.requires.answers v.no_push w.no_push v.no_pop w.no_pop

pub learn_as-requires-clause-rule : goal.learn_as-requires-clause-rule
learn_as-requires-clause-rule c = λ items views inv at. (views, c.absorb.new.pass.id, inv, at)

pub returns-clause-rests : goal.returns-clause-rests
returns-clause-rests c =
    let told = c.learn_as.ensures.rule in
    let shown = subst (λ u. RuleHeld u told.0) c.absorb.ensures.rule told.1 in
    subst IsRestingQueueView (sym (c.learn_as.ensures.queue.1 ∙ c.absorb.ensures.rule)) (joined_rests c.requires.rests.0 c.requires.rests.1 shown)

pub returns-clause-retires : goal.returns-clause-retires
returns-clause-retires c =
    let told = c.learn_as.ensures.rule in
    let shown = subst (λ u. RuleHeld u told.0) c.absorb.ensures.rule told.1 in
    subst (λ u. Retires c.args.seat.now.me.0.client.pass c.args.other.me.0.client.pass u.pass) (sym (c.learn_as.ensures.queue.1 ∙ c.absorb.ensures.rule))
    (joined_retires c.requires.rests.0 c.requires.rests.1 shown)
