use Rattle.std.proofs.Common.{◌∙◌}
use Rattle.base_row.proofs.Holding.{ready_there, stepped_states}
use Rattle.base_row.proofs.row.BaseRow.step.Goals as goal

pub apply-requires-clause-below : goal.apply-requires-clause-below
apply-requires-clause-below c = (ready_there c.args.self.now.about c.args.pass.now.knows c.args.held.now c.args.timer c.args.event.now
    c.requires.row.about c.known.ensures c.fresh.ensures.fresh c.requires.may c.requires.on).below

pub apply-requires-clause-needs : goal.apply-requires-clause-needs
apply-requires-clause-needs c = (ready_there c.args.self.now.about c.args.pass.now.knows c.args.held.now c.args.timer c.args.event.now
    c.requires.row.about c.known.ensures c.fresh.ensures.fresh c.requires.may c.requires.on).needs

pub apply-requires-clause-queued : goal.apply-requires-clause-queued
apply-requires-clause-queued c = (ready_there c.args.self.now.about c.args.pass.now.knows c.args.held.now c.args.timer c.args.event.now
    c.requires.row.about c.known.ensures c.fresh.ensures.fresh c.requires.may c.requires.on).queued

pub returns-clause-held : goal.returns-clause-held
returns-clause-held c = c.apply.ensures.held ∙ (ready_there c.args.self.now.about c.args.pass.now.knows c.args.held.now c.args.timer c.args.event.now
    c.requires.row.about c.known.ensures c.fresh.ensures.fresh c.requires.may c.requires.on).steps

pub returns-clause-reply : goal.returns-clause-reply
returns-clause-reply c = c.apply.ensures.reply ∙ (ready_there c.args.self.now.about c.args.pass.now.knows c.args.held.now c.args.timer c.args.event.now
    c.requires.row.about c.known.ensures c.fresh.ensures.fresh c.requires.may c.requires.on).replies

pub returns-clause-below : goal.returns-clause-below
returns-clause-below c =
    let is = ready_there c.args.self.now.about c.args.pass.now.knows c.args.held.now c.args.timer c.args.event.now
    c.requires.row.about c.known.ensures c.fresh.ensures.fresh c.requires.may c.requires.on in
    (stepped_states c.args.self.now.about c.args.pass.now.knows c.args.held.now c.apply.new.self c.args.timer c.args.event.now (c.apply.ensures.held ∙ is.steps) is.below).0

pub returns-clause-left : goal.returns-clause-left
returns-clause-left c =
    let is = ready_there c.args.self.now.about c.args.pass.now.knows c.args.held.now c.args.timer c.args.event.now
    c.requires.row.about c.known.ensures c.fresh.ensures.fresh c.requires.may c.requires.on in
    (stepped_states c.args.self.now.about c.args.pass.now.knows c.args.held.now c.apply.new.self c.args.timer c.args.event.now (c.apply.ensures.held ∙ is.steps) is.below).1
