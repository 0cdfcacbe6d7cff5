use Rattle.std.proofs.Common.{◌∙◌}
use Rattle.base_row.proofs.Holding.{ready, stepped_states}
use Rattle.base_row.proofs.row.BaseRow.step_in.Goals as goal

pub arrive-requires-clause-below : goal.arrive-requires-clause-below
arrive-requires-clause-below c = (ready c.args.self.now.about c.args.pass.now.knows c.args.held.now c.args.timer c.args.event.now c.args.state.now
    c.requires.row.about c.known.ensures c.fresh.ensures.fresh c.requires.may c.requires.state).below

pub arrive-requires-clause-needs : goal.arrive-requires-clause-needs
arrive-requires-clause-needs c = (ready c.args.self.now.about c.args.pass.now.knows c.args.held.now c.args.timer c.args.event.now c.args.state.now
    c.requires.row.about c.known.ensures c.fresh.ensures.fresh c.requires.may c.requires.state).needs

pub arrive-requires-clause-queued : goal.arrive-requires-clause-queued
arrive-requires-clause-queued c = (ready c.args.self.now.about c.args.pass.now.knows c.args.held.now c.args.timer c.args.event.now c.args.state.now
    c.requires.row.about c.known.ensures c.fresh.ensures.fresh c.requires.may c.requires.state).queued

pub returns-clause-held : goal.returns-clause-held
returns-clause-held c = c.arrive.ensures.held ∙ (ready c.args.self.now.about c.args.pass.now.knows c.args.held.now c.args.timer c.args.event.now c.args.state.now
    c.requires.row.about c.known.ensures c.fresh.ensures.fresh c.requires.may c.requires.state).steps

pub returns-clause-reply : goal.returns-clause-reply
returns-clause-reply c = c.arrive.ensures.reply ∙ (ready c.args.self.now.about c.args.pass.now.knows c.args.held.now c.args.timer c.args.event.now c.args.state.now
    c.requires.row.about c.known.ensures c.fresh.ensures.fresh c.requires.may c.requires.state).replies

pub returns-clause-below : goal.returns-clause-below
returns-clause-below c =
    let is = ready c.args.self.now.about c.args.pass.now.knows c.args.held.now c.args.timer c.args.event.now c.args.state.now
    c.requires.row.about c.known.ensures c.fresh.ensures.fresh c.requires.may c.requires.state in
    (stepped_states c.args.self.now.about c.args.pass.now.knows c.args.held.now c.arrive.new.self c.args.timer c.args.event.now (c.arrive.ensures.held ∙ is.steps) is.below).0

pub returns-clause-left : goal.returns-clause-left
returns-clause-left c =
    let is = ready c.args.self.now.about c.args.pass.now.knows c.args.held.now c.args.timer c.args.event.now c.args.state.now
    c.requires.row.about c.known.ensures c.fresh.ensures.fresh c.requires.may c.requires.state in
    (stepped_states c.args.self.now.about c.args.pass.now.knows c.args.held.now c.arrive.new.self c.args.timer c.args.event.now (c.arrive.ensures.held ∙ is.steps) is.below).1
