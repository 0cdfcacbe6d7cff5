use Rattle.std.proofs.Common.{sym, ◌∙◌, Some, None}
use Rattle.base_row.proofs.Holding.{knows_about}
use Rattle.base_row.proofs.Placed.{TellsFront, tells_front}
use Rattle.base_row.proofs.row.BaseRow.front.Goals as goal

there : (c : goal.In-Some) → TellsFront c.args.self.now.about c.args.pass.now.knows c.args.held.now (Some (c.in-Some.field-0-0, c.in-Some.timer))
there c = tells_front c.args.self.now.about c.args.pass.now.knows c.fresh.ensures.fresh
    (knows_about c.args.self.now.about c.args.pass.now.knows c.requires.row.about c.known.ensures) c.args.held.now c.requires.held
    (Some (c.in-Some.field-0-0, c.in-Some.timer)) (sym c.in-Some.is ∙ c.front.ensures)

pub returns-in-Some-clause-armed : goal.returns-in-Some-clause-armed
returns-in-Some-clause-armed c = (there c).armed

pub returns-in-Some-clause-front : goal.returns-in-Some-clause-front
returns-in-Some-clause-front c = (c.in-Some.field-0-0, sym c.front.ensures ∙ c.in-Some.is)

pub returns-in-Some-clause-within : goal.returns-in-Some-clause-within
returns-in-Some-clause-within c = (there c).within

none : (c : goal.In-None) → TellsFront c.args.self.now.about c.args.pass.now.knows c.args.held.now None
none c = tells_front c.args.self.now.about c.args.pass.now.knows c.fresh.ensures.fresh
    (knows_about c.args.self.now.about c.args.pass.now.knows c.requires.row.about c.known.ensures) c.args.held.now c.requires.held None
    (sym c.in-None.is ∙ c.front.ensures)

pub returns-in-None-clause-clear : goal.returns-in-None-clause-clear
returns-in-None-clause-clear c = (none c).clear

pub returns-in-None-clause-none : goal.returns-in-None-clause-none
returns-in-None-clause-none c = (none c).none
