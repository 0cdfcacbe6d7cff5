use Rattle.std.proofs.Common.{ap, ◌∙◌}
use Rattle.seq_timer.specs.Systems.{BaseContent, next_on}
use Rattle.base_row.specs.declared.view.HeldContent.{HeldContent}
use Rattle.base_row.proofs.Holding.{knows_about}
use Rattle.base_row.proofs.Placed.{TellsFirst, tells_first}
use Rattle.base_row.proofs.row.BaseRow.first.Goals as goal

pub returns-clause-first : goal.returns-clause-first
returns-clause-first c = c.first.ensures ∙ ap (λ (h : HeldContent BaseContent). next_on c.args.context h.content c.args.reading) c.held.view_is

told : (c : goal.After-first) → TellsFirst c.args.self.now.about c.args.pass.now.knows c.args.held.now c.args.context c.args.reading c.first.result
told c =
    let o = c.args.self.now.about in
    let v = c.args.pass.now.knows in
    tells_first o v c.fresh.ensures.fresh (knows_about o v c.requires.row.about c.known.ensures) c.args.held.now c.requires.held c.args.context c.args.reading
    c.first.result (returns-clause-first c)

pub returns-clause-next : goal.returns-clause-next
returns-clause-next c = (told c).next

pub returns-clause-within : goal.returns-clause-within
returns-clause-within c = (told c).within

pub returns-clause-none : goal.returns-clause-none
returns-clause-none c = (told c).none

pub returns-clause-seen : goal.returns-clause-seen
returns-clause-seen c = (told c).seen

pub returns-clause-expires : goal.returns-clause-expires
returns-clause-expires c = (told c).expires

pub returns-clause-context : goal.returns-clause-context
returns-clause-context c = (told c).context
