use Rattle.std.proofs.Common.{sym, ◌∙◌}
use Rattle.seq_timer.specs.declared.event.EventBy.TheVariants as events
use Rattle.base_row.proofs.Calling.{seen_after}
use Rattle.base_row.proofs.row.BaseRow.out_again_logged.Goals as goal

pub returns-clause-state : goal.returns-clause-state
returns-clause-state g c = c.state.ensures ∙ (c.step_in-reply.ensures.left ∙ sym (seen_after c.args.self.now.about c.fresh.ensures.fresh c.args.held.now
    c.args.timer (events.Out c.args.to) c.args.pass.now.knows c.note_entry.new.pass.knows
    (c.note_entry.ensures.adds c.args.held.now c.requires.may.may.held)))
