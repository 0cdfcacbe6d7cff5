use Rattle.std.proofs.Common.{ap, sym, subst, ◌∙◌}
use Rattle.seq_timer.specs.Tables.{timer_at}
use Rattle.seq_timer.specs.Systems.{BaseContent, IsOn}
use Rattle.base_row.specs.declared.view.HeldContent.{HeldContent}
use Rattle.base_row.proofs.Holding.{knows_about, room_held, shown_state, kept_state}
use Rattle.base_row.proofs.row.BaseRow.state.Goals as goal

pub state-requires : goal.state-requires
state-requires c = room_held c.args.self.now.about c.args.pass.now.knows c.args.held.now _ c.requires.row.about c.known.ensures
    c.requires.held c.held.view_is c.args.timer c.requires.within

pub returns-clause-shown : goal.returns-clause-shown
returns-clause-shown c = λ on.
    let o = c.args.self.now.about in
    let v = c.args.pass.now.knows in
    let is = c.state.ensures ∙ ap (λ (h : HeldContent BaseContent). timer_at h.content.states c.args.timer) c.held.view_is in
    shown_state o v c.args.held.now (knows_about o v c.requires.row.about c.known.ensures) c.requires.held
    c.args.timer c.requires.within (subst (λ x. IsOn c.args.held.now.base x) is on) ∙ sym is

pub returns-clause-kept : goal.returns-clause-kept
returns-clause-kept c = λ on.
    let o = c.args.self.now.about in
    let v = c.args.pass.now.knows in
    c.state.ensures ∙ (ap (λ (h : HeldContent BaseContent). timer_at h.content.states c.args.timer) c.held.view_is
    ∙ kept_state o v c.args.held.now (knows_about o v c.requires.row.about c.known.ensures) c.requires.held
    c.args.timer c.requires.within on)
