use Rattle.std.proofs.Common.{◌<◌, length, set, ap, sym, subst, ◌∙◌}
use Rattle.std.proofs.lemmas.List.{get_or_read}
use Rattle.seq_timer.specs.Bases.{BaseState}
use Rattle.seq_timer.specs.Steps.{Timer}
use Rattle.seq_timer.specs.Systems.{BaseContent, changed}
use Rattle.seq_timer.specs.Tables.{no_timer, timer_at}
use Rattle.base_row.specs.declared.slot.Parts.{Parts}
use Rattle.base_row.proofs.slot.BaseSlot.apply.Goals as goal

pub returns-clause-slot : goal.returns-clause-slot
unfolding changed
returns-clause-slot c =
    let parts = c.deref_mut-parts in
    let goes : Timer → BaseContent → BaseContent = λ t. changed c.args.timer t c.args.event.now in
    let here : BaseContent = record { content = parts.result.now.base.content; states = parts.result.now.states.items; standing = parts.result.now.standing } in
    let inside : c.args.timer < length here.states =
    subst (λ (p : Parts). c.args.timer < length p.states.items) (sym parts.ensures.value)
    (subst (λ (b : BaseContent). c.args.timer < length b.states) (sym c.self.view_is) c.requires.below) in
    let was = get_or_read here.states c.args.timer c.index_mut-state.result.now inside c.index_mut-state.ensures.value no_timer in
    (λ i. record {
      content = ap (λ (b : BaseState). b.content) c.apply.ensures.base i;
      states = set parts.result.now.states.items c.args.timer (c.apply.ensures.timer i);
      standing = parts.result.now.standing;
    })
    ∙ (ap (λ t. goes t here) was
    ∙ (ap (λ (p : Parts). goes (timer_at p.states.items c.args.timer) (record { content = p.base.content; states = p.states.items; standing = p.standing })) parts.ensures.value
    ∙ ap (λ (b : BaseContent). goes (timer_at b.states c.args.timer) b) c.self.view_is))
