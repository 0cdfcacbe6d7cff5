use Rattle.std.proofs.Common.{set, ap, ◌∙◌}
use Rattle.seq_timer.specs.Bases.{BaseState}
use Rattle.seq_timer.specs.Systems.{BaseContent, changed}
use Rattle.base_row.specs.declared.slot.Parts.{Parts}
use Rattle.base_row.proofs.slot.BaseSlot.arrive.Goals as goal

pub returns-clause-slot : goal.returns-clause-slot
unfolding changed
returns-clause-slot c =
    let parts = c.deref_mut-parts in
    let goes : BaseContent → BaseContent = changed c.args.timer c.args.state.now c.args.event.now in
    (λ i. record {
      content = ap (λ (b : BaseState). b.content) c.apply-reply.ensures.base i;
      states = set parts.result.now.states.items c.args.timer (c.apply-reply.ensures.timer i);
      standing = parts.result.now.standing;
    })
    ∙ (ap (λ (p : Parts). goes (record { content = p.base.content; states = p.states.items; standing = p.standing })) parts.ensures.value ∙ ap goes c.self.view_is)
