use Rattle.std.proofs.Common.{◌≡◌, ◌∙◌, ap}
use Rattle.seq_timer.specs.Systems.{shifted}
use Rattle.base_row.specs.declared.slot.Parts.{Parts}
use Rattle.base_row.proofs.slot.BaseSlot.shift.Goals as goal

pub returns : goal.returns
unfolding shifted
returns c =
    let was : record {
      content = c.deref_mut.result.now.base.content;
      states = c.deref_mut.result.now.states.items;
      standing = c.deref_mut.result.now.standing;
    } ≡ c.args.self.now =
    ap (λ (p : Parts). record { content = p.base.content; states = p.states.items; standing = p.standing }) c.deref_mut.ensures.value ∙ c.self.view_is in
    (λ i. record { content = (was i).content; states = (was i).states; standing = c.requires i })
