use Rattle.std.proofs.Common.{◌∷◌, Some, ap, sym, ◌∙◌}
use Rattle.atomic_table.specs.Table.{rest}
use Rattle.counted_row.proofs.slots.take_out.Goals as goal

pub slot_mut-requires : goal.slot_mut-requires
slot_mut-requires g c =
    let full = c.requires.full in
    (c.requires.same, (Some full.0, full.1 ∙ ap (λ l. (c.args.index, Some full.0) ∷ rest l) (sym full.1)))
