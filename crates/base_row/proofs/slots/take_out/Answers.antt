use Rattle.std.proofs.Common.{◌∷◌, Some, ap, sym, ◌∙◌}
use Rattle.atomic_table.specs.Table.{rest}
use Rattle.base_row.proofs.slots.take_out.Goals as goal

pub slot_mut-requires : goal.slot_mut-requires
slot_mut-requires c =
    let full = c.requires.full in
    (c.requires.same, (Some full.0, full.1 ∙ ap (λ l. (c.args.base, Some full.0) ∷ rest l) (sym full.1)))
