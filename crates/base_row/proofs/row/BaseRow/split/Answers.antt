use Rattle.base_row.specs.Rules.{opening_in}
use Rattle.std.proofs.Common.{◌∙◌, ap, sym, arith}
use Rattle.base_row.specs.Calls.{BasePassOf, BaseRowOf}
use Rattle.base_row.proofs.Splitting.{splits}
use Rattle.base_row.proofs.row.BaseRow.split.Goals as goal

pub split_seat-requires : goal.split_seat-requires
split_seat-requires c =
    let seat = c.pass.inside.seat in
    let shared = c.self.inside.table.shared in (
      ap (λ (p : BasePassOf). p.row) c.pass.view_is ∙ (c.requires.row.row ∙ ap (λ (r : BaseRowOf). r.id) (sym c.self.view_is)),
      omega (arith, c.self.invariant.0),
      splits (opening_in shared.key) seat.id seat.me.0 c.pass.invariant.live,
    )
