use Rattle.base_row.specs.Rules.{opening_in}
use Rattle.base_row.proofs.Splitting.{joins}
use Rattle.base_row.proofs.steps.absorb.Goals as goal

pub join_seat-requires : goal.join_seat-requires
join_seat-requires c =
    let seat = c.args.main.now in
    let key = c.args.cells.now.key in
    let main = c.requires.main in
    let other = c.requires.other in (
      c.requires.same.0,
      c.requires.same.1,
      other.3,
      c.requires.words,
      joins (opening_in key) seat.id c.args.other.id seat.me.0 c.args.other.me.0 main.0 other.0 main.1 other.1 other.2 c.requires.answers,
    )
