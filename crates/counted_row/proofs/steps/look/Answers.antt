use Rattle.counted_row.proofs.Looking.{looks}
use Rattle.counted_row.proofs.steps.look.Goals as goal

pub load-requires : goal.load-requires
load-requires g c =
    let seat = c.args.seat.now in
    let cells = c.args.cells.now in
    let kept = looks g.O.Object.meaning cells.key.value.items cells.table_id.slots seat.id seat.me.0 seat.me.1 c.requires.live c.args.word in
    (c.requires.same, c.requires.word, kept)
