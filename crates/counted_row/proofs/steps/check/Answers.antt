use Rattle.counted_row.proofs.Looking.{checks}
use Rattle.counted_row.proofs.steps.check.Goals as goal

pub load-requires : goal.load-requires
load-requires g c =
    let seat = c.args.seat.now in
    let cells = c.args.cells.now in
    let known = c.requires.known in
    let kept = checks g.O.Object.meaning cells.key.value.items cells.table_id.slots seat.id seat.me.0 seat.me.1 known.0 known.1 c.args.word in
    (c.requires.same, c.requires.word, kept)
