use Rattle.counted_row.proofs.Taking.{frees}
use Rattle.counted_row.proofs.steps.free.Goals as goal

pub store-requires : goal.store-requires
store-requires g c =
    let seat = c.args.seat.now in
    let held = c.requires.held in (
      c.requires.same,
      c.requires.word.1,
      rw (c.requires.word.0, held.2)
          (frees g.O.Object.meaning c.args.cells.now.key.value.items c.args.cells.now.table_id.slots seat.id seat.me.0
          (record { index = c.args.index; stamp = c.args.stamp; state = held.0 }) c.requires.known.0 c.requires.known.1 held.1),
    )

pub returns-clause-count : goal.returns-clause-count
returns-clause-count g c = c.store.ensures.2.count (record { index = c.args.index; stamp = c.args.stamp; state = c.requires.held.0 }) c.requires.held.1
