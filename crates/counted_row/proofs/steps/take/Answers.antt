use Rattle.counted_row.proofs.Taking.{takes_lock}
use Rattle.counted_row.proofs.steps.take.Goals as goal

pub compare_exchange-requires : goal.compare_exchange-requires
compare_exchange-requires g c =
    let seat = c.args.seat.now in
    let cells = c.args.cells.now in
    let made = cells.key.value.items in
    let may = c.requires.may in (
      c.requires.same,
      may.in_words,
      rw (may.word, may.carried)
          (takes_lock g.O.Object.meaning made cells.table_id.slots seat.id seat.me.0 may.live may.held c.args.index c.args.stamp may.in_slots c.requires.free),
    )
