use Rattle.base_row.specs.Rules.{opening_in}
use Rattle.std.proofs.Common.{◌∙◌, ap}
use Rattle.base_row.proofs.Splitting.{notes, tells}
use Rattle.base_row.proofs.steps.tell.Goals as goal

pub split_seat-note-requires : goal.split_seat-note-requires
split_seat-note-requires c =
    let seat = c.args.from.now in
    let key = c.args.cells.now.key in
    (c.requires.same.0, c.requires.words, notes (opening_in key) seat.id seat.me.0)

pub join_seat-requires : goal.join_seat-requires
join_seat-requires c =
    let seat = c.args.to.now in
    let key = c.args.cells.now.key in
    let note = c.split_seat-note.ensures in
    let note_view = ap (λ p. p.0) note.4 in (
      c.requires.same.1,
      note.3 ∙ c.requires.same.0,
      ap (λ p. p.1) note.4,
      c.requires.words,
      rw note_view (tells (opening_in key) seat.id c.split_seat-note.result.id seat.me.0 c.args.from.now.me.0),
    )
