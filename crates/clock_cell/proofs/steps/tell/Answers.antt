use Rattle.std.proofs.Common.{rules}
use Rattle.crossbeam_utils.specs.Seq.{cell_view}
use Rattle.clock_cell.proofs.Splitting.{notes, tells}
use Rattle.clock_cell.proofs.steps.tell.Goals as goal

pub split_pass-note-requires : goal.split_pass-note-requires
split_pass-note-requires c = (search rules, (search rules, (search rules, notes _ _)))

pub join_pass-requires : goal.join_pass-requires
join_pass-requires c =
    (search rules, (search rules, (search rules, rw (c.split_pass-note.ensures.given.1) (tells _ _ (cell_view c.args.to.now) (cell_view c.args.from.now)))))
