use Rattle.std.proofs.Common.{◌+◌, [], ap, arith, ◌∙◌}
use Rattle.lane_notes.specs.Records.{filed_at, put_in_list}
use Rattle.lane_notes.proofs.Shelves.{each_below-replicate, filing-step}
use Rattle.lane_notes.proofs.filing.filed.Goals as goal

pub loop-note-init : goal.loop-note-init
loop-note-init g c = c.in_ok-lists.ensures ∙ each_below-replicate [] (c.args.last + 1)

pub loop-note-preserved : goal.loop-note-preserved
loop-note-preserved g c =
    filing-step (λ x. filed_at c.args.by (g.T.Placed.place x)) (c.args.last + 1) c.args.notes.now c.loop-note.note-index c.note-item.result
    c.loop-note.lists.items _ (omega arith) c.note-item.is c.loop-note.invariant
    (c.in_ok-put.ensures ∙ ap (λ p. put_in_list p c.note-item.result c.loop-note.lists.items) c.place_by.ensures)
