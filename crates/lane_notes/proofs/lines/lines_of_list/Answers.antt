use Rattle.std.proofs.Common.{◌+◌, ◌<◌, ◌∙◌, filter, length, arith, subst, sym}
use Rattle.lane_notes.specs.Sorted.{is_of_number}
use Rattle.lane_notes.proofs.Shelves.{line-step, long_below, read_below}
use Rattle.lane_notes.proofs.lines.lines_of_list.Goals as goal

pub index-requires : goal.index-requires
index-requires g c =
    subst (λ m. c.loop-index.index + 1 < m) (sym c.in_ok-at.at.ok.0)
    (long_below (λ j. filter (is_of_number g.N.Under.Placed.place j) c.args.under.now) (length c.args.notes.now + 1) (c.loop-index.index + 1)
    c.in_ok-at.at.items c.in_ok-at.ensures (omega arith))

pub loop-index-preserved : goal.loop-index-preserved
loop-index-preserved g c =
    line-step g.N.Under.Placed.place g.N.Lined.line c.args.under.now c.args.notes.now c.loop-index.index c.index-notes-index.result
    c.in_ok-line.line c.as_slice.result.now
    c.loop-index.lines c.push.new.self c.loop-index-test.true c.index-notes-index.is c.loop-index.invariant c.in_ok-line.ensures
    (c.as_slice.ensures ∙ read_below (λ j. filter (is_of_number g.N.Under.Placed.place j) c.args.under.now) (length c.args.notes.now + 1)
    (c.loop-index.index + 1) c.in_ok-at.at.items c.index.result.now c.in_ok-at.ensures (omega arith) c.index.ensures)
    c.in_ok-push.ensures.ok
