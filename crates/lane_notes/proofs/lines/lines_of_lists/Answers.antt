use Rattle.std.proofs.Common.{◌+◌, ◌<◌, arith, ap, filter, subst, sym, ◌∙◌}
use Rattle.lane_notes.specs.Sorted.{is_of_list}
use Rattle.lane_notes.specs.Records.{line_at_number, noted_lines, numbered_from}
use Rattle.lane_notes.proofs.Shelves.{each_below-step, long_below, read_below}
use Rattle.lane_notes.proofs.lines.lines_of_lists.Goals as goal

pub index-requires : goal.index-requires
index-requires g c =
    subst (λ m. c.loop-list.list < m) (sym c.in_ok-notes_of.notes_of.ok.0)
    (long_below (λ j. filter (is_of_list g.N.Placed.place j) c.args.notes.now) (c.args.count + 1) c.loop-list.list c.in_ok-notes_of.notes_of.items
    c.in_ok-notes_of.ensures (omega arith))

pub index-requires-in-loop-list : goal.index-requires-in-loop-list
index-requires-in-loop-list g c =
    subst (λ m. c.loop-list.list < m) (sym c.in_ok-under_of.under_of.ok.0)
    (long_below (λ j. filter (is_of_list g.N.Under.Placed.place j) c.args.under.now) (c.args.count + 1) c.loop-list.list c.in_ok-under_of.under_of.items
    c.in_ok-under_of.ensures (omega arith))

pub loop-list-preserved : goal.loop-list-preserved
loop-list-preserved g c =
    let ns = c.as_slice.ensures ∙ read_below (λ j. filter (is_of_list g.N.Placed.place j) c.args.notes.now) (c.args.count + 1) c.loop-list.list
    c.in_ok-notes_of.notes_of.items c.index.result.now c.in_ok-notes_of.ensures (omega arith) c.index.ensures in
    let us = c.as_slice-in-loop-list.ensures
    ∙ read_below (λ j. filter (is_of_list g.N.Under.Placed.place j) c.args.under.now) (c.args.count + 1) c.loop-list.list
    c.in_ok-under_of.under_of.items c.index-in-loop-list.result.now c.in_ok-under_of.ensures (omega arith) c.index-in-loop-list.ensures in
    each_below-step (λ j. noted_lines g.N.Under.Placed.place g.N.Lined.line g.N.Placed.place j c.args.notes.now c.args.under.now) c.loop-list.list
    c.in_ok-lines.lines c.loop-list.lists c.push.new.self c.loop-list.invariant
    (c.in_ok-lines.ensures ∙ ap (λ ys. numbered_from (line_at_number g.N.Under.Placed.place g.N.Lined.line ys) 1 c.as_slice.result.now) us
    ∙ ap (numbered_from (line_at_number g.N.Under.Placed.place g.N.Lined.line
    (filter (is_of_list g.N.Under.Placed.place c.loop-list.list) c.args.under.now)) 1) ns)
    c.in_ok-push.ensures.ok
