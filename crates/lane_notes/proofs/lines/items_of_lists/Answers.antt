use Rattle.std.proofs.Common.{◌+◌, ◌<◌, arith, ap, filter, map, subst, sym, ◌∙◌}
use Rattle.lane_notes.specs.Sorted.{is_of_list}
use Rattle.lane_notes.specs.Records.{noted_items}
use Rattle.lane_notes.proofs.Shelves.{each_below-step, long_below, read_below}
use Rattle.lane_notes.proofs.lines.items_of_lists.Goals as goal

pub index-requires : goal.index-requires
index-requires g c =
    subst (λ m. c.loop-list.list < m) (sym c.in_ok-notes_of.notes_of.ok.0)
    (long_below (λ j. filter (is_of_list g.N.Placed.place j) c.args.notes.now) (c.args.count + 1) c.loop-list.list c.in_ok-notes_of.notes_of.items
    c.in_ok-notes_of.ensures (omega arith))

pub loop-list-preserved : goal.loop-list-preserved
loop-list-preserved g c =
    let ns = c.as_slice.ensures ∙ read_below (λ j. filter (is_of_list g.N.Placed.place j) c.args.notes.now) (c.args.count + 1) c.loop-list.list
    c.in_ok-notes_of.notes_of.items c.index.result.now c.in_ok-notes_of.ensures (omega arith) c.index.ensures in
    each_below-step (λ j. noted_items g.N.Placed.place g.N.Shown.item j c.args.notes.now) c.loop-list.list
    c.in_ok-items.items c.loop-list.lists c.push.new.self c.loop-list.invariant
    (c.in_ok-items.ensures ∙ ap (map g.N.Shown.item) ns)
    c.in_ok-push.ensures.ok
