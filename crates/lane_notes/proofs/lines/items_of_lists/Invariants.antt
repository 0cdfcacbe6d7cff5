use Rattle.std.proofs.Common.{◌≡◌}
use Rattle.lane_notes.specs.Records.{each_below, noted_items}
use Rattle.lane_notes.proofs.lines.items_of_lists.Given as goal

abbrev pub invariant-loop-list : goal.invariant-loop-list
invariant-loop-list g l = l.lists ≡ each_below (λ j. noted_items g.N.Placed.place g.N.Shown.item j l.notes) l.list
