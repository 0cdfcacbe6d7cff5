use Rattle.std.proofs.Common.{◌≡◌}
use Rattle.lane_notes.specs.Records.{each_below, noted_lines}
use Rattle.lane_notes.proofs.lines.lines_of_lists.Given as goal

abbrev pub invariant-loop-list : goal.invariant-loop-list
invariant-loop-list g l = l.lists ≡ each_below (λ j. noted_lines g.N.Under.Placed.place g.N.Lined.line g.N.Placed.place j l.notes l.under) l.list
