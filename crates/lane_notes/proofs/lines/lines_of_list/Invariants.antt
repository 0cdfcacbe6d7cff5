use Rattle.std.proofs.Common.{◌≡◌, take}
use Rattle.lane_notes.specs.Records.{line_at_number, numbered_from}
use Rattle.lane_notes.proofs.lines.lines_of_list.Given as goal

abbrev pub invariant-loop-index : goal.invariant-loop-index
invariant-loop-index g l = l.lines ≡ numbered_from (line_at_number g.N.Under.Placed.place g.N.Lined.line l.under) 1 (take l.index l.notes)
