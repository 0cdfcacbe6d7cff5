use Rattle.std.proofs.Common.{◌≡◌, map, take}
use Rattle.lane_notes.proofs.lines.items_of.Given as goal

abbrev pub invariant-loop-note : goal.invariant-loop-note
invariant-loop-note g l = l.items ≡ map g.N.Shown.item (take l.note-index l.notes)
