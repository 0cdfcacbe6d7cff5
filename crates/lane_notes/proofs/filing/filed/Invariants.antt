use Rattle.std.proofs.Common.{◌≡◌, ◌+◌, filter, take}
use Rattle.lane_notes.specs.Records.{each_below, is_filed_at}
use Rattle.lane_notes.proofs.filing.filed.Given as goal

abbrev pub invariant-loop-note : goal.invariant-loop-note
invariant-loop-note g l = l.lists.items ≡ each_below (λ j. filter (is_filed_at g.T.Placed.place l.by j) (take l.note-index l.notes)) (l.fn.last + 1)
