use Rattle.std.proofs.Common.{◌≡◌, replicate, []}
use Rattle.lane_notes.proofs.filing.empty_lists.Given as goal

abbrev pub invariant-loop-made : goal.invariant-loop-made
invariant-loop-made g l = l.lists.items ≡ replicate l._made []
