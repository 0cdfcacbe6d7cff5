use Rattle.std.proofs.Common.{◌≡◌}
use Rattle.benches.proofs.trees.moves.filled.Given as goal

-- the room stays
abbrev pub invariant-loop-id : goal.invariant-loop-id
invariant-loop-id g l = g.Q.Queue.bound l.queue ≡ l.room
