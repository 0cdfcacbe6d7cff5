use Rattle.std.proofs.Common.{◌≡◌}
use Rattle.benches.proofs.trees.figures.repeat.Given as goal

-- the room stays
abbrev pub invariant-loop : goal.invariant-loop
invariant-loop g l = g.Q.Queue.bound l.queue ≡ l.room
