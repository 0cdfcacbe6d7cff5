use Rattle.std.proofs.Common.{◌≡◌, ◌++◌}
use Rattle.lane_run.proofs.rounds.add_all.Given as goal

abbrev pub invariant-loop-answer : goal.invariant-loop-answer
invariant-loop-answer l = record { so_far : l.all ≡ l.fn.all ++ l.yielded }
