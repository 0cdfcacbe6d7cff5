use Rattle.std.proofs.Common.{◌≡◌, ◌++◌, map}
use Rattle.std.specs.Prelude.{drop}
use Rattle.seq_timer.specs.Tables.{hard_on}
use Rattle.seq_timer.proofs.context.all_hard.Given as goal

abbrev pub invariant-loop-clock : goal.invariant-loop-clock
invariant-loop-clock l = l.timers.items ++ map hard_on (drop l.clock-index l.clocks) ≡ map hard_on l.clocks
