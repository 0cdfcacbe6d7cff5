use Rattle.std.proofs.Common.{◌≡◌, ◌++◌, map}
use Rattle.std.specs.Prelude.{drop}
use Rattle.hulayban_c.specs.Calls.{timer_declared}
use Rattle.hulayban_c.proofs.opening.timers_declared.Given as goal

-- what is pushed, and what the rest will be, is all
abbrev pub invariant-loop-each : goal.invariant-loop-each
invariant-loop-each l = l.timers.items ++ map timer_declared (drop l.each-index l.declares) ≡ map timer_declared l.declares
