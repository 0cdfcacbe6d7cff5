use Rattle.std.proofs.Common.{◌≡◌}
use Rattle.std.specs.Prelude.{drop}
use Rattle.hulayban_c.specs.Calls.{first_fault}
use Rattle.hulayban_c.proofs.opening.first_fault.Given as goal

-- the first fault of all is that of the rest
abbrev pub invariant-loop-each : goal.invariant-loop-each
invariant-loop-each l = first_fault (drop l.each-index l.declares) ≡ first_fault l.declares
