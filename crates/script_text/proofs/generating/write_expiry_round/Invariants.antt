use Rattle.std.proofs.Common.{◌≡◌, ◌++◌, string_bytes}
use Rattle.script_text.specs.Generator.{expiry_round, lines_bytes}
use Rattle.script_text.specs.Scripts.{round_lines}
use Rattle.script_text.proofs.generating.write_expiry_round.Given as goal

-- the round so far
abbrev pub invariant-loop-lane : goal.invariant-loop-lane
invariant-loop-lane l = string_bytes l.out ≡ string_bytes l.fn.out ++ lines_bytes (round_lines (expiry_round l.lane))
