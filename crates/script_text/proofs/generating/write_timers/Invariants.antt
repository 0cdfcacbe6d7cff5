use Rattle.std.proofs.Common.{◌≡◌, ◌++◌, string_bytes}
use Rattle.script_text.specs.Generator.{lane_timers, lines_bytes}
use Rattle.script_text.specs.Scripts.{declaration_lines}
use Rattle.script_text.proofs.generating.write_timers.Given as goal

-- the declarations so far
abbrev pub invariant-loop-lane : goal.invariant-loop-lane
invariant-loop-lane l = string_bytes l.out ≡ string_bytes l.fn.out ++ lines_bytes (declaration_lines 0 (lane_timers l.lane))
