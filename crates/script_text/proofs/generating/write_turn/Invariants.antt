use Rattle.std.proofs.Common.{◌≡◌, ◌++◌, ◌*◌, ◌<◌, string_bytes, map}
use Rattle.script_text.specs.Generator.{lines_bytes, number_after, turn}
use Rattle.script_text.specs.CallLines.{call_line}
use Rattle.script_text.proofs.generating.write_turn.Given as goal

-- the calls of the lanes so far, and the number after their draws
abbrev pub invariant-loop-lane : goal.invariant-loop-lane
invariant-loop-lane l = record {
  text : string_bytes l.out ≡ string_bytes l.fn.out ++ lines_bytes (map (λ c. call_line c.lane c.call) (turn l.x l.lane));
  now : l.now ≡ number_after (3 * l.lane) l.x;
  small : l.now < 2147483648;
}
