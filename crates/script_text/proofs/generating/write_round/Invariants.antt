use Rattle.std.proofs.Common.{◌≡◌, ◌++◌, ◌*◌, ◌<◌, string_bytes}
use Rattle.script_text.specs.Generator.{lines_bytes, number_after, drawn_turns}
use Rattle.script_text.specs.Scripts.{round_lines}
use Rattle.script_text.proofs.generating.write_round.Given as goal

-- the turns so far, and the number after their draws
abbrev pub invariant-loop-i : goal.invariant-loop-i
invariant-loop-i l = record {
  text : string_bytes l.out ≡ string_bytes l.fn.out ++ lines_bytes (round_lines (record { calls = drawn_turns l.x l.lanes l.i }));
  now : l.now ≡ number_after (3 * l.lanes * l.i) l.x;
  small : l.now < 2147483648;
}
