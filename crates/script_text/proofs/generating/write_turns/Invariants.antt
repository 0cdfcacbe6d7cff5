use Rattle.std.proofs.Common.{◌≡◌, ◌++◌, ◌*◌, ◌<◌, ◌≤◌, string_bytes}
use Rattle.std.specs.List.{flat_map, range_with_len}
use Rattle.script_text.specs.Generator.{four_turns, lines_bytes, number_after}
use Rattle.script_text.specs.Scripts.{round_lines}
use Rattle.script_text.proofs.generating.write_turns.Given as goal

-- the rounds so far, and the number after their draws, where turns are left
abbrev pub invariant-loop-i : goal.invariant-loop-i
invariant-loop-i l = record {
  text : string_bytes l.out
      ≡ string_bytes l.fn.out ++ lines_bytes (flat_map round_lines (flat_map (four_turns l.seed l.lanes l.calls) (range_with_len 0 l.i)));
  now : 4 * l.i ≤ l.calls → l.x ≡ number_after (3 * l.lanes * (4 * l.i)) l.seed;
  small : l.x < 2147483648;
}
