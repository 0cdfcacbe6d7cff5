use Rattle.std.proofs.Common.{◌≡◌, ◌+◌, drop, map}
use Rattle.script_text.specs.Drafts.{IsWithinLimits, empty}
use Rattle.script_text.specs.Refusals.{script_from}
use Rattle.script_text.proofs.reading.parsing.read_lines.Given as goal

abbrev pub invariant-loop-line : goal.invariant-loop-line
invariant-loop-line l = record {
  number : l.number ≡ l.line-index;
  so_far : script_from (l.line-index + 1) l.draft (map (λ p. p.now) (drop l.line-index l.lines)) ≡ script_from 1 empty (map (λ p. p.now) l.lines);
  room : IsWithinLimits l.draft;
}
