-- What is written so far of what stands below an item.
use Rattle.std.proofs.Common.{◌≡◌, ◌++◌, map, drop}
use Rattle.record_text.specs.Numbers.{HaveMachineNumbers}
use Rattle.record_text.specs.Text.{lines_text}
use Rattle.record_text.proofs.writing.sections.write_below.Given as goal

-- what is written so far and the lines of the rest are what all come to, and so with their numbers
abbrev pub invariant-loop-item : goal.invariant-loop-item
invariant-loop-item g l = record {
  text : l.out ++ lines_text l.version (map (g.K.HasLineBelow.line l.list l.number) (drop l.item-index l.below))
      ≡ l.fn.out ++ lines_text l.version (map (g.K.HasLineBelow.line l.list l.number) l.below);
  numbers : HaveMachineNumbers (map (g.K.HasLineBelow.line l.list l.number) (drop l.item-index l.below))
      → HaveMachineNumbers (map (g.K.HasLineBelow.line l.list l.number) l.below);
}
