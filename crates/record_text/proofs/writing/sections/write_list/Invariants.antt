-- What is written of a list so far.
use Rattle.std.proofs.Common.{◌≡◌, ◌++◌, ◌+◌, drop}
use Rattle.record_text.specs.Numbers.{HaveMachineNumbers}
use Rattle.record_text.specs.Text.{lines_text, numbered}
use Rattle.record_text.proofs.writing.sections.write_list.Given as goal

-- what is written so far and the lines of the rest are what all come to, and so with their numbers
abbrev pub invariant-loop-index : goal.invariant-loop-index
invariant-loop-index g l = record {
  text : l.out ++ lines_text l.version (numbered (g.X.HasLines.lines l.list) (l.first + l.index) (drop l.index l.items))
      ≡ l.fn.out ++ lines_text l.version (numbered (g.X.HasLines.lines l.list) l.first l.items);
  numbers : HaveMachineNumbers (numbered (g.X.HasLines.lines l.list) (l.first + l.index) (drop l.index l.items))
      → HaveMachineNumbers (numbered (g.X.HasLines.lines l.list) l.first l.items);
}
