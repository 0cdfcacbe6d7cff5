-- What is written of lists so far.
use Rattle.std.proofs.Common.{◌≡◌, ◌++◌, drop}
use Rattle.record_text.specs.Numbers.{HaveMachineNumbers}
use Rattle.record_text.specs.Text.{lines_in_lists, lines_text}
use Rattle.record_text.proofs.writing.sections.write_lists.Given as goal

-- what is written so far and the lines of the rest are what all come to, and so with their numbers
abbrev pub invariant-loop-list : goal.invariant-loop-list
invariant-loop-list g l = record {
  text : l.out ++ lines_text l.version (lines_in_lists g.X.HasLines.lines l.first l.list (drop l.list l.lists))
      ≡ l.fn.out ++ lines_text l.version (lines_in_lists g.X.HasLines.lines l.first 0 l.lists);
  numbers : HaveMachineNumbers (lines_in_lists g.X.HasLines.lines l.first l.list (drop l.list l.lists))
      → HaveMachineNumbers (lines_in_lists g.X.HasLines.lines l.first 0 l.lists);
}
