use Rattle.std.proofs.Common.{◌≡◌, ◌++◌, map, drop}
use Rattle.std.specs.Fmt.{decimal}
use Rattle.record_text.specs.Numbers.{AreMachineNumbers}
use Rattle.record_text.specs.Text.{spaced}
use Rattle.record_text.proofs.writing.words.write_numbers.Given as goal

-- what is written so far and the words of the rest are what all come to, and so with their numbers
abbrev pub invariant-loop-number : goal.invariant-loop-number
invariant-loop-number l = record {
  text : l.out ++ spaced (map decimal (drop l.number-index l.numbers)) ≡ l.fn.out ++ spaced (map decimal l.numbers);
  numbers : AreMachineNumbers (drop l.number-index l.numbers) → AreMachineNumbers l.numbers;
}
