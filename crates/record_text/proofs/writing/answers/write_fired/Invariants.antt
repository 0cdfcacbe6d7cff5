use Rattle.std.proofs.Common.{◌≡◌, ◌++◌, map, drop}
use Rattle.std.specs.Fmt.{decimal}
use Rattle.record_text.specs.Numbers.{AreMachineNumbers}
use Rattle.record_text.specs.Text.{spaced}
use Rattle.record_text.proofs.writing.answers.write_fired.Given as goal

-- what is written so far and the words of the rest are what all come to, and so with their numbers
abbrev pub invariant-loop-timer : goal.invariant-loop-timer
invariant-loop-timer l = record {
  text : l.out ++ spaced (map decimal (drop l.timer-index l.fired)) ≡ l.fn.out ++ spaced (map decimal l.fired);
  numbers : AreMachineNumbers (drop l.timer-index l.fired) → AreMachineNumbers l.fired;
}
