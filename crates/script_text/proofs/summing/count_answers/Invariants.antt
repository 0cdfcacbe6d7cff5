use Rattle.std.proofs.Common.{◌≡◌, ◌+◌, drop, length}
use Rattle.std.specs.List.{sum_by}
use Rattle.script_text.proofs.summing.count_answers.Given as goal

-- the sum so far and that of the rest are the sum of all
abbrev pub invariant-loop-answers : goal.invariant-loop-answers
invariant-loop-answers l = l.sum + sum_by length (drop l.answers-index l.lanes) ≡ sum_by length l.lanes
