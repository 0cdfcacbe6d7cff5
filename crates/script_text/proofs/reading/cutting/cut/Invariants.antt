use Rattle.std.proofs.Common.{◌≡◌, ◌++◌, ◌≤◌, ◌-◌, map, take, drop}
use Rattle.record_text.proofs.Cutting.{Without}
use Rattle.script_text.specs.Reading.{words_in}
use Rattle.script_text.proofs.reading.cutting.cut.Given as goal

-- the words so far and those of the rest are all, and no space stands between the last one's end and here
abbrev pub invariant-loop-at : goal.invariant-loop-at
invariant-loop-at l = record {
  order : l.start ≤ l.at;
  words : map (λ w. w.now) l.words.items ++ words_in (drop l.start l.line) ≡ map (λ w. w.now) l.fn.words.items ++ words_in l.line;
  apart : Without 32 (take (l.at - l.start) (drop l.start l.line));
}
