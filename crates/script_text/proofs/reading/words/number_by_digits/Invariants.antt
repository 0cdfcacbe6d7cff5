use Rattle.std.proofs.Common.{◌≡◌, take}
use Rattle.std.specs.Str.Parse.{AllDigits, digits_value}
use Rattle.script_text.proofs.reading.words.number_by_digits.Given as goal

-- the bytes so far are digits, and write the number so far
abbrev pub invariant-loop-byte : goal.invariant-loop-byte
invariant-loop-byte l = record {
  all : AllDigits 10 (take l.byte-index l.word);
  value : l.n ≡ digits_value 10 (take l.byte-index l.word);
}
