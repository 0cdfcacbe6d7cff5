use Rattle.std.proofs.Common.{◌≡◌, ◌≤◌, drop}
use Rattle.trace_text.specs.Words.{number_from}
use Rattle.trace_text.proofs.numbers.number.Given as goal

-- the number so far, and the digits left, give the number of all
abbrev pub invariant-loop-byte : goal.invariant-loop-byte
invariant-loop-byte l = record {
  rest : number_from l.fn.radix l.fn.most l.n (drop l.byte-index l.fn.word) ≡ number_from l.fn.radix l.fn.most 0 l.fn.word;
  most : l.n ≤ l.fn.most;
}
