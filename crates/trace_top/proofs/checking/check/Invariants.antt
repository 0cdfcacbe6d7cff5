use Rattle.std.specs.Prelude.{◌≡◌, ◌++◌, List, ℕ, length}
use Rattle.std.specs.Io.KnownBytes.{Consumes}
use Rattle.trace_read.specs.Lines.{verdict_on}
use Rattle.trace_read.specs.Readers.{HasReadSoFar, told_by}
use Rattle.trace_top.proofs.checking.check.Given as goal

-- bytes were taken from the front, and the reader has read them
abbrev pub invariant-loop : goal.invariant-loop
invariant-loop g l = record {
  bytes : List ℕ;
  front : Consumes (g.S.Source.left l.fn.source) (g.S.Source.left l.source) bytes;
  stands : HasReadSoFar l.reader (λ rest. verdict_on (bytes ++ rest)) (λ rest. told_by (bytes ++ rest));
  calm : g.S.Source.faults l.source ≡ g.S.Source.faults l.fn.source;
  room : length l.buf ≡ 65536;
}
