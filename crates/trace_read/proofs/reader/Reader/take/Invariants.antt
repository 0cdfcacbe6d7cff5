use Rattle.std.proofs.Common.{◌++◌, List, ℕ, take}
use Rattle.trace_text.specs.declared.event.KernelEvent.{KernelEvent}
use Rattle.trace_read.specs.declared.verdict.Verdict.{Verdict}
use Rattle.trace_read.specs.Readers.{HasReadSoFar}
use Rattle.trace_read.proofs.reader.Reader.take.Given as goal

-- the bytes so far were read
abbrev pub invariant-loop-byte : goal.invariant-loop-byte
invariant-loop-byte l = (answer : List ℕ → Verdict) (told : List ℕ → List KernelEvent) → HasReadSoFar l.fn.self answer told
    → HasReadSoFar l.self (λ rest. answer (take l.byte-index l.fn.piece ++ rest)) (λ rest. told (take l.byte-index l.fn.piece ++ rest))
