use Rattle.std.proofs.Common.{◌≡◌, ◌++◌, string_bytes}
use Rattle.std.specs.List.{flat_map}
use Rattle.trace_top.specs.Texts.{rows_of}
use Rattle.trace_top.proofs.summary.table.Given as goal

-- with the rows of the processors that are left, the text is the whole one
abbrev pub invariant-loop-processor : goal.invariant-loop-processor
invariant-loop-processor l =
    string_bytes l.text ++ flat_map (λ row. rows_of row.0 row.1) l.processor-iterator
    ≡ string_bytes l.initial.text ++ flat_map (λ row. rows_of row.0 row.1) l.initial.processor-iterator
