use Rattle.std.proofs.Common.{◌≡◌, map, drop}
use Rattle.std.specs.List.{list_any}
use Rattle.trace_text.specs.Reading.{ends_loss}
use Rattle.trace_text.proofs.reading.ends_loss.Given as goal

-- none of the words so far ends such a line
abbrev pub invariant-loop-word : goal.invariant-loop-word
invariant-loop-word l =
    list_any ends_loss (map (λ w. w.now) (drop l.word-index l.fn.words)) ≡ list_any ends_loss (map (λ w. w.now) l.fn.words)
