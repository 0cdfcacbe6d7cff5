use Rattle.std.proofs.Common.{◌≡◌, map, drop}
use Rattle.trace_text.specs.Fields.{field}
use Rattle.trace_text.proofs.fields.field.Given as goal

-- none of the words so far has the key
abbrev pub invariant-loop-word : goal.invariant-loop-word
invariant-loop-word l = field l.fn.key (map (λ w. w.now) (drop l.word-index l.fn.words)) ≡ field l.fn.key (map (λ w. w.now) l.fn.words)
