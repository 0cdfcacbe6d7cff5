use Rattle.std.proofs.Common.{◌≡◌, map}
use Rattle.script_text.specs.Forms.{row}
use Rattle.script_text.specs.Reading.{values_in}
use Rattle.script_text.proofs.Filling.{values_from, with_front}
use Rattle.script_text.proofs.reading.lines.fill.Given as goal

-- the values so far, and what the rest gives, are what the words give
abbrev pub invariant-loop-field : goal.invariant-loop-field
invariant-loop-field l =
    with_front l.values (values_from l.field-iterator.a.rest.now l.field-iterator.b.rest.now) ≡ values_in (row l.fn.form)
    (map (λ w. w.now) l.fn.words)
