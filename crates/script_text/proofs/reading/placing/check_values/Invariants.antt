use Rattle.std.proofs.Common.{◌≡◌, drop}
use Rattle.script_text.specs.Forms.{row}
use Rattle.script_text.specs.Refusals.{check_values}
use Rattle.script_text.proofs.reading.placing.check_values.Given as goal

abbrev pub invariant-loop-field : goal.invariant-loop-field
invariant-loop-field l =
    check_values l.draft l.base (drop l.field-index (row l.fn.form)) l.rest ≡ check_values l.fn.draft 0 (row l.fn.form) l.fn.values
