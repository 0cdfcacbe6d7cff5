use Rattle.script_text.proofs.Filling.{line_of_form-count, line_of_form-values, line_filled}
use Rattle.script_text.proofs.reading.lines.fill_line.Goals as goal

pub returns-then-words-fields : goal.returns-then-words-fields
returns-then-words-fields c = line_of_form-count c.args.form c.args.words.now c.fields.result.now c.fields.ensures c.if-words-fields.true

pub returns : goal.returns
returns c =
    line_filled c.fill.result c.args.form _ _ c.fill.new.values
    (line_of_form-values c.args.form c.args.words.now c.fields.result.now c.fields.ensures c.if-words-fields.false) c.fill.ensures
