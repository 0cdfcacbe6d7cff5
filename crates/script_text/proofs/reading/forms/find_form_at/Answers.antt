use Rattle.std.proofs.Common.{sym, ◌∙◌}
use Rattle.script_text.proofs.Finding.{find_form_by_first_none, find_form_by_first_some}
use Rattle.script_text.proofs.reading.forms.find_form_at.Goals as goal

pub returns-in-Some : goal.returns-in-Some
returns-in-Some c = let found =
    c.in-Some.ensures.lookup in c.find_form.ensures
    ∙ sym (find_form_by_first_some c.args.version _ c.args.words.now c.args.at c.in-Some.word.now found.3.0 found.1)

pub returns-in-None : goal.returns-in-None
returns-in-None c = sym (find_form_by_first_none c.args.version _ c.args.words.now c.args.at c.in-None.ensures.lookup.3)
