use Rattle.std.proofs.Common.{sym, ◌∙◌}
use Rattle.script_text.proofs.Finding.{found_here, found_past, found_end}
use Rattle.script_text.proofs.reading.forms.find_form.Goals as goal

pub returns-then-is_named : goal.returns-then-is_named
returns-then-is_named c = sym
    (found_here c.args.version c.args.forms.now c.loop-name.name-index _ c.args.word.now c.loop-name-test.true (sym c.is_named.ensures ∙ c.if-is_named.true))
    ∙ c.loop-name.invariant

pub loop-name-preserved : goal.loop-name-preserved
loop-name-preserved c =
    sym (found_past c.args.version c.args.forms.now c.loop-name.name-index _ c.args.word.now c.loop-name-test.true (sym c.is_named.ensures ∙ c.if-is_named.false))
    ∙ c.loop-name.invariant

pub returns : goal.returns
returns c = sym (found_end c.args.version c.args.forms.now c.loop-name.name-index c.args.word.now c.loop-name-test.false) ∙ c.loop-name.invariant
