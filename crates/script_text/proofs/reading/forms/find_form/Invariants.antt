use Rattle.std.proofs.Common.{◌≡◌}
use Rattle.script_text.proofs.Finding.{found_from}
use Rattle.script_text.proofs.reading.forms.find_form.Given as goal

-- the word names among the rest what it names among all
abbrev pub invariant-loop-name : goal.invariant-loop-name
invariant-loop-name l = found_from l.version l.forms l.name-index l.word ≡ found_from l.version l.forms 0 l.word
