use Rattle.std.proofs.Common.{sym, ◌∙◌}
use Rattle.script_text.proofs.Laws.{read_again}
use Rattle.script_text.proofs.Scripts.{read_from}
use Rattle.script_text.proofs.reading.parsing.parse.Goals as goal

pub returns-in-Ok-clause-script : goal.returns-in-Ok-clause-script
returns-in-Ok-clause-script c = read_from c.args.bytes.now c.in-Ok.script (sym c.in_ok-script.ensures ∙ c.in-Ok.is)

pub returns-in-Ok-clause-reads : goal.returns-in-Ok-clause-reads
returns-in-Ok-clause-reads c s reads = sym (read_again c.args.bytes.now s reads) ∙ sym c.in_ok-script.ensures ∙ c.in-Ok.is

pub returns-in-Err-clause-reads : goal.returns-in-Err-clause-reads
returns-in-Err-clause-reads c s reads = sym (read_again c.args.bytes.now s reads) ∙ sym c.in_ok-script.ensures ∙ c.in-Err.is
