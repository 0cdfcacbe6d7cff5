use Rattle.script_text.proofs.Laws.{read_or_refused, never_both}
use Rattle.script_text.proofs.reading.laws.bytes_are_read_or_refused.Goals as goal

pub returns-clause-either : goal.returns-clause-either
returns-clause-either c = read_or_refused

pub returns-clause-never_both : goal.returns-clause-never_both
returns-clause-never_both c = never_both
