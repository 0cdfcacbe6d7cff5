use Rattle.fit_laws.proofs.Readings.{reads_before_entries}
use Rattle.fit_laws.proofs.a_reading_has_no_write_behind_an_entry_of_its_call.Goals as goal

pub returns : goal.returns
returns c = reads_before_entries
