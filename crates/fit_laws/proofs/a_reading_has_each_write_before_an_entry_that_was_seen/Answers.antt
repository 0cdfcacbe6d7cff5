use Rattle.fit_laws.proofs.Readings.{reads_what_was_seen}
use Rattle.fit_laws.proofs.a_reading_has_each_write_before_an_entry_that_was_seen.Goals as goal

pub returns : goal.returns
returns c = reads_what_was_seen
