use Rattle.std.proofs.Common.{length}
use Rattle.seq_timer.specs.Systems.{first_system, openings}
use Rattle.seq_timer.proofs.OffLine.{standing_fits}
use Rattle.seq_timer.proofs.Systems.{after_entries-shifts_of, shifts_by_turns}
use Rattle.seq_timer.proofs.system.each_base_goes_by_turns.Goals as goal

pub returns-clause-turns : goal.returns-clause-turns
returns-clause-turns c bases terms list log history base = shifts_by_turns bases (length list) (first_system (openings list terms)) base log history

pub returns-clause-stands : goal.returns-clause-stands
returns-clause-stands c terms list log base = after_entries-shifts_of (first_system (openings list terms)) base log

pub returns-clause-fits : goal.returns-clause-fits
returns-clause-fits c bases terms list log history base = standing_fits bases (length list) (openings list terms) log history base
