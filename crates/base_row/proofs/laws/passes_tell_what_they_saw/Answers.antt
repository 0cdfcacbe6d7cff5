use Rattle.base_row.proofs.Calling.{meet_with, takes_in}
use Rattle.base_row.proofs.laws.passes_tell_what_they_saw.Goals as goal

pub returns-clause-retire : goal.returns-clause-retire
returns-clause-retire c v u w a = takes_in v u w a

pub returns-clause-meet : goal.returns-clause-meet
returns-clause-meet c a b new_a new_b second first = meet_with a b new_a new_b second first
