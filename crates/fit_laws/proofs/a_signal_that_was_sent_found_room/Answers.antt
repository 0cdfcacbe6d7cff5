use Rattle.fit_laws.proofs.SignalLaws.{found_room}
use Rattle.fit_laws.proofs.a_signal_that_was_sent_found_room.Goals as goal

pub returns : goal.returns
returns c = found_room
