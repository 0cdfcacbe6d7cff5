use Rattle.ordered_signals.proofs.Places.{room_first}
use Rattle.ordered_signals.proofs.laws.a_push_stands_where_there_is_room.Goals as goal

pub returns : goal.returns
returns c = λ o old new number there keeps p. room_first o old new number there keeps p
