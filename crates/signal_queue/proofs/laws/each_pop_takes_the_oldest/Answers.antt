use Rattle.std.proofs.Common.{[], arith}
use Rattle.signal_queue.proofs.Turns.{oldest, whole, within_room}
use Rattle.signal_queue.proofs.laws.each_pop_takes_the_oldest.Goals as goal

pub returns-clause-oldest : goal.returns-clause-oldest
returns-clause-oldest c = λ room before after s are. oldest room [] before after s are

pub returns-clause-whole : goal.returns-clause-whole
returns-clause-whole c = λ room turns are. whole room [] turns are

pub returns-clause-room : goal.returns-clause-room
returns-clause-room c = λ room turns are. within_room room [] turns (omega arith) are
