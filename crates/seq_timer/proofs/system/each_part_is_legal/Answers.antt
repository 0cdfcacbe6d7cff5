use Rattle.seq_timer.proofs.Agreement.{part_legal}
use Rattle.seq_timer.proofs.system.each_part_is_legal.Goals as goal

pub returns : goal.returns
returns c bases terms list log history t clock here = part_legal bases terms list log history t clock here
