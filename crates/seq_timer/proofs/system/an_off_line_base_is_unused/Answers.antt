use Rattle.seq_timer.specs.Systems.{system_of}
use Rattle.seq_timer.proofs.Agreement.{all_agree}
use Rattle.seq_timer.proofs.OffLine.{all_clear, unused}
use Rattle.seq_timer.proofs.system.an_off_line_base_is_unused.Goals as goal

pub returns-clause-unused : goal.returns-clause-unused
returns-clause-unused c bases terms list log history base heir off =
    unused (system_of list terms log) (all_agree bases terms list log history) base ((all_clear bases terms list log history).each base heir off)

pub returns-clause-reach : goal.returns-clause-reach
returns-clause-reach c bases terms list log history = (all_clear bases terms list log history).reach
