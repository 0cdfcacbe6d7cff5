use Rattle.seq_timer.proofs.Agreement.{stamp_counts}
use Rattle.seq_timer.proofs.system.stamps_count_entries.Goals as goal

pub returns : goal.returns
returns c terms list log t = stamp_counts terms list log t
