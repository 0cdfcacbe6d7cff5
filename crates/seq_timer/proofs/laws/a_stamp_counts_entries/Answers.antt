use Rattle.seq_timer.proofs.Limits.{stamp-state_after}
use Rattle.seq_timer.proofs.laws.a_stamp_counts_entries.Goals as goal

pub returns : goal.returns
returns c clock terms history legal = stamp-state_after clock terms history
