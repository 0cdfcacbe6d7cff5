use Rattle.seq_timer.proofs.Spans.{legal_runs_inside}
use Rattle.seq_timer.proofs.laws.running_is_told_inside_the_span.Goals as goal

pub returns : goal.returns
returns c = legal_runs_inside
