use Rattle.seq_timer.proofs.Spans.{one_generation}
use Rattle.seq_timer.proofs.laws.a_span_has_one_generation.Goals as goal

pub returns : goal.returns
returns c = one_generation
