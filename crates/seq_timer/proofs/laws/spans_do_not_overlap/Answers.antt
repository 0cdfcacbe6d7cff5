use Rattle.seq_timer.specs.Steps.{opening}
use Rattle.seq_timer.proofs.Spans.{apart_from}
use Rattle.seq_timer.proofs.laws.spans_do_not_overlap.Goals as goal

pub returns : goal.returns
returns c clock terms history legal = apart_from (opening clock terms) 1 history legal
