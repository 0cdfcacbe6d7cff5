use Rattle.trace_read.specs.Lines.{trace_lines}
use Rattle.trace_read.proofs.Meanings.{judged_means}
use Rattle.trace_read.proofs.laws.an_answer_means_what_it_says.Goals as goal

pub returns : goal.returns
returns c = λ bytes. judged_means (trace_lines bytes)
