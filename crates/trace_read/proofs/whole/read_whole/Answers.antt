use Rattle.std.proofs.Common.{sym, subst}
use Rattle.trace_read.specs.Lines.{verdict_on}
use Rattle.trace_read.specs.Readers.{IsTallied, told_by}
use Rattle.trace_read.proofs.Meanings.{answered}
use Rattle.trace_read.proofs.whole.read_whole.Goals as goal

pub returns-clause-answer : goal.returns-clause-answer
returns-clause-answer c = answered c.args.text.now c.in_ok-verdict.verdict (c.in_ok-verdict.ensures verdict_on told_by c.new-reader.ensures).0

pub returns-clause-tally : goal.returns-clause-tally
returns-clause-tally c =
    subst (λ t. IsTallied c.in_ok-verdict.verdict t (told_by c.args.text.now)) (sym c.into_tally.ensures)
    (c.in_ok-verdict.ensures verdict_on told_by c.new-reader.ensures).1
