use Rattle.trace_read.specs.Readers.{told_by}
use Rattle.hulayban_trace.proofs.Checked.{named_by}
use Rattle.hulayban_trace.proofs.checking.check.Goals as goal

pub returns : goal.returns
returns c = record {
  verdict = c.in_ok-verdict.verdict;
  answers = c.in_ok-verdict.ensures.answer;
  timers = c.timers.result;
  processors = c.processors.result;
  named = named_by c.in_ok-verdict.verdict c.in_ok-verdict.tally (told_by c.args.text.now) c.timers.result c.processors.result c.in_ok-verdict.ensures.tally
      c.timers.ensures c.processors.ensures;
  tells = c.check_tells.ensures;
}
