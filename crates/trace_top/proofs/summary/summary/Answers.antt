use Rattle.std.proofs.Common.{string_bytes}
use Rattle.trace_top.proofs.summary.summary.Goals as goal

pub returns : goal.returns
returns c = λ past counts. record {
  line = string_bytes c.in_ok-text.text;
  fits = c.in_ok-text.ensures past counts;
  tally = c.args.tally.now;
  counts = counts;
  table = c.in_ok-table.ensures;
}
