use Rattle.std.proofs.Common.{rules}
use Rattle.hulayban.proofs.system.System.run_both.Goals as goal

pub returns-clause-ran : goal.returns-clause-ran
returns-clause-ran g c = record {
  one = c.split-other.new.me;
  two = c.split-other.result;
  splits = c.split-other.ensures.splits;
  one_after = c.in-Some-Some.me;
  two_after = c.in-Some-Some.other;
  one_done = c.join_mut-done.result.0;
  two_done = c.join_mut-done.result.1;
  first = search rules;
  second = search rules;
  retires = c.retire.ensures.retires;
  both = c.both.ensures;
}
