use Rattle.std.proofs.Common.{◌∙◌}
use Rattle.pass_names.proofs.Passes as clocks
use Rattle.pass_names.proofs.SharedHistory.{looks_trans}
use Rattle.ordered_clock.proofs.ordered.settle.Goals as goal

pub loop-preserved : goal.loop-preserved
loop-preserved g c =
    let before = c.loop.invariant in
    let read = c.read-now.ensures in
    let count = c.counter.ensures in
    record {
      can = tt;
      ends = tt;
      pass = count.pass;
      looks = looks_trans _ _ _ before.looks (looks_trans _ _ _ read.looks count.looks);
      locks = (count.locks.0 ∙ (read.locks.0 ∙ before.locks.0), count.locks.1 ∙ (read.locks.1 ∙ before.locks.1));
      clock = read.clock;
      clock_looks = clocks.looks_trans before.clock_looks read.clock_looks;
    }
