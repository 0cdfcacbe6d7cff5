use Rattle.std.proofs.Common.{subst}
use Rattle.pass_names.proofs.Passes.{looks_trans}
use Rattle.signal_queue.specs.Views.{IsPassOfQueue}
use Rattle.ordered_signals.proofs.looking.see_pops.Goals as goal

pub loop-preserved : goal.loop-preserved
loop-preserved g c = record {
  can = tt;
  ends = tt;
  pass = subst (λ q. IsPassOfQueue q c.look-end.new.pass) c.lend_pop.ensures c.look-end.ensures.pass;
  looks = looks_trans c.loop.invariant.looks c.look-end.ensures.looks;
}
