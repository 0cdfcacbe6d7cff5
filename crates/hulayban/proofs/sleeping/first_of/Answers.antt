use Rattle.pass_names.proofs.SharedHistory.{looks_trans}
use Rattle.hulayban.proofs.sleeping.first_of.Goals as goal

pub loop-preserved : goal.loop-preserved
loop-preserved g c = record {
  can = tt;
  ends = tt;
  pass = c.try_next.ensures.pass;
  looks = looks_trans _ _ _ c.loop.invariant.looks c.in-Contended.ensures.next.looks;
}
