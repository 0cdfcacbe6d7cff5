use Rattle.std.proofs.Common.{inr}
use Rattle.clock_cell.proofs.Taking.{hears_again}
use Rattle.pass_names.proofs.Passes.{looks_trans}
use Rattle.ordered_clock.proofs.ordered.read_from.Goals as goal

pub returns-then-now-least-clause-heard : goal.returns-then-now-least-clause-heard
returns-then-now-least-clause-heard g c =
    hears_again _ _ _ c.loop.invariant.heard (c.read-now.ensures.looks.seen.each 0) c.read-now.ensures.heard

pub loop-preserved : goal.loop-preserved
loop-preserved g c = record {
  can = tt;
  ends = tt;
  clock = c.read-now.ensures.pass;
  looks = looks_trans c.loop.invariant.looks c.read-now.ensures.looks;
  heard = inr (hears_again _ _ _ c.loop.invariant.heard (c.read-now.ensures.looks.seen.each 0) c.read-now.ensures.heard);
}
