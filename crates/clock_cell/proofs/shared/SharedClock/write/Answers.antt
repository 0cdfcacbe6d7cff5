use Rattle.std.proofs.Common.{inr, arith}
use Rattle.pass_names.proofs.Passes.{looks_trans}
use Rattle.clock_cell.proofs.Taking.{hears_again, takes_again, few_writes}
use Rattle.clock_cell.proofs.shared.SharedClock.write.Goals as goal

pub returns-in-Made-clause-answers : goal.returns-in-Made-clause-answers
returns-in-Made-clause-answers g c =
    let before = c.loop-after.invariant in
    let turn = c.in-Made.ensures in
    record {
      ok = takes_again _ _ _ c.args.write c.in-Made.after before.looks turn.turned;
      err = tt;
      hears = hears_again _ _ _ before.heard (turn.turned.adds.seen.each 0) turn.heard;
      known = turn.known;
    }

pub returns-in-Refused-clause-answers : goal.returns-in-Refused-clause-answers
returns-in-Refused-clause-answers g c =
    let before = c.loop-after.invariant in
    let turn = c.in-Refused.ensures in
    record {
      ok = tt;
      err = record { looks = looks_trans before.looks turn.turned.looks; cause = turn.turned.cause };
      hears = hears_again _ _ _ before.heard (turn.turned.looks.seen.each 0) turn.heard;
      known = turn.known;
    }

pub loop-after-smaller : goal.loop-after-smaller
loop-after-smaller g c =
    let turn = c.in-Again.ensures in
    omega (arith, turn.turned.grown, few_writes _ turn.known)

pub loop-after-preserved : goal.loop-after-preserved
loop-after-preserved g c =
    let before = c.loop-after.invariant in
    let turn = c.in-Again.ensures in
    record {
      pass = turn.pass;
      looks = looks_trans before.looks turn.turned.looks;
      heard = inr (hears_again _ _ _ before.heard (turn.turned.looks.seen.each 0) turn.heard);
    }
