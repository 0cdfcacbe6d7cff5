use Rattle.hr_timers.proofs.ExpiryTurns.{looks_then}
use Rattle.hr_timers.proofs.expiry.cancel.Goals as goal

pub loop-preserved : goal.loop-preserved
loop-preserved g c =
    let told = c.in-Running.ensures.cancels in
    record {
      can = tt;
      ends = tt;
      pass = c.try_to_cancel.ensures.pass;
      looks = looks_then c.args.pass.now.known c.loop.pass.known c.try_to_cancel.new.pass.known c.args.timer told.at c.loop.invariant.looks
          told.made told.claims;
    }
