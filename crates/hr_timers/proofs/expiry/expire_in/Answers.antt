use Rattle.std.proofs.Common.{add-one, arith}
use Rattle.hr_timers.proofs.ExpiryTurns.{keeps_trans}
use Rattle.hr_timers.proofs.expiry.expire_in.Goals as goal

pub loop-fired-preserved : goal.loop-fired-preserved
loop-fired-preserved g c =
    let inv = c.loop-fired.invariant in
    let told = c.in-Fired.ensures in
    record {
      pass = told.pass;
      room = omega (arith, inv.room, told.room);
      ready = omega (arith, inv.ready, told.ready);
      suits = told.suits;
      keeps = keeps_trans c.args.pass.now.known c.loop-fired.pass.known c.turn.new.pass.known inv.keeps told.keeps;
      turns = rw add-one (c.loop-fired.pass.known, c.loop-fired.handler, c.loop-fired.log.receipts, inv.turns, told.nexts);
    }
