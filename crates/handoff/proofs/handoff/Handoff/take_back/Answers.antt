use Rattle.std.proofs.Common.{refl}
use Rattle.handoff.proofs.handoff.Handoff.take_back.Goals as goal

pub try_take_back-requires : goal.try_take_back-requires
try_take_back-requires g c =
    let v = c.requires.giver.0 in record { giver = (v, c.loop.invariant.given v c.requires.giver.1) }

pub returns-in-Some-try_take_back-clause-done : goal.returns-in-Some-try_take_back-clause-done
returns-in-Some-try_take_back-clause-done g c = λ v giver. c.in-Some-try_take_back.ensures.done v (c.loop.invariant.given v giver)

pub loop-preserved : goal.loop-preserved
loop-preserved g c = record { can = tt; ends = tt; given = λ v giver. c.in_default.ensures.waits refl v (c.loop.invariant.given v giver) }
