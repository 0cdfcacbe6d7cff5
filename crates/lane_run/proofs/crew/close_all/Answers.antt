use Rattle.lane_run.proofs.Crewing.{ended_last}
use Rattle.lane_run.proofs.crew.close_all.Goals as goal

pub loop-handoff-preserved : goal.loop-handoff-preserved
loop-handoff-preserved c =
    (ended_last _ c.pop.new.self.items _ c.pop-in-Some.new.self.items c.in-Some.handoff c.in-Some-pop.giver c.in-Some.ensures.items
    c.in-Some-pop.ensures.items c.loop-handoff.invariant).0
