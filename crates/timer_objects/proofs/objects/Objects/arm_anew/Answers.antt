use Rattle.timer_objects.specs.Rearming.{caller_of}
use Rattle.timer_objects.proofs.AnewMade.{anew_names, ends_after}
use Rattle.timer_objects.proofs.objects.Objects.arm_anew.Goals as goal

pub returns-in-Some-tried-clause-ends : goal.returns-in-Some-tried-clause-ends
returns-in-Some-tried-clause-ends g c =
    ends_after _ _ _ _ _ _ c.args.call.now c.in-Some-tried.ended c.loop.invariant.waits c.in-Some-tried.ensures.ends

pub returns-in-Some-tried-clause-names : goal.returns-in-Some-tried-clause-names
returns-in-Some-tried-clause-names g c =
    let old = caller_of c.args.pass.now c.args.objects_pass.now c.args.log.now c.args.object_log.now in
    anew_names c.args.self.now c.args.timers.now.about old _ c.args.id c.args.call.now c.in-Some-tried.ended
    (ends_after _ _ _ _ _ _ c.args.call.now c.in-Some-tried.ended c.loop.invariant.waits c.in-Some-tried.ensures.ends)
