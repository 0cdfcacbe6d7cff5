use Rattle.timer_objects.proofs.Asking.{ends_at, ends_names}
use Rattle.timer_objects.proofs.objects.Objects.rearm.Goals as goal

pub returns-clause-ends : goal.returns-clause-ends
returns-clause-ends g c =
    ends_at c.args.self.now _ _ _ c.args.id c.args.call c.args.reading c.rearm_held.result _
    (c.rearm_held.ensures.ends c.args.pass.now c.args.objects_pass.now
    (record { looks = c.lock_in_turn-held.ensures.looks; is = c.requires.may.of_objects; locks = c.lock_in_turn-held.ensures.locks }))

pub returns-clause-names : goal.returns-clause-names
returns-clause-names g c =
    ends_names c.args.self.now c.args.timers.now.about _ _ c.args.id c.args.call c.args.reading c.rearm_held.result
    (ends_at c.args.self.now _ _ _ c.args.id c.args.call c.args.reading c.rearm_held.result _
    (c.rearm_held.ensures.ends c.args.pass.now c.args.objects_pass.now
    (record { looks = c.lock_in_turn-held.ensures.looks; is = c.requires.may.of_objects; locks = c.lock_in_turn-held.ensures.locks })))
