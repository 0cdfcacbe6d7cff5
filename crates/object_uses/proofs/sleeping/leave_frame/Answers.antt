use Rattle.object_uses.proofs.Keeping.{keeps_interrupt}
use Rattle.object_uses.proofs.sleeping.leave_frame.Goals as goal

pub returns-clause-keeps : goal.returns-clause-keeps
returns-clause-keeps g c =
    let told = c.interrupt.ensures in
    let keeps = keeps_interrupt _ _ _ _ _ _ _ told.interrupts in
    record { of_timers = told.pass; keeps = keeps.0; of_objects = told.objects; goes_on = keeps.1 }
