use Rattle.object_uses.proofs.Keeping.{keeps_sleep}
use Rattle.object_uses.proofs.sleeping.await_frame.Goals as goal

pub returns-clause-keeps : goal.returns-clause-keeps
returns-clause-keeps g c =
    let told = c.sleep.ensures in
    let keeps = keeps_sleep _ _ _ _ _ _ _ _ _ _ told.sleeps in
    record { of_timers = told.pass; keeps = keeps.0; of_objects = told.objects; goes_on = keeps.1 }
