use Rattle.object_uses.proofs.Keeping.{keeps_unless}
use Rattle.object_uses.proofs.setting.set_timer.Goals as goal

pub returns-clause-keeps : goal.returns-clause-keeps
returns-clause-keeps g c =
    let told = c.settime.ensures in
    let keeps = keeps_unless _ _ _ _ _ _ _ _ _ _ _ told.settimes in
    record { of_timers = told.timers; keeps = keeps.0; of_objects = told.objects; goes_on = keeps.1 }
