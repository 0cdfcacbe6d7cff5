use Rattle.object_uses.proofs.Keeping.{keeps_accept}
use Rattle.object_uses.proofs.Taking.{accept_fits}
use Rattle.object_uses.proofs.signals.accept_signal.Goals as goal

pub returns-clause-keeps : goal.returns-clause-keeps
returns-clause-keeps g c =
    let told = c.accept.ensures in
    let keeps = keeps_accept _ _ _ _ _ 0 0 0 _ _ told.accepts in
    record { of_timers = told.pass; keeps = keeps.0; of_objects = told.objects; goes_on = keeps.1 }

pub returns-clause-accepts : goal.returns-clause-accepts
returns-clause-accepts g c = accept_fits _ _ _ _ _ _ _ c.accept.ensures.accepts
