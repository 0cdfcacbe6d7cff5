use Rattle.object_uses.proofs.Keeping.{keeps_wait}
use Rattle.object_uses.proofs.Taking.{wait_fits}
use Rattle.object_uses.proofs.blocking.wait_for_count.Goals as goal

pub returns-clause-keeps : goal.returns-clause-keeps
returns-clause-keeps g c =
    let told = c.read_wait.ensures in
    let keeps = keeps_wait _ _ _ _ _ 0 0 0 _ _ _ told.reads in
    record { of_timers = told.pass; keeps = keeps.0; of_objects = told.objects; goes_on = keeps.1 }

pub returns-clause-reads : goal.returns-clause-reads
returns-clause-reads g c = wait_fits _ _ _ _ _ _ _ _ c.read_wait.ensures.reads
