use Rattle.object_uses.proofs.Keeping.{keeps_read_fd}
use Rattle.object_uses.proofs.Taking.{read_fits}
use Rattle.object_uses.proofs.counts.read_count.Goals as goal

pub returns-clause-keeps : goal.returns-clause-keeps
returns-clause-keeps g c =
    let told = c.read.ensures in
    let keeps = keeps_read_fd _ _ _ _ _ 0 0 0 _ _ _ told.reads in
    record { of_timers = told.pass; keeps = keeps.0; of_objects = told.objects; goes_on = keeps.1 }

pub returns-clause-reads : goal.returns-clause-reads
returns-clause-reads g c = read_fits _ _ _ _ _ _ _ _ c.read.ensures.reads
