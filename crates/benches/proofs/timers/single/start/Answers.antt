use Rattle.std.proofs.Common.{refl}
use Rattle.shared_timer_uses.proofs.Counting.{start_makes}
use Rattle.benches.proofs.timers.single.start.Goals as goal

pub returns-clause-worked : goal.returns-clause-worked
returns-clause-worked g c =
    let told = start_makes _ _ _ _ _ _ _ _ refl c.start_logged.ensures.starts in record { mine = told.mine; id = told.keeps.id }
