use Rattle.std.proofs.Common.{refl}
use Rattle.shared_timer_uses.proofs.Counting.{start_makes}
use Rattle.shared_timer_uses.proofs.threads.start_counted.Goals as goal

pub returns-clause-made : goal.returns-clause-made
returns-clause-made g c = start_makes _ _ _ _ _ _ _ _ refl c.start_logged.ensures.starts
