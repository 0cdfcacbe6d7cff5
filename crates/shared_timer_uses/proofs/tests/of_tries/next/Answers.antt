use Rattle.shared_timer_uses.proofs.Claims.{next_claims}
use Rattle.shared_timer_uses.proofs.tests.of_tries.next.Goals as goal

pub returns-clause-claims : goal.returns-clause-claims
returns-clause-claims c = next_claims _ _ _ _ _ _ _ c.try_next.ensures.next
