use Rattle.timer_uses.proofs.Claims.{no_claim}
use Rattle.timer_uses.proofs.periodic.expire_periodic.Goals as goal

pub returns-in-NoneDue-clause-full : goal.returns-in-NoneDue-clause-full
returns-in-NoneDue-clause-full g c = λ expires id running first none.
    absurd (no_claim c.claim_next.result _ _ _ c.in-NoneDue.is (c.claim_next.ensures.claimed expires id running first))
