use Rattle.timer_uses.proofs.Claims.{no_claim}
use Rattle.timer_uses.proofs.once.expire_once.Goals as goal

pub returns-in-NoneDue-clause-next : goal.returns-in-NoneDue-clause-next
returns-in-NoneDue-clause-next g c = λ expires id running first.
    absurd (no_claim c.claim_next.result _ _ _ c.in-NoneDue.is (c.claim_next.ensures.claimed expires id running first))
