use Rattle.hr_timers.proofs.Logging.{claims_before}
use Rattle.hr_timers.proofs.trying_once.try_claim.Goals as goal

pub returns-clause-claims : goal.returns-clause-claims
returns-clause-claims c = (claims_before _ c.args.row.now.about c.args.pass.now.knows c.lock_once.new.pass.knows _ c.args.context c.args.base
    c.args.reading c.claim_on-answer.result _ _ c.in_ok-held.ensures.looks c.claim_on-answer.ensures.claims).claims
