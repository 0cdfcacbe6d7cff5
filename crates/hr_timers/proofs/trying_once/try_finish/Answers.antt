use Rattle.hr_timers.proofs.Logging.{finishes_before}
use Rattle.hr_timers.proofs.trying_once.try_finish.Goals as goal

pub returns-clause-finishes : goal.returns-clause-finishes
returns-clause-finishes c = (finishes_before _ c.args.row.now.about c.args.pass.now.knows c.hold_claim_once.new.pass.knows _ c.args.claim
    c.args.restart c.finish_held-answer.result _ _ c.in_ok-held.ensures.looks c.finish_held-answer.ensures.finishes).finishes
