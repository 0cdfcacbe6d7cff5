use Rattle.hr_timers.proofs.Logging.{forwards_before}
use Rattle.hr_timers.proofs.trying_once.try_forward.Goals as goal

pub returns-clause-forwards : goal.returns-clause-forwards
returns-clause-forwards c = (forwards_before _ c.args.row.now.about c.args.pass.now.knows c.hold_claim_once.new.pass.knows _ c.args.claim
    c.args.reading c.args.interval c.forward_held-answer.result _ _ c.in_ok-held.ensures.looks c.forward_held-answer.ensures.forwards).forwards
