use Rattle.hr_timers.proofs.Answered.{cancel_tells, claim_tells, finish_tells, forward_tells, peek_tells, start_tells}
use Rattle.hr_timers.proofs.laws.a_call_answers_the_stamp.Goals as goal

pub returns : goal.returns
returns c = record {
  start = start_tells;
  cancel = cancel_tells;
  peek = peek_tells;
  claim = claim_tells;
  forward = forward_tells;
  finish = finish_tells;
}
