use Rattle.std.proofs.Common.{arith}
use Rattle.hr_timers.proofs.Answered.{cancel_tells, claim_tells, finish_tells, forward_tells, peek_tells, start_tells}
use Rattle.hr_timers.proofs.laws.no_answer_is_far_past_the_limit.Goals as goal

pub returns-clause-start : goal.returns-clause-start
returns-clause-start c o v w t asked a knows told = omega (arith, start_tells o v w t asked a told, knows.few t)

pub returns-clause-cancel : goal.returns-clause-cancel
returns-clause-cancel c o v w t a knows told = omega (arith, cancel_tells o v w t a told, knows.few t)

pub returns-clause-peek : goal.returns-clause-peek
returns-clause-peek c o v w t p knows told = omega (arith, peek_tells o v w t p told, knows.few t)

pub returns-clause-claim : goal.returns-clause-claim
returns-clause-claim c o v w n x base reading knows told = omega (arith, claim_tells o v w n x base reading told, knows.few n.timer)

pub returns-clause-forward : goal.returns-clause-forward
returns-clause-forward c o v w n reading interval a knows told = omega (arith, forward_tells o v w n reading interval a told, knows.few n.timer)

pub returns-clause-finish : goal.returns-clause-finish
returns-clause-finish c o v w n restart a knows told = omega (arith, finish_tells o v w n restart a told, knows.few n.timer)
