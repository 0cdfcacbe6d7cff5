use Rattle.hr_timers.proofs.SentThere.{sent_there}
use Rattle.hr_timers.proofs.once_laws.a_send_and_an_arrive_are_a_start.Goals as goal

pub returns : goal.returns
returns c = sent_there
