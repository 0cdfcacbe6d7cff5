use Rattle.base_row.proofs.Stable.{stable_own}
use Rattle.base_row.proofs.laws.a_holder_has_seen_all_of_its_timers.Goals as goal

pub returns : goal.returns
returns c o log s home j v at h held t within ours = stable_own o log s home v (home.each_view j v at) h held t within ours
