use Rattle.fit_laws.proofs.NoSlack.{version_one_recorded}
use Rattle.fit_laws.proofs.a_record_of_version_one_has_no_slack.Goals as goal

pub returns : goal.returns
returns c = version_one_recorded
