use Rattle.script_text.proofs.VersionOne as version_one
use Rattle.script_text.proofs.reading.laws.version_one_is_hard.Goals as goal

pub returns : goal.returns
returns c = version_one.version_one_is_hard
