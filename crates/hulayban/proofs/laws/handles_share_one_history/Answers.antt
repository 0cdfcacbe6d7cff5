use Rattle.hulayban.proofs.Shares.{all_share}
use Rattle.hulayban.proofs.laws.handles_share_one_history.Goals as goal

pub returns : goal.returns
returns c = all_share
