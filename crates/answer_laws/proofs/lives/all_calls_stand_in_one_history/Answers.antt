use Rattle.answer_laws.proofs.InOneHistory.{lives_stand}
use Rattle.answer_laws.proofs.lives.all_calls_stand_in_one_history.Goals as goal

pub returns : goal.returns
returns c = lives_stand
