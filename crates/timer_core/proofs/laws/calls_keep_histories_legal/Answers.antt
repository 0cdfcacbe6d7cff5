use Rattle.timer_core.proofs.Runs.{legal_along}
use Rattle.timer_core.proofs.laws.calls_keep_histories_legal.Goals as goal

pub returns : goal.returns
returns c = record {
  legal = λ bases terms id list calls end run there. (legal_along bases terms id list calls end run there).0;
  kept = λ bases terms id list calls end run there. (legal_along bases terms id list calls end run there).1;
}
