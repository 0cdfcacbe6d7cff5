use Rattle.answer_laws.proofs.NowCalls.{behind_once, not_refused}
use Rattle.answer_laws.proofs.timers.a_cancel_behind_a_rise_is_fixed.Goals as goal

pub returns : goal.returns
returns g c = record {
  cancels = λ o counter from v w w' t a a' s r r' x y e. behind_once g.S.ReceiptSink.pushed o counter from v w w' t a a' s r r' x y e;
  refused = not_refused;
}
