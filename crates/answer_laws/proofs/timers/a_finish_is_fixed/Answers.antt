use Rattle.std.proofs.Common.{refl}
use Rattle.answer_laws.proofs.Outcomes.{logged_once, own_same}
use Rattle.answer_laws.proofs.TimerCalls.{finish_once, same_finish_entries}
use Rattle.answer_laws.proofs.timers.a_finish_is_fixed.Goals as goal

pub returns : goal.returns
returns g c = record {
  plain = λ o v w w' n restart a a' x y e. finish_once o v v w w' (own_same v) n restart a a' x y e;
  logged = λ o v w w' n restart a a' s r r' x y e.
      let same = finish_once o v v w w' (own_same v) n restart a a' x.finishes y.finishes e in
      let entries = same_finish_entries o v v w w' (own_same v) n restart a a' x.finishes y.finishes e in
      (same.0, logged_once g.S.ReceiptSink.pushed o n.timer n.timer _ _ _ _ s r r' x.logged y.logged refl e entries, same.1);
}
