use Rattle.std.proofs.Common.{refl}
use Rattle.answer_laws.proofs.Outcomes.{logged_once, own_same}
use Rattle.answer_laws.proofs.TimerCalls.{forward_once, same_forward_entries}
use Rattle.answer_laws.proofs.timers.a_forward_is_fixed.Goals as goal

pub returns : goal.returns
returns g c = record {
  plain = λ o v w w' n reading interval a a' x y e. forward_once o v v w w' (own_same v) n reading interval a a' x y e;
  logged = λ o v w w' n reading interval a a' s r r' x y e.
      let same = forward_once o v v w w' (own_same v) n reading interval a a' x.forwards y.forwards e in
      let entries = same_forward_entries o v v w w' (own_same v) n reading interval a a' x.forwards y.forwards e in
      (same.0, logged_once _ o n.timer n.timer _ _ _ _ s r r' x.logged y.logged refl e entries, same.1);
}
