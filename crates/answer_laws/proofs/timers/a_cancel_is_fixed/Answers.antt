use Rattle.std.proofs.Common.{ap, refl}
use Rattle.hr_timers.specs.Calls.{cancel_entries}
use Rattle.answer_laws.proofs.Outcomes.{logged_once, own_same}
use Rattle.answer_laws.proofs.TimerCalls.{cancel_once}
use Rattle.answer_laws.proofs.timers.a_cancel_is_fixed.Goals as goal

pub returns : goal.returns
returns g c = record {
  plain = λ o v w w' t a a' x y e. cancel_once o v v w w' (own_same v) t a a' x y e;
  logged = λ o v w w' t a a' s r r' x y e.
      let same = cancel_once o v v w w' (own_same v) t a a' x.cancels y.cancels e in
      (same.0, logged_once _ o t t _ _ _ _ s r r' x.logged y.logged refl e (ap cancel_entries same.0), same.1);
}
