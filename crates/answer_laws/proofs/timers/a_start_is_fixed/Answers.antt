use Rattle.std.proofs.Common.{ap, refl}
use Rattle.answer_laws.specs.Outcomes.{StartMoment}
use Rattle.answer_laws.proofs.Outcomes.{logged_once, own_same}
use Rattle.answer_laws.proofs.TimerCalls.{same_start_entries, start_once}
use Rattle.answer_laws.proofs.timers.a_start_is_fixed.Goals as goal

pub returns : goal.returns
returns g c = record {
  plain = λ o v w w' t asked a a' x y e. start_once o v v w w' (own_same v) t asked asked a a' x y refl e;
  logged = λ o v w w' t asked a a' s r r' x y e.
      let same = start_once o v v w w' (own_same v) t asked asked a a' x.starts y.starts refl e in
      let entries = same_start_entries o v v w w' (own_same v) t asked asked a a' x.starts y.starts refl e in
      (same.0, logged_once _ o t t _ _ _ _ s r r' x.logged y.logged refl (ap (λ (m : StartMoment). m.at) e) entries, same.1);
}
