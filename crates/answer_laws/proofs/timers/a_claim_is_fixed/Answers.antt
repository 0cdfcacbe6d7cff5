use Rattle.answer_laws.proofs.ClaimCalls.{claim_logged_once, claim_once, claims_once}
use Rattle.answer_laws.proofs.Outcomes.{own_same}
use Rattle.answer_laws.proofs.timers.a_claim_is_fixed.Goals as goal

pub returns : goal.returns
returns g c = record {
  plain = λ o fresh v w w' x base reading a a' p q knows e. claim_once o v v w w' (own_same v) x base reading a a' p q fresh knows e;
  entry = λ o v w w' x base reading n m p q e. claims_once o v v w w' (own_same v) x base reading n m p q e;
  logged = λ o fresh v w w' x base reading a a' s r r' p q knows e.
      let same = claim_once o v v w w' (own_same v) x base reading a a' p.claims q.claims fresh knows e in
      let sink = claim_logged_once o v v w w' (own_same v) x base reading g.S.ReceiptSink.pushed s r r' a a' p.claims q.claims e same.0 p.logged q.logged in
      (same.0, sink, same.1);
}
