use Rattle.answer_laws.proofs.OfflineCalls.{offline_once}
use Rattle.answer_laws.proofs.timers.taking_a_base_off_line_is_fixed.Goals as goal

pub returns : goal.returns
returns g c = record {
  plain = λ o fresh base heir reading v w w' budget a a' x y knows e at.
      let same = offline_once {A = Unit {0}} (λ s receipt. s) o base heir reading v w w' budget tt tt tt fresh knows e a a' x y at in (same.0, same.2);
  logged = λ o fresh base heir reading v w w' budget a a' s r r' x y knows e at.
      offline_once g.S.ReceiptSink.pushed o base heir reading v w w' budget s r r' fresh knows e a a' x y at;
}
