use Rattle.std.proofs.Common.{length}
use Rattle.base_row.specs.Calls.{entry_in}
use Rattle.base_row.specs.Plays.{carry_after, claims_with_event, having_entered, having_shifted}
use Rattle.base_row.specs.Rules.{timer_seen}
use Rattle.answer_laws.proofs.BaseCalls.{by_seen}
use Rattle.answer_laws.proofs.bases.an_entry_on_a_base_is_fixed.Goals as goal

pub returns : goal.returns
returns c = record {
  timers = λ o h t event v w w' a b e. by_seen (λ l. having_entered l (entry_in o v t event) (timer_seen o v t) h
      (claims_with_event t (timer_seen o v t) event v.claims)
      (carry_after t (timer_seen o v t) event v.carry) v) _ _ w w' a.rest b.rest e;
  bases = λ o h event v w w' a b e. by_seen (λ l. having_shifted l (length o.timers) event h v) _ _ w w' a.rest b.rest e;
}
