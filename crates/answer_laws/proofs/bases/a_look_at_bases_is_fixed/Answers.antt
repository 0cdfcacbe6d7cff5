use Rattle.std.proofs.Common.{◌+◌}
use Rattle.base_row.specs.Plays.{greater, having_freed, having_met, joined_base_view}
use Rattle.answer_laws.proofs.BaseCalls.{by_seen, waits_once}
use Rattle.answer_laws.proofs.bases.a_look_at_bases_is_fixed.Goals as goal

pub returns : goal.returns
returns c = record {
  loads = λ v w w' a b e. by_seen (λ l. having_met l v.met v) _ _ w w' a.rest b.rest e;
  frees = λ o h v w w' a b e. by_seen (λ l. having_freed l h.base (h.word + 1) v) _ _ w w' a.rest b.rest e;
  meets = λ v u w w' a b e. by_seen (λ l. having_met l (greater v.met u.met) v) _ _ w w' a.rest b.rest e;
  retires = λ v u w w' a b e. by_seen (λ l. having_met l (greater v.met u.met) (joined_base_view v u)) _ _ w w' a.rest b.rest e;
  waits = waits_once;
}
