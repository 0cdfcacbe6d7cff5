use Rattle.base_row.specs.Calls.{IsBasePassOf, Waits}
use Rattle.base_row.proofs.row.BaseRow.wait_for_base.Given as goal

abbrev pub invariant-loop : goal.invariant-loop
invariant-loop g l = record {
  can : (goal.iterator-loop g).can_next l.iterator';
  ends : (goal.iterator-loop g).is_finite l.iterator';
  row : IsBasePassOf l.fn.self l.pass;
  waits : Waits l.fn.base l.fn.pass.knows l.pass.knows;
}
