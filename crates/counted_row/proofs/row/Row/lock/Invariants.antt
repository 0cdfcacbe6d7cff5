use Rattle.counted_row.specs.Views.{Sees}
use Rattle.counted_row.proofs.row.Row.lock.Given as goal

abbrev pub invariant-loop : goal.invariant-loop
invariant-loop g l = record {
  can : (goal.iterator-loop g).can_next l.iterator';
  ends : (goal.iterator-loop g).is_finite l.iterator';
  sees : Sees l.fn.pass l.pass;
}
