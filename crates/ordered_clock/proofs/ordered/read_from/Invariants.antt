use Rattle.std.proofs.Common.{◌≡◌, ◌⊎◌}
use Rattle.clock_cell.specs.Views.{Hears, IsPassOfClock}
use Rattle.pass_names.specs.Passes.{Looks}
use Rattle.ordered_clock.proofs.ordered.read_from.Given as goal

abbrev pub invariant-loop : goal.invariant-loop
invariant-loop g l = record {
  can : (goal.iterator-loop g).can_next l.iterator';
  ends : (goal.iterator-loop g).is_finite l.iterator';
  clock : IsPassOfClock l.clock l.pass;
  looks : Looks l.fn.pass.knows.pass l.pass.knows.pass;
  heard : (l.fn.pass.knows.heard ≡ l.pass.knows.heard) ⊎ Hears l.fn.pass.knows l.pass.knows;
}
