use Rattle.std.proofs.Common.{◌≡◌}
use Rattle.clock_cell.specs.Views.{IsPassOfClock}
use Rattle.hr_timers.specs.Known.{IsPassOf}
use Rattle.benches.proofs.clocks.alone.read_in_order.Given as goal

abbrev pub invariant-loop : goal.invariant-loop
invariant-loop g l = record {
  pass : IsPassOf l.timers l.pass;
  id : l.pass.known.id ≡ l.fn.pass.known.id;
  claims : l.pass.known.claims ≡ l.fn.pass.known.claims;
  clock : IsPassOfClock l.clock l.clock_pass;
  clock_id : l.clock_pass.knows.pass.id ≡ l.fn.clock_pass.knows.pass.id;
}
