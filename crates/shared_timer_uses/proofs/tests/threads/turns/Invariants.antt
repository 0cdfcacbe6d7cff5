use Rattle.std.specs.Prelude.{◌+◌, ◌*◌, ◌≤◌}
use Rattle.hr_timers.specs.Known.{IsPassOf}
use Rattle.hr_timers.specs.Handlers.{KeepsPass}
use Rattle.shared_timer_uses.proofs.tests.threads.turns.Given as goal

abbrev pub invariant-loop : goal.invariant-loop
invariant-loop g l = record {
  pass : IsPassOf l.fn.timers l.pass;
  keeps : KeepsPass l.fn.pass.known l.pass.known;
  few : l.made ≤ 2 * l.counter;
  room : l.fn.log.spare ≤ l.log.spare + 4 * l.counter;
}
