use Rattle.clock_cell.specs.Views.{IsPassOfClock}
use Rattle.pass_names.specs.Passes.{Looks}
use Rattle.pass_names.specs.SharedHistory.{LooksOn}
use Rattle.hr_timers.specs.Known.{IsPassOf, KeepsLocks}
use Rattle.ordered_clock.proofs.ordered.settle.Given as goal

abbrev pub invariant-loop : goal.invariant-loop
invariant-loop g l = record {
  can : (goal.iterator-loop g).can_next l.iterator';
  ends : (goal.iterator-loop g).is_finite l.iterator';
  pass : IsPassOf l.timers l.pass;
  looks : LooksOn l.fn.pass.known l.pass.known;
  locks : KeepsLocks l.fn.pass l.pass;
  clock : IsPassOfClock l.clock l.clock_pass;
  clock_looks : Looks l.fn.clock_pass.knows.pass l.clock_pass.knows.pass;
}
