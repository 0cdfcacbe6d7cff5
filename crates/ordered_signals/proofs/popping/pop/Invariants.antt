use Rattle.std.specs.Prelude.{◌≡◌}
use Rattle.hr_timers.specs.Known.{IsPassOf, KeepsLocks}
use Rattle.pass_names.specs.Passes.{Looks}
use Rattle.pass_names.specs.SharedHistory.{LooksOn}
use Rattle.signal_queue.specs.Views.{IsPassOfQueue}
use Rattle.ordered_signals.proofs.popping.pop.Given as goal

abbrev pub invariant-loop : goal.invariant-loop
invariant-loop g l = record {
  can : (goal.iterator-loop g).can_next l.iterator';
  ends : (goal.iterator-loop g).is_finite l.iterator';
  pass : IsPassOf l.timers l.pass;
  looks : LooksOn l.fn.pass.known l.pass.known;
  locks : KeepsLocks l.fn.pass l.pass;
  queue : l.end.queue ≡ l.signals;
  signals : IsPassOfQueue l.signals l.signal_pass;
  id : l.signal_pass.knows.pass.id ≡ l.fn.signal_pass.knows.pass.id;
  signal_looks : Looks l.fn.signal_pass.knows.pass l.signal_pass.knows.pass;
}
