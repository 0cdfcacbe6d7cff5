use Rattle.std.specs.Prelude.{◌≡◌}
use Rattle.hr_timers.specs.Known.{IsPassOf}
use Rattle.signal_queue.specs.Views.{IsPassOfQueue}
use Rattle.shared_timer_uses.proofs.tests.of_ordered_signals.send.Given as goal

abbrev pub invariant-loop : goal.invariant-loop
invariant-loop g l = record {
  can : (goal.iterator-loop g).can_next l.iterator';
  ends : (goal.iterator-loop g).is_finite l.iterator';
  pass : IsPassOf l.timers l.pass;
  id : l.pass.known.id ≡ l.fn.pass.known.id;
  claims : l.pass.known.claims ≡ l.fn.pass.known.claims;
  queue : IsPassOfQueue l.signals l.queue;
  queue_id : l.queue.knows.pass.id ≡ l.fn.queue.knows.pass.id;
}
