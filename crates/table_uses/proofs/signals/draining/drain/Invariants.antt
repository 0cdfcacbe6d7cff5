use Rattle.std.specs.Prelude.{◌≡◌}
use Rattle.signal_queue.specs.Views.{IsPassOfQueue}
use Rattle.table_uses.proofs.signals.draining.drain.Given as goal

abbrev pub invariant-loop : goal.invariant-loop
invariant-loop g l = record {
  pass : IsPassOfQueue l.signals l.pass;
  id : l.pass.knows.pass.id ≡ l.fn.pass.knows.pass.id;
  goes : (goal.iterator-loop g).can_next l.iterator' × (goal.iterator-loop g).is_finite l.iterator';
}
